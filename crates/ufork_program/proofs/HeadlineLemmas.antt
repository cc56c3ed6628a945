-- From how a call went to what it promises.
use Rattle.std.proofs.Common.{◌≡◌, ◌≢◌, ℕ, [], None, IsOk, Contains, refl, sym, ap, ◌∙◌, subst, arith, inl, inr, ◌⊎◌}
use Rattle.outside_io.specs.Faults.{Rose}
use Rattle.outside_io.specs.States.{NoneRose, SinksStill, SinkRose, CountsBelowLast}
use Rattle.outside_io.specs.Parts.{console_of, Quiet}
use Rattle.outside_io.specs.Answers.{memory_wanted, write_fault}
use Rattle.outside_io.proofs.AnswerLemmas.{Still-not_Rose, SinkRose-at, SinksStill-not_SinkRose, Ends-passed, Cut-nil}
use Rattle.outside_io.proofs.MomentLemmas.{EndsAt-answer, EndsAt-cut, CutAt-parts}
use Rattle.command_words.specs.Commands.{read_of}
use Rattle.machine_types.specs.declared.config.Outcome.{Outcome}
use Rattle.machine_types.specs.declared.config.Outcome.TheVariants.{Running, Done, Stuck}
use Rattle.machine.specs.Readiness.{outcome_of}
use Rattle.ufork_program.specs.Answer.{word_at, refused}
use Rattle.ufork_program.specs.Request.{setup_of, parts_shown, course_of, NamesNoSource, NamesShown, NamesNoImage, NamesNoSchedule, NamesGuest, NamesTooMany, ReadsInput, HasLongInput, IsReadAt, HasFilesCause, TookSome}
use Rattle.ufork_program.specs.Headline.{Call, Left, WentWhole, WasCut, OfSources, OfCourse, WantedMemory, HasFault, TellsOfWords, FileFailed, TellsOfFile, LineCut, InputBroke}
use Rattle.ufork_program.specs.Headline.{TellsOfInput, InputLineCut, CourseCut, Ran, Showed, TellsOfSource, TellsOfImage, TellsOfSchedule, TellsOfLength, TellsOfFrames, statuses, Promises, Went}
use Rattle.ufork_program.specs.declared.request.Guest.{Guest}
use Rattle.ufork_program.specs.declared.request.Request.{Request}
use Rattle.ufork_program.specs.declared.request.Request.TheVariants.{Refused, NoMemory, Run, Show}
use Rattle.ufork_program.specs.declared.request.CommandRefusal.TheVariants.{Usage, CannotRead, NoImage, NoSchedule, InputFailed, InputTooLong, NoFrames, NoSource}
use Rattle.ufork_program.proofs.CourseLemmas.{WentBy, went_by, request-told, course-told, has_room, is_usage_or_command}
use Rattle.ufork_program.proofs.EndingLemmas.{Ending, words_end, file_end, image_end, schedule_end, input_end, length_end, frames_end, source_end, memory_end, done_end, stopped_end, stuck_end}
use Rattle.ufork_program.proofs.EndingLemmas.{status_at, same_ending, not_fault_at, known_at, run_ending, run_ending-none, end_of, ending_of, ending_of-status, course_of-not_fault}
use Rattle.ufork_program.proofs.CutLemmas.{files_kept_unless, unbroken_unless, course_cut}

-- words with a fault are no command
fault_is_none : (c : Call) (place : ℕ) → HasFault c place → IsOk (read_of c.words) → ⊥
fault_is_none c place fault ok = let h = rw fault at ok in cc

module _ (c : Call) where
  -- where no part was cut, the course of the request went to its end
  went_whole : (h : Went c) → c.status ≢ write_fault → WentWhole c (course_of c.words h.request)
  went_whole h other = elim h.ends.ended [
    | inl w ↦ record { status = w.whole.status_is; written = w.whole.written; left = w.left }
    | inr w ↦ absurd (other w.status_is)
  ]

  -- and else a part of it was cut
  was_cut : (h : Went c) → c.status ≡ write_fault → WasCut c (course_of c.words h.request)
  was_cut h e = EndsAt-cut (course_of c.words h.request) (Left c) (console_of c.old) (console_of c.new) c.status h.ends e (course_of-not_fault c.words h.request)

  -- so the count of a sink rose
  sink_failed : Went c → c.status ≡ write_fault → SinkRose c.old c.new
  sink_failed h e = let cut = was_cut h e in SinkRose-at cut.part c.old c.new cut.rose

  -- which it did not where no sink failed
  not_fault : Went c → SinksStill c.old c.new → c.status ≢ write_fault
  not_fault h still e = SinksStill-not_SinkRose c.old c.new still (sink_failed h e)

  -- the file that failed is one that the command reads
  failed_at : (index : ℕ) → WentBy c (Refused (CannotRead index)) → FileFailed c (word_at c.words index)
  failed_at index by = record {
    rose = by.files_cause.0;
    index = index;
    word = refl;
    read = request-told c (Refused (CannotRead index)) (λ sources. IsReadAt c.words sources.files index) by by.comes.is;
    last = by.files_cause.1;
    unasked = by.input_after;
  }

  -- the input that failed is one that the words ask for
  broke : WentBy c (Refused InputFailed) → InputBroke c
  broke by = record { read = request-told c (Refused InputFailed) (λ sources. ReadsInput c.words sources.files) by by.comes.is; took = by.input_after; kept = by.files_cause }

  -- a guest was run whole
  ran_by : (outcome : Outcome) (guest : Guest) → outcome_of (end_of guest) ≡ outcome → WentBy c (Run guest) → WentWhole c (course_of c.words (Run guest)) → Ran outcome c
  ran_by outcome guest outcome_is by w = record {
    setup = setup_of guest;
    named = request-told c (Run guest) (λ sources. NamesGuest c.words sources (setup_of guest)) by by.comes.is;
    room = has_room guest by.usable;
    outcome_is = outcome_is;
    written = w.written;
    left = w.left;
    read = by.input_after;
  }

  -- the input is as it was, unless it is read
  abbrev IsKept : Type 0
  IsKept = (c.new.input ≡ c.old.input) ⊎ OfSources c (λ sources. ReadsInput c.words sources.files)

  -- memory was wanted before the input was read, or after it was read to its end
  wanted_by : WentBy c NoMemory → IsKept → WentWhole c (refused memory_wanted) → WantedMemory c
  wanted_by by kept w = record { whole = w; input = input by.input_after kept }
    where
      input : (c.new.input ≡ c.old.input) ⊎ TookSome c.old.input c.new.input → IsKept → (c.new.input ≡ c.old.input) ⊎ (TookSome c.old.input c.new.input × OfSources c (λ sources. ReadsInput c.words sources.files))
      input (inl same) kept = inl same
      input (inr took) (inl same) = inl same
      input (inr took) (inr reads) = inr (took, reads)

  -- what each ending tells
  Tells : Ending → Type 0
  Tells words_end = TellsOfWords c
  Tells file_end = TellsOfFile c
  Tells image_end = TellsOfImage c
  Tells schedule_end = TellsOfSchedule c
  Tells input_end = TellsOfInput c
  Tells length_end = TellsOfLength c
  Tells frames_end = TellsOfFrames c
  Tells source_end = TellsOfSource c
  Tells memory_end = WantedMemory c
  Tells done_end = Ran Done c ⊎ Showed c
  Tells stopped_end = Ran Running c
  Tells stuck_end = Ran Stuck c

  -- the ending of a run
  ran_as : (outcome : Outcome) (guest : Guest) → outcome_of (end_of guest) ≡ outcome → WentBy c (Run guest) → WentWhole c (course_of c.words (Run guest)) → Tells (run_ending outcome)
  unfolding Tells
  ran_as Running guest outcome_is by w = ran_by Running guest outcome_is by w
  ran_as Stuck guest outcome_is by w = ran_by Stuck guest outcome_is by w
  ran_as Done guest outcome_is by w = inl (ran_by Done guest outcome_is by w)

  -- and of each request
  tells_by : (request : Request) → WentBy c request → IsKept → WentWhole c (course_of c.words request) → Tells (ending_of request)
  unfolding Tells
  tells_by (Refused (Usage place)) by kept w = record { place = place; fault = by.comes.is; whole = w }
  tells_by (Refused (CannotRead index)) by kept w = record { name = word_at c.words index; failed = failed_at index by; whole = w }
  tells_by (Refused (NoImage fault)) by kept w =
      record { fault = fault; named = request-told c (Refused (NoImage fault)) (λ sources. NamesNoImage c.words sources.files fault) by by.comes.is; whole = w }
  tells_by (Refused (NoSchedule line)) by kept w =
      record { line = line; named = request-told c (Refused (NoSchedule line)) (λ sources. NamesNoSchedule c.words sources.files line) by by.comes.is; whole = w }
  tells_by (Refused InputFailed) by kept w = record { broke = broke by; whole = w }
  tells_by (Refused InputTooLong) by kept w = record { named = request-told c (Refused InputTooLong) (HasLongInput c.words) by by.comes.is; took = by.input_after; whole = w }
  tells_by (Refused (NoFrames pages frames)) by kept w = record {
    pages = pages;
    frames = frames;
    named = request-told c (Refused (NoFrames pages frames)) (λ sources. NamesTooMany c.words sources pages frames) by by.comes.is;
    read = by.input_after;
    whole = w;
  }
  tells_by (Refused (NoSource fault)) by kept w = record {
    fault = fault;
    named = request-told c (Refused (NoSource fault)) (λ sources. NamesNoSource c.words sources.files fault) by by.comes.is;
    whole = w;
    unasked = by.input_after;
  }
  tells_by NoMemory by kept w = wanted_by by kept w
  tells_by (Run guest) by kept w = ran_as (outcome_of (end_of guest)) guest refl by w
  tells_by (Show parts) by kept w = inr (record {
    parts = parts_shown parts;
    named = request-told c (Show parts) (λ sources. NamesShown c.words sources.files (parts_shown parts)) by by.comes.is;
    whole = w;
    unasked = by.input_after;
  })

  -- the ending of a call is that of its status
  ending_is : (e : Ending) (request : Request) → WentWhole c (course_of c.words request) → c.status ≡ status_at e → ending_of request ≡ e
  ending_is e request w at = same_ending (ending_of request) e (sym (ending_of-status c.words request) ∙ sym w.status ∙ at)

  -- so each status tells what it is to tell
  tells : (e : Ending) → Went c → c.status ≡ status_at e → Tells e
  tells e h at =
      let w = went_whole h (λ fault. not_fault_at e (sym at ∙ fault)) in
      subst Tells (ending_is e h.request w at) (tells_by h.request (went_by c h) h.input_kept w)

  -- all of the course was written, memory was wanted, or a file or the input failed
  abbrev IsWhole : Type 0
  IsWhole = OfCourse c (WentWhole c) ⊎ (WantedMemory c ⊎ (TellsOfFile c ⊎ TellsOfInput c))

  -- so it is by the request
  whole_by : (request : Request) → WentBy c request → IsKept → WentWhole c (course_of c.words request) → IsWhole
  whole_by (Refused (CannotRead index)) by kept w = inr (inr (inl (record { name = word_at c.words index; failed = failed_at index by; whole = w })))
  whole_by (Refused InputFailed) by kept w = inr (inr (inr (record { broke = broke by; whole = w })))
  whole_by NoMemory by kept w = inr (inl (wanted_by by kept w))
  whole_by request by kept w = inl (course-told c request (WentWhole c) tt by w)

  -- where no write failed
  whole : Went c → c.status ≢ write_fault → IsWhole
  whole h other = whole_by h.request (went_by c h) h.input_kept (went_whole h other)

  -- and where no count rose, no file failed, nor did the input
  answered : Went c → NoneRose c.old c.new → OfCourse c (WentWhole c) ⊎ WantedMemory c
  answered h none = elim (whole h (not_fault h none.sinks)) [
    | inl w ↦ inl w
    | inr w ↦ elim w [
      | inl m ↦ inr m
      | inr f ↦ elim f [
        | inl t ↦ absurd (Still-not_Rose c.old.files.faults c.new.files.faults none.files t.failed.rose)
        | inr t ↦ absurd (Still-not_Rose c.old.input.faults c.new.input.faults none.input t.broke.took.rose)
      ]
    ]
  ]

  -- where no write failed, no sink met a fault
  quiet : Went c → c.status ≢ write_fault → Quiet (console_of c.old) (console_of c.new)
  quiet h other = elim h.ends.ended [
    | inl w ↦ w.whole.quiet
    | inr w ↦ absurd (other w.status_is)
  ]

  -- a part of the course was cut
  cut_by : (request : Request) → WentBy c request → WasCut c (course_of c.words request) → CourseCut c ⊎ (LineCut c ⊎ InputLineCut c)
  cut_by (Refused (CannotRead index)) by w = inr (inl (record { name = word_at c.words index; failed = failed_at index by; cut = w }))
  cut_by (Refused InputFailed) by w = inr (inr (record { broke = broke by; cut = w }))
  cut_by NoMemory by w = absurd (Cut-nil (CutAt-parts [] (Left c) (console_of c.old) (console_of c.new) w))
  cut_by request by w = inl (course_cut c request tt by w)

  -- where a write failed, a part was cut
  cut_short : Went c → c.status ≡ write_fault → CourseCut c ⊎ (LineCut c ⊎ InputLineCut c)
  cut_short h e = cut_by h.request (went_by c h) (was_cut h e)

  -- words that are no command are refused
  no_command_by : (request : Request) → WentBy c request → (place : ℕ) → HasFault c place → (found : ℕ) × (request ≡ Refused (Usage found))
  no_command_by request by place fault = elim (is_usage_or_command c.words by.comes.sources request by.comes.is) [
    | inl u ↦ u
    | inr ok ↦ absurd (fault_is_none c place fault ok)
  ]

  -- a request is answered by its status, where no write failed
  status_by : (h : Went c) (request : Request) → h.request ≡ request → c.status ≢ write_fault → c.status ≡ (course_of c.words request).status
  status_by h request is other = (went_whole h other).status ∙ ap (λ q. (course_of c.words q).status) is

  -- so words that are no command are answered by 2
  no_command : Went c → (place : ℕ) → HasFault c place → c.status ≢ write_fault → c.status ≡ 2
  no_command h place fault other = let found = no_command_by h.request (went_by c h) place fault in status_by h (Refused (Usage found.0)) found.1 other

  -- and no file is asked for
  unasked : Went c → (place : ℕ) → HasFault c place → c.new.files ≡ c.old.files
  unasked h place fault = subst (HasFilesCause c.words c.old.files c.new.files) (no_command_by h.request (went_by c h) place fault).1 h.files_cause

  -- where the count of a sink rose, the status is that of a write that failed
  sink_passed : Went c → CountsBelowLast c.old → SinkRose c.old c.new → c.status ≡ write_fault
  sink_passed h below rose = Ends-passed _ c.old c.new c.status (EndsAt-answer _ (Left c) (console_of c.old) (console_of c.new) c.status h.ends) below rose

  -- the files are as they were, or one failed and the status is that of a file
  files_kept_or : Went c → c.status ≢ write_fault → (c.new.files ≡ c.old.files) ⊎ (c.status ≡ 3)
  files_kept_or h other = elim (files_kept_unless c.words c.old.files c.new.files h.request h.files_cause) [
    | inl kept ↦ inl kept
    | inr found ↦ inr (status_by h (Refused (CannotRead found.0)) found.1 other)
  ]

  -- so they are where it is another
  files_kept : Went c → c.status ≢ write_fault → c.status ≢ 3 → c.new.files ≡ c.old.files
  files_kept h other others = elim (files_kept_or h other) [ inl kept ↦ kept | inr is ↦ absurd (others is) ]

  -- and it is where their count rose, and no sink failed
  file_passed : Went c → CountsBelowLast c.old → SinksStill c.old c.new → Rose c.old.files.faults c.new.files.faults → c.status ≡ 3
  file_passed h below still rose = elim (files_kept_or h (not_fault h still)) [
    | inl kept ↦ let same = ap (λ files. files.faults) kept in absurd (omega (arith, below.files))
    | inr is ↦ is
  ]

  -- where the count of the input rose, it is that of the input
  input_passed : Went c → CountsBelowLast c.old → SinksStill c.old c.new → Rose c.old.input.faults c.new.input.faults → c.status ≡ 6
  input_passed h below still rose = elim (unbroken_unless c.old.input c.new.input h.request h.input_after) [
    | inl kept ↦ absurd (omega (arith, below.input))
    | inr found ↦ status_by h (Refused InputFailed) found (not_fault h still)
  ]

  -- where nothing was run, the board is left as it was
  not_run_by : (request : Request) → WentWhole c (course_of c.words request) → c.status ≢ 0 → c.status ≢ 8 → c.status ≢ 9 → Left c None
  not_run_by (Refused refusal) w done stopped stuck = w.left
  not_run_by NoMemory w done stopped stuck = w.left
  not_run_by (Show parts) w done stopped stuck = w.left
  not_run_by (Run guest) w done stopped stuck = absurd (run_ending-none (outcome_of (end_of guest)) c.status w.status done stopped stuck)

  -- so it is at the end of the call
  not_run : Went c → c.status ≢ write_fault → c.status ≢ 0 → c.status ≢ 8 → c.status ≢ 9 → Left c None
  not_run h other done stopped stuck = not_run_by h.request (went_whole h other) done stopped stuck

  -- the status is among those that there are
  known : Went c → Contains statuses c.status
  known h = elim h.ends.ended [
    | inl w ↦ subst (Contains statuses) (sym (w.whole.status_is ∙ ending_of-status c.words h.request)) (known_at (ending_of h.request))
    | inr w ↦ subst (Contains statuses) (sym w.status_is) (6, omega arith, refl)
  ]

  -- all that is promised
  pub promises : Went c → Promises c
  unfolding Tells
  promises h = record {
    answered = answered h;
    whole = whole h;
    quiet = quiet h;
    cut_short = cut_short h;
    done = tells done_end h;
    stopped = tells stopped_end h;
    stuck = tells stuck_end h;
    usage = tells words_end h;
    no_command = no_command h;
    file_failed = tells file_end h;
    image_refused = tells image_end h;
    schedule_refused = tells schedule_end h;
    input_failed = tells input_end h;
    input_too_long = tells length_end h;
    frames_lacked = tells frames_end h;
    source_refused = tells source_end h;
    sink_failed = sink_failed h;
    sink_passed = sink_passed h;
    file_passed = file_passed h;
    input_passed = input_passed h;
    memory_wanted = tells memory_end h;
    not_run = not_run h;
    known = known h;
    later = h.ends.later;
    unasked = unasked h;
    contents = h.contents_kept;
    files_kept = files_kept h;
    input_kept = h.input_kept;
  }
