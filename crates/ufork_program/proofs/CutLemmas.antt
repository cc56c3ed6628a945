-- What became of the files and of the console's input, by the request that was answered, also where its course was cut.
use Rattle.std.proofs.Common.{◌≡◌, ℕ, List, length, Some, None, IfSome, Ok, Err, arith, refl, sym, ap, ◌∙◌, subst, inl, inr, ◌⊎◌}
use Rattle.std.proofs.lemmas.List.{append-nil}
use Rattle.std.specs.declared.option.Option.{Option}
use Rattle.std.specs.Io.KnownBytes.{Consumes, IsAtEnd}
use Rattle.outside_io.specs.States.{FilesState, SourceState}
use Rattle.cap_format.specs.declared.image.ImageFault.{ImageFault}
use Rattle.outside_io.specs.Parts.{Part}
use Rattle.asm_text.specs.declared.source.SourceFault.{SourceFault}
use Rattle.command_words.specs.declared.words.Command.TheVariants as command
use Rattle.command_words.specs.Commands.{read_of}
use Rattle.run_texts.specs.Schedules.{schedule_of}
use Rattle.machine_steps.specs.Runs.{Setup}
use Rattle.ufork_program.specs.Input.{TookAll, TookTooMany}
use Rattle.ufork_program.specs.Answer.{Files, Sources}
use Rattle.ufork_program.specs.Request.{setup_of, parts_shown, course_of, file_index, NamesNoSource, IsShownOf, NamesShown, NamesNoImage, NamesNoSchedule, HasSchedule, IsScheduleAt, NamesGuest, ReadsInput, HasLongInput, AreTold, HasFilesCause, IsInputAfter}
use Rattle.ufork_program.specs.Headline.{Call, WasCut, CutWith, CourseCut}
use Rattle.ufork_program.specs.declared.request.Request.{Request}
use Rattle.ufork_program.specs.declared.request.Request.TheVariants.{Refused, NoMemory, Run, Show}
use Rattle.ufork_program.specs.declared.request.CommandRefusal.TheVariants.{Usage, CannotRead, NoImage, NoSchedule, InputFailed, InputTooLong, NoFrames, NoSource}
use Rattle.ufork_program.proofs.CourseLemmas.{IsOfCourse, WentBy, came_leads, request-told}

-- the files are as they were, unless one of them failed
pub files_kept_unless : (words : List (List ℕ)) (old new : FilesState) (request : Request) → HasFilesCause words old new request
    → (new ≡ old) ⊎ ((index : ℕ) × (request ≡ Refused (CannotRead index)))
files_kept_unless words old new (Refused (CannotRead index)) cause = inr (index, refl)
files_kept_unless words old new request cause = inl cause

-- no read of the input failed, unless it was refused for that
pub unbroken_unless : (old new : SourceState) (request : Request) → IsInputAfter old new request → (new.faults ≡ old.faults) ⊎ (request ≡ Refused InputFailed)
unbroken_unless old new (Refused InputFailed) cause = inr refl
unbroken_unless old new (Refused InputTooLong) cause = inl cause.kept
unbroken_unless old new (Refused (NoFrames pages frames)) cause = inl cause.all.kept
unbroken_unless old new (Run guest) cause = inl cause.kept
unbroken_unless old new NoMemory (inl cause) = inl (ap (λ source. source.faults) cause)
unbroken_unless old new NoMemory (inr cause) = inl cause.all.kept
unbroken_unless old new request cause = inl (ap (λ source. source.faults) cause)

-- words that name a guest ask for the input
pub guest_reads : (words : List (List ℕ)) (sources : Sources) (setup : Setup) → NamesGuest words sources setup → ReadsInput words sources.files
guest_reads words sources setup h = record { config = setup.config; schedule = setup.schedule; file = setup.file; names = h.names }

module _ (words : List (List ℕ)) (files : Files) where
  -- words that are no command do not ask for it
  usage_reads_none : (place : ℕ) → read_of words ≡ Err (record { place = place }) → ReadsInput words files → ⊥
  usage_reads_none place is reads = let command = reads.names.names.names.command in cc

  -- nor do those whose file is no image
  no_image_reads_none : (fault : ImageFault) → NamesNoImage words files fault → ReadsInput words files → ⊥
  no_image_reads_none fault h reads =
      let m = reads.names.names.names in
      let same : h.command ≡ command.Run reads.names.options m.image = let first = h.names.is in let second = m.command in cc in
      let found : files m.image ≡ Some h.file = subst (λ tool. files (file_index tool) ≡ Some h.file) same h.names.found in
      let wrong = h.fault_is in let right = reads.names.names.image in let content = m.content in cc

  -- nor do those of a source
  no_source_reads_none : (fault : SourceFault) → NamesNoSource words files fault → ReadsInput words files → ⊥
  no_source_reads_none fault h reads = let first = h.names.is in let second = reads.names.names.names.command in cc

  -- nor those that show a file
  shown_reads_none : (parts : List Part) → NamesShown words files parts → ReadsInput words files → ⊥
  shown_reads_none parts h reads =
      let m = reads.names.names.names in
      let same : h.command ≡ command.Run reads.names.options m.image = let first = h.names.is in let second = m.command in cc in
      subst (λ tool. IsShownOf tool h.content parts) same h.shown_is

  -- nor those whose text is no schedule
  no_schedule_reads_none : (line : ℕ) → NamesNoSchedule words files line → ReadsInput words files → ⊥
  no_schedule_reads_none line h reads =
      let n = h.names in let m = reads.names in
      let first = n.names.names.command in let second = m.names.names.command in
      let named : m.options.schedule ≡ Some n.index = let is = n.named in cc in
      let has : HasSchedule (files n.index) reads.schedule = subst (λ option. IsScheduleAt files option reads.schedule) named m.schedule_is in
      let right : schedule_of h.text ≡ Ok reads.schedule = subst (λ found. HasSchedule found reads.schedule) n.content has in
      let wrong = h.wrong in cc

-- no guest has an input that is too long
long_names_none : (words : List (List ℕ)) (sources : Sources) (setup : Setup) → HasLongInput words sources → NamesGuest words sources setup → ⊥
long_names_none words sources setup long names = let same = ap length names.input_is in omega (arith, names.fits, long.longer)

-- what was taken to its end is all that was told
all_consumed : (left now : Option (List ℕ)) (bytes input : List ℕ) → IfSome left (λ left. input ≡ left) → IsAtEnd now → Consumes left now bytes → Consumes left now input
all_consumed None now bytes input told end took = tt
all_consumed (Some before) None bytes input told end took = absurd took
all_consumed (Some before) (Some rest) bytes input told end took = rw end (sym told ∙ sym (append-nil input))

-- what is to be taken of the input of these sources
record Taken (call : Call) (sources : Sources) : Type 0 where
  all : (setup : Setup) → NamesGuest call.words sources setup → TookAll setup.input call.old.input call.new.input
  too_many : HasLongInput call.words sources → TookTooMany call.old.input call.new.input

module _ (c : Call) where
  -- nothing, where none is read
  none_taken : (sources : Sources) → (ReadsInput c.words sources.files → ⊥) → Taken c sources
  none_taken sources none = record { all = λ setup names. absurd (none (guest_reads c.words sources setup names)); too_many = λ long. absurd (none long.reads) }

  -- one byte more than it may have, where it is too long
  too_many_taken : (sources : Sources) → HasLongInput c.words sources → TookTooMany c.old.input c.new.input → Taken c sources
  too_many_taken sources long took = record { all = λ setup names. absurd (long_names_none c.words sources setup long names); too_many = λ _. took }

  -- and all, where it was read to its end
  all_taken : (sources : Sources) (setup : Setup) (bytes : List ℕ) → AreTold c.words c.old.files.contents c.old.input.left sources → NamesGuest c.words sources setup
      → TookAll bytes c.old.input c.new.input → Taken c sources
  all_taken sources setup bytes told names took = record {
    all = λ setup names. record {
      took = all_consumed c.old.input.left c.new.input.left bytes setup.input (rw names.input_is told.input) took.end took.took;
      end = took.end;
      few = names.fits;
      kept = took.kept;
    };
    too_many = λ long. absurd (long_names_none c.words sources setup long names);
  }

  -- so it is for the sources of a request
  taken_by : (request : Request) → IsOfCourse request → (by : WentBy c request) → Taken c by.comes.sources
  taken_by (Refused (Usage place)) of by = none_taken by.comes.sources (usage_reads_none c.words by.comes.sources.files place by.comes.is)
  taken_by (Refused (CannotRead index)) of by = absurd of
  taken_by (Refused (NoImage fault)) of by = none_taken by.comes.sources (no_image_reads_none c.words by.comes.sources.files fault by.comes.is)
  taken_by (Refused (NoSchedule line)) of by = none_taken by.comes.sources (no_schedule_reads_none c.words by.comes.sources.files line by.comes.is)
  taken_by (Refused InputFailed) of by = absurd of
  taken_by (Refused InputTooLong) of by = too_many_taken by.comes.sources by.comes.is by.input_after
  taken_by (Refused (NoFrames pages frames)) of by = all_taken by.comes.sources by.comes.is.setup by.input_after.bytes by.comes.told by.comes.is.names by.input_after.all
  taken_by (Refused (NoSource fault)) of by = none_taken by.comes.sources (no_source_reads_none c.words by.comes.sources.files fault by.comes.is)
  taken_by NoMemory of by = absurd of
  taken_by (Show parts) of by = none_taken by.comes.sources (shown_reads_none c.words by.comes.sources.files (parts_shown parts) by.comes.is)
  taken_by (Run guest) of by = all_taken by.comes.sources (setup_of guest) guest.input.items by.comes.told by.comes.is by.input_after

  -- where neither a file nor the input failed, the course of the sources was cut
  pub course_cut : (request : Request) → IsOfCourse request → WentBy c request → WasCut c (course_of c.words request) → CourseCut c
  course_cut request of by cut =
      let taken = taken_by request of by in
      record {
        kept = elim (files_kept_unless c.words c.old.files c.new.files request by.files_cause) [ inl kept ↦ kept | inr found ↦ absurd (subst IsOfCourse found.1 of) ];
        unbroken = elim (unbroken_unless c.old.input c.new.input request by.input_after) [ inl kept ↦ kept | inr found ↦ absurd (subst IsOfCourse found of) ];
        cut = request-told c request (CutWith c) by (record {
          cut = subst (WasCut c) (sym (came_leads c.words by.comes.sources request of by.usable by.comes.is)) cut;
          all = taken.all;
          too_many = taken.too_many;
        });
      }
