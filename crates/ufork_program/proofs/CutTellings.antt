-- What follows from a promise where a part of the course, or the line of a file or an input that failed, was cut.
use Rattle.std.proofs.Common.{◌≡◌, ℕ, suc, ◌+◌, ◌⊎◌, inl, inr, List, [], ◌∷◌, ◌++◌, Option, Some, None, sym, ap, ◌∙◌, subst, arith, append-nil}
use Rattle.outside_io.specs.Faults.{Rose}
use Rattle.outside_io.specs.States.{FilesState, SourceState, CountsBelowLast}
use Rattle.outside_io.specs.Parts.{Part, RoseAt, err_part, front_of, console_of, Written}
use Rattle.outside_io.specs.Answers.{Answer, refusal}
use Rattle.outside_io.specs.Moments.{Moment, Course, parts_of, while_stands}
use Rattle.outside_io.proofs.MomentLemmas.{parts_of-append, parts_of-while}
use Rattle.ufork_program.specs.Lines.{cannot_read_line, input_failed_line}
use Rattle.machine.specs.Machines.{Machine}
use Rattle.machine_steps.specs.Runs.{Setup, start}
use Rattle.machine_steps.specs.Steps.{state}
use Rattle.ufork_program.specs.declared.run.Show.TheVariants.{Console}
use Rattle.ufork_program.specs.Run.{run_moments, run_end, last_line, run_course, course_from, moments_of, EndsAtTheLeast, RunsEndAtTheLeast}
use Rattle.ufork_program.specs.Request.{NamesGuest, HasLongInput}
use Rattle.ufork_program.specs.Answer.{Sources, course, refused, shown, cannot_read, input_failed}
use Rattle.ufork_program.specs.Headline.{Call, Left, WasCut, LineCut, InputLineCut, CourseCut}
use Rattle.ufork_program.specs.Telling.{Tells, TookThere}
use Rattle.ufork_program.specs.Cutting.{CutInShown, CutInStep, CutAtLastLine, HasFront, CutAtName, CutAtInput}
use Rattle.ufork_program.proofs.SplitLemmas.{IsSplit, in_first, in_second, split, one_moment, moment-of}
use Rattle.ufork_program.proofs.StepMoments.{IsInStep, in_step}
use Rattle.ufork_program.proofs.TellingLemmas.{told-holds, took-front, read-told, broke-taken}

-- While a refusal is answered no machine stands, so the board is the empty one that was handed over.
pub refusal-left : (call : Call) (answer : Answer) → WasCut call (refused answer) → Left call None
refusal-left call answer h = subst (Left call) (moment-of None answer.parts h.before h.part h.state h.after h.list).stands_is h.left

-- So it is where the line of a file or an input that failed was cut.
pub line-left : (call : Call) → LineCut call ⊎ InputLineCut call → Left call None
line-left call (inl h) = refusal-left call (cannot_read h.name) h.cut
line-left call (inr h) = refusal-left call input_failed h.cut

-- A file or an input that failed raised its count, where that stood below its last value.
line-not_cut : (call : Call) → CountsBelowLast call.old → call.new.files.faults ≡ call.old.files.faults
    → call.new.input.faults ≡ call.old.input.faults → LineCut call ⊎ InputLineCut call → ⊥
line-not_cut call below kept unbroken (inl h) = omega (arith, below.files, kept, h.failed.rose)
line-not_cut call below kept unbroken (inr h) = omega (arith, below.input, unbroken, h.broke.took.rose)

-- Of a refusal's line that was cut a front is written.
line-front : (call : Call) (status : ℕ) (line : List ℕ) → WasCut call (refused (refusal status line)) → HasFront call line
line-front call status line h =
    let last = one_moment (err_part line) None h.before h.part h.state h.after h.list in
    let first : Written (parts_of h.before ++ front_of h.count (err_part line) ∷ []) (console_of call.old) (console_of call.new) =
    subst (λ p. Written (parts_of h.before ++ front_of h.count p ∷ []) (console_of call.old) (console_of call.new)) last.1 h.written in
    record { count = h.count; written = subst (λ (l : List (Moment (Option Machine))). Written (parts_of l ++ front_of h.count (err_part line) ∷ []) (console_of call.old) (console_of call.new)) last.0 first }

module _ (call : Call) (sources : Sources) (told : Tells call sources) where
  -- A part of the course by what is told was cut.
  course-told : (c : Course (Option Machine)) → course call.words sources ≡ c → CourseCut call → WasCut call c
  course-told c is h = subst (WasCut call) is (told-holds call sources _ told h.cut).cut

  -- So the board is the empty one that was handed over where that is a refusal, and where another refusal's line was cut.
  pub refusal-told : (answer : Answer) → course call.words sources ≡ refused answer → CourseCut call ⊎ (LineCut call ⊎ InputLineCut call) → Left call None
  refusal-told answer is (inl h) = refusal-left call answer (course-told (refused answer) is h)
  refusal-told answer is (inr h) = line-left call h

  -- Of what is shown of a file a part was cut.
  pub shown-cut : (parts : List Part) → course call.words sources ≡ shown parts → CountsBelowLast call.old → call.new.files.faults ≡ call.old.files.faults
      → call.new.input.faults ≡ call.old.input.faults → CourseCut call ⊎ (LineCut call ⊎ InputLineCut call) → CutInShown call parts
  shown-cut parts is below kept unbroken (inl h) =
      let cut = course-told (shown parts) is h in
      let moment = moment-of None parts cut.before cut.part cut.state cut.after cut.list in
      let earlier : parts_of cut.before ≡ moment.before = ap parts_of moment.earlier_are ∙ parts_of-while None moment.before in
      let left : Left call None = subst (Left call) moment.stands_is cut.left in
      record {
        before = moment.before;
        part = cut.part;
        after = moment.after;
        parts_are = moment.list;
        some = cut.some;
        rose = cut.rose;
        count = cut.count;
        written = subst (λ l. Written (l ++ front_of cut.count cut.part ∷ []) (console_of call.old) (console_of call.new)) earlier cut.written;
        given = left.0;
        empty = left.1;
      }
  shown-cut parts is below kept unbroken (inr h) = absurd (line-not_cut call below kept unbroken h)

  module _ (m : Machine) (limit : ℕ) where
    -- A cut moment of the steps is a cut part of one of them.
    cut-in_step : (h : WasCut call (course_from Console m limit)) (ends : EndsAtTheLeast Console m limit) → IsInStep m ends.steps h.before h.part h.state → CutInStep call m limit
    cut-in_step h ends step =
        let earlier : parts_of h.before ≡ parts_of (moments_of Console m step.steps) ++ step.before =
        ap parts_of step.earlier_are ∙ parts_of-append (moments_of Console m step.steps) (while_stands (Some (state m (suc step.steps))) step.before)
        ∙ ap (λ l. parts_of (moments_of Console m step.steps) ++ l) (parts_of-while (Some (state m (suc step.steps))) step.before) in
        let left : Left call (Some (state m (suc step.steps))) = subst (Left call) step.stands_is h.left in
        let next : suc step.steps ≡ step.steps + 1 = omega arith in
        record {
          steps = step.steps;
          within = omega (arith, step.within, ends.within);
          running = ends.running step.steps step.within;
          before = step.before;
          part = h.part;
          after = step.after;
          parts = step.list;
          some = h.some;
          rose = h.rose;
          count = h.count;
          written = subst (λ l. Written (l ++ front_of h.count h.part ∷ []) (console_of call.old) (console_of call.new)) earlier h.written;
          stands = subst (λ n. Left call (Some (state m n))) next left;
        }

    -- A cut moment after the steps is the last line.
    cut-at_last : (h : WasCut call (course_from Console m limit)) (rest : List (Moment (Option Machine))) → h.before ≡ run_moments Console m limit ++ rest
        → (rest ≡ []) × (h.part ≡ err_part (last_line (run_end m limit))) × (h.state ≡ Some (run_end m limit)) → CutAtLastLine call m limit
    cut-at_last h rest is last =
        let earlier : h.before ≡ run_moments Console m limit = is ∙ ap (λ l. run_moments Console m limit ++ l) last.0 ∙ append-nil (run_moments Console m limit) in
        let written : Written (parts_of (run_moments Console m limit) ++ front_of h.count h.part ∷ []) (console_of call.old) (console_of call.new) =
        subst (λ l. Written (parts_of l ++ front_of h.count h.part ∷ []) (console_of call.old) (console_of call.new)) earlier h.written in
        record {
          rose = subst (λ p. RoseAt p (console_of call.old) (console_of call.new)) last.1 h.rose;
          count = h.count;
          written = subst (λ p. Written (parts_of (run_moments Console m limit) ++ front_of h.count p ∷ []) (console_of call.old) (console_of call.new)) last.1 written;
          stands = subst (Left call) last.2 h.left;
        }

    -- So a cut moment of a run is a part of a step, or the last line.
    cut-in_run : EndsAtTheLeast Console m limit → WasCut call (course_from Console m limit) → CutInStep call m limit ⊎ CutAtLastLine call m limit
    cut-in_run ends h = by (split (run_moments Console m limit) ((err_part (last_line (run_end m limit)), Some (run_end m limit)) ∷ []) h.before (h.part, h.state) h.after h.list)
      where
        by : IsSplit (run_moments Console m limit) ((err_part (last_line (run_end m limit)), Some (run_end m limit)) ∷ []) h.before (h.part, h.state) h.after
            → CutInStep call m limit ⊎ CutAtLastLine call m limit
        by (in_first rest is) = inl (cut-in_step h ends (in_step m ends.steps h.before h.part h.state rest (sym ends.moments ∙ is)))
        by (in_second rest is tail) = inr (cut-at_last h rest is (one_moment (err_part (last_line (run_end m limit))) (Some (run_end m limit)) rest h.part h.state h.after tail))

  -- A cut run was cut there, where no count stood at its last value and neither a file nor the input failed.
  pub run-told : RunsEndAtTheLeast → (setup : Setup) → course call.words sources ≡ run_course setup → CountsBelowLast call.old → call.new.files.faults ≡ call.old.files.faults
      → call.new.input.faults ≡ call.old.input.faults → CourseCut call ⊎ (LineCut call ⊎ InputLineCut call)
      → CutInStep call (start setup) setup.config.steps ⊎ CutAtLastLine call (start setup) setup.config.steps
  run-told ends setup is below kept unbroken (inl h) =
      cut-in_run (start setup) setup.config.steps (ends Console (start setup) setup.config.steps) (course-told (run_course setup) is h)
  run-told ends setup is below kept unbroken (inr h) = absurd (line-not_cut call below kept unbroken h)

  -- The input of a cut run was read to its end.
  pub cut-read : (setup : Setup) → NamesGuest call.words sources setup → CountsBelowLast call.old → call.new.files.faults ≡ call.old.files.faults
      → call.new.input.faults ≡ call.old.input.faults → CourseCut call ⊎ (LineCut call ⊎ InputLineCut call) → call.new.input.left ≡ Some []
  cut-read setup named below kept unbroken (inl h) = read-told call sources told setup.input ((told-holds call sources _ told h.cut).all setup named)
  cut-read setup named below kept unbroken (inr h) = absurd (line-not_cut call below kept unbroken h)

  -- Of an input that is too long one byte more than it may have was taken.
  pub cut-long : HasLongInput call.words sources → CountsBelowLast call.old → call.new.files.faults ≡ call.old.files.faults
      → call.new.input.faults ≡ call.old.input.faults → CourseCut call ⊎ (LineCut call ⊎ InputLineCut call) → TookThere call sources
  cut-long long below kept unbroken (inl h) =
      let took = (told-holds call sources _ told h.cut).too_many long in
      let front = took-front call sources told took.bytes took.took in
      record { long = long; taken = took.bytes; rest = front.rest; front = front.front; number = took.number; left = front.left_is }
  cut-long long below kept unbroken (inr h) = absurd (line-not_cut call below kept unbroken h)

  -- Of the line of a refusal a front is written.
  pub cut-line : (status : ℕ) (line : List ℕ) → course call.words sources ≡ refused (refusal status line) → CountsBelowLast call.old
      → call.new.files.faults ≡ call.old.files.faults → call.new.input.faults ≡ call.old.input.faults → CourseCut call ⊎ (LineCut call ⊎ InputLineCut call) → HasFront call line
  cut-line status line leads below kept unbroken (inl h) = line-front call status line (course-told (refused (refusal status line)) leads h)
  cut-line status line leads below kept unbroken (inr h) = absurd (line-not_cut call below kept unbroken h)

  -- So it is of that of an input that failed, whose front was taken.
  pub cut-broke : CountsBelowLast call.old → Rose call.old.input.faults call.new.input.faults → CourseCut call ⊎ (LineCut call ⊎ InputLineCut call) → CutAtInput call sources
  cut-broke below rose (inl h) = absurd (omega (arith, below.input, h.unbroken, rose))
  cut-broke below rose (inr (inl h)) = absurd (omega (arith, below.input, ap (λ (s : SourceState). s.faults) h.failed.unasked, rose))
  cut-broke below rose (inr (inr h)) = record { broke = broke-taken call sources told h.broke; kept = h.broke.kept; front = line-front call 6 input_failed_line h.cut }

-- Where a file failed and no count stood at its last value, the cut line is a refusal's.
pub cut-file : (call : Call) → CountsBelowLast call.old → Rose call.old.files.faults call.new.files.faults → CourseCut call ⊎ (LineCut call ⊎ InputLineCut call) → Left call None
cut-file call below rose (inl h) =
    let kept : call.new.files.faults ≡ call.old.files.faults = ap (λ (f : FilesState). f.faults) h.kept in
    absurd (omega (arith, below.files, kept, rose))
cut-file call below rose (inr h) = line-left call h

-- So it is where the input failed.
pub cut-input : (call : Call) → CountsBelowLast call.old → Rose call.old.input.faults call.new.input.faults → CourseCut call ⊎ (LineCut call ⊎ InputLineCut call) → Left call None
cut-input call below rose (inl h) = absurd (omega (arith, below.input, h.unbroken, rose))
cut-input call below rose (inr h) = line-left call h

-- And of that of a file, whose name failed last.
pub cut-named : (call : Call) → CountsBelowLast call.old → Rose call.old.files.faults call.new.files.faults → CourseCut call ⊎ (LineCut call ⊎ InputLineCut call) → CutAtName call
cut-named call below rose (inl h) = absurd (omega (arith, below.files, ap (λ (f : FilesState). f.faults) h.kept, rose))
cut-named call below rose (inr (inl h)) = record { name = h.name; last = h.failed.last; front = line-front call 3 (cannot_read_line h.name) h.cut }
cut-named call below rose (inr (inr h)) = absurd (omega (arith, below.files, ap (λ (f : FilesState). f.faults) h.broke.kept, rose))
