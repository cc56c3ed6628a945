-- What follows from what a call promises where a part was cut: which part it is, and which board comes back.
use Rattle.std.specs.Prelude.{◌≡◌, ℕ, ◌+◌, ◌<◌, ◌⊎◌, List, [], ◌∷◌, ◌++◌, take, Some}
use Rattle.outside_io.specs.Faults.{Rose}
use Rattle.outside_io.specs.States.{CountsBelowLast}
use Rattle.outside_io.specs.Parts.{Part, err_part, HasBytes, RoseAt, front_of, console_of, Written}
use Rattle.outside_io.specs.Answers.{Answer, refusal, write_fault}
use Rattle.outside_io.specs.Moments.{parts_of}
use Rattle.stores.specs.Boards.{IsEmpty, Stands}
use Rattle.ufork_program.specs.Lines.{cannot_read_line, input_failed_line}
use Rattle.machine.specs.Machines.{Machine}
use Rattle.machine_steps.specs.Runs.{Setup, start}
use Rattle.machine_types.specs.declared.config.Outcome.TheVariants.{Running}
use Rattle.machine.specs.Readiness.{outcome_of}
use Rattle.machine_steps.specs.Steps.{state}
use Rattle.ufork_program.specs.declared.run.Show.TheVariants.{Console}
use Rattle.ufork_program.specs.Run.{step_parts, run_moments, run_end, last_line, run_course, moments_of}
use Rattle.ufork_program.specs.Answer.{Sources, course, refused, shown}
use Rattle.ufork_program.specs.Request.{NamesGuest, HasLongInput}
use Rattle.ufork_program.specs.Headline.{Call, Promises}
use Rattle.ufork_program.specs.Telling.{Tells, BrokeThere, TookThere}

-- A part of a step was cut: the parts of the steps before it are written, the parts of the step before the cut one, and a prefix of that
-- one, and the count of its sink rose. The board stands for the machine after the step.
pub record CutInStep (call : Call) (m : Machine) (limit : ℕ) : Type 0 where
  pub steps : ℕ
  pub within : steps < limit
  pub running : outcome_of (state m steps) ≡ Running
  pub before : List Part
  pub part : Part
  pub after : List Part
  pub parts : step_parts Console (state m steps) ≡ before ++ part ∷ after
  pub some : HasBytes part
  pub rose : RoseAt part (console_of call.old) (console_of call.new)
  pub count : ℕ
  pub written : Written ((parts_of (moments_of Console m steps) ++ before) ++ front_of count part ∷ []) (console_of call.old) (console_of call.new)
  pub stands : Stands call.left (state m (steps + 1)).content

-- The last line was cut: all parts of the steps are written, and a prefix of the line, and the count of the errors rose. The board stands for the machine at the end.
pub record CutAtLastLine (call : Call) (m : Machine) (limit : ℕ) : Type 0 where
  pub rose : Rose call.old.err.faults call.new.err.faults
  pub count : ℕ
  pub written : Written (parts_of (run_moments Console m limit) ++ front_of count (err_part (last_line (run_end m limit))) ∷ []) (console_of call.old) (console_of call.new)
  pub stands : Stands call.left (run_end m limit).content

-- Of the line of a refusal so many bytes are written, and nothing else.
pub record HasFront (call : Call) (line : List ℕ) : Type 0 where
  pub count : ℕ
  pub written : Written (err_part (take count line) ∷ []) (console_of call.old) (console_of call.new)

-- It is the line of the name that failed last.
pub record CutAtName (call : Call) : Type 0 where
  pub name : List ℕ
  pub last : call.new.files.failed_last ≡ Some name
  pub front : HasFront call (cannot_read_line name)

-- It is the line of an input that failed, and the files are as they were.
pub record CutAtInput (call : Call) (sources : Sources) : Type 0 where
  pub broke : BrokeThere call sources
  pub kept : call.new.files ≡ call.old.files
  pub front : HasFront call input_failed_line

-- A part of what is shown of a file was cut: all parts before it are written, and a front of it, and the count of its sink rose. The board comes
-- back as it was, empty.
pub record CutInShown (call : Call) (parts : List Part) : Type 0 where
  pub before : List Part
  pub part : Part
  pub after : List Part
  pub parts_are : parts ≡ before ++ part ∷ after
  pub some : HasBytes part
  pub rose : RoseAt part (console_of call.old) (console_of call.new)
  pub count : ℕ
  pub written : Written (before ++ front_of count part ∷ []) (console_of call.old) (console_of call.new)
  pub given : call.left ≡ call.given
  pub empty : IsEmpty call.left

-- Where a part was cut, which is with 7: the board comes back empty where it was the line of a refusal, of which a front is written, or
-- a part of what is shown of a file; and else it stands for the machine of the moment, and the input was read to its end. Where a file or the input had failed first, it is that one's
-- line.
pub record CutsTell : Type 0 where
  pub of_refusal : (call : Call) (sources : Sources) (answer : Answer) → Promises call → Tells call sources
      → course call.words sources ≡ refused answer → call.status ≡ write_fault → (call.left ≡ call.given) × IsEmpty call.left
  pub line : (call : Call) (sources : Sources) (status : ℕ) (line : List ℕ) → Promises call → Tells call sources
      → course call.words sources ≡ refused (refusal status line) → CountsBelowLast call.old
      → call.new.files.faults ≡ call.old.files.faults → call.new.input.faults ≡ call.old.input.faults → call.status ≡ write_fault → HasFront call line
  pub shown : (call : Call) (sources : Sources) (parts : List Part) → Promises call → Tells call sources
      → course call.words sources ≡ shown parts → CountsBelowLast call.old
      → call.new.files.faults ≡ call.old.files.faults → call.new.input.faults ≡ call.old.input.faults → call.status ≡ write_fault → CutInShown call parts
  pub run : (call : Call) (sources : Sources) (setup : Setup) → Promises call → Tells call sources
      → course call.words sources ≡ run_course setup → CountsBelowLast call.old → call.new.files.faults ≡ call.old.files.faults
      → call.new.input.faults ≡ call.old.input.faults → call.status ≡ write_fault
      → CutInStep call (start setup) setup.config.steps ⊎ CutAtLastLine call (start setup) setup.config.steps
  pub read : (call : Call) (sources : Sources) (setup : Setup) → Promises call → Tells call sources → NamesGuest call.words sources setup
      → CountsBelowLast call.old → call.new.files.faults ≡ call.old.files.faults → call.new.input.faults ≡ call.old.input.faults
      → call.status ≡ write_fault → call.new.input.left ≡ Some []
  pub long : (call : Call) (sources : Sources) → Promises call → Tells call sources → HasLongInput call.words sources → CountsBelowLast call.old
      → call.new.files.faults ≡ call.old.files.faults → call.new.input.faults ≡ call.old.input.faults → call.status ≡ write_fault → TookThere call sources
  pub file : (call : Call) → Promises call → CountsBelowLast call.old → Rose call.old.files.faults call.new.files.faults
      → call.status ≡ write_fault → (call.left ≡ call.given) × IsEmpty call.left
  pub named : (call : Call) → Promises call → CountsBelowLast call.old → Rose call.old.files.faults call.new.files.faults → call.status ≡ write_fault → CutAtName call
  pub input : (call : Call) → Promises call → CountsBelowLast call.old → Rose call.old.input.faults call.new.input.faults
      → call.status ≡ write_fault → (call.left ≡ call.given) × IsEmpty call.left
  pub broke : (call : Call) (sources : Sources) → Promises call → Tells call sources → CountsBelowLast call.old → Rose call.old.input.faults call.new.input.faults
      → call.status ≡ write_fault → CutAtInput call sources
