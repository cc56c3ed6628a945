-- The endings of a course, and their statuses.
use Rattle.std.proofs.Common.{◌≡◌, ◌≢◌, ℕ, List, Contains, if◌then◌else◌, nat_eq, refl, sym, ap, ◌∙◌, arith}
use Rattle.outside_io.specs.Answers.{write_fault}
use Rattle.machine_types.specs.declared.config.Outcome.{Outcome}
use Rattle.machine_types.specs.declared.config.Outcome.TheVariants.{Running, Done, Stuck}
use Rattle.machine.specs.Machines.{Machine}
use Rattle.machine.specs.Readiness.{outcome_of}
use Rattle.machine_steps.specs.Runs.{start, status_of}
use Rattle.ufork_program.specs.Run.{run_end}
use Rattle.ufork_program.specs.Request.{setup_of, course_of}
use Rattle.ufork_program.specs.Headline.{statuses}
use Rattle.ufork_program.specs.declared.request.Guest.{Guest}
use Rattle.ufork_program.specs.declared.request.Request.{Request}
use Rattle.ufork_program.specs.declared.request.Request.TheVariants.{Refused, NoMemory, Run, Show}
use Rattle.ufork_program.specs.declared.request.CommandRefusal.TheVariants.{Usage, CannotRead, NoImage, NoSchedule, InputFailed, InputTooLong, NoFrames, NoSource}

-- how a course ends
pub data Ending : Type 0 where
  words_end : Ending
  file_end : Ending
  image_end : Ending
  schedule_end : Ending
  input_end : Ending
  length_end : Ending
  frames_end : Ending
  source_end : Ending
  memory_end : Ending
  done_end : Ending
  stopped_end : Ending
  stuck_end : Ending

-- each has its status
abbrev pub status_at : Ending → ℕ
status_at words_end = 2
status_at file_end = 3
status_at image_end = 4
status_at schedule_end = 5
status_at input_end = 6
status_at length_end = 11
status_at frames_end = 12
status_at source_end = 13
status_at memory_end = 10
status_at done_end = 0
status_at stopped_end = 8
status_at stuck_end = 9

-- by which it is found
abbrev ending_at : ℕ → Ending
ending_at n =
    if nat_eq n 2 then words_end else if nat_eq n 3 then file_end else if nat_eq n 4 then image_end else if nat_eq n 5 then schedule_end
    else if nat_eq n 6 then input_end else if nat_eq n 11 then length_end else if nat_eq n 12 then frames_end else if nat_eq n 13 then source_end
    else if nat_eq n 10 then memory_end else if nat_eq n 0 then done_end else if nat_eq n 8 then stopped_end else stuck_end

-- it is
ending_at-status : (e : Ending) → ending_at (status_at e) ≡ e
ending_at-status words_end = refl
ending_at-status file_end = refl
ending_at-status image_end = refl
ending_at-status schedule_end = refl
ending_at-status input_end = refl
ending_at-status length_end = refl
ending_at-status frames_end = refl
ending_at-status source_end = refl
ending_at-status memory_end = refl
ending_at-status done_end = refl
ending_at-status stopped_end = refl
ending_at-status stuck_end = refl

-- so endings with one status are one
pub same_ending : (a b : Ending) → status_at a ≡ status_at b → a ≡ b
same_ending a b e = sym (ending_at-status a) ∙ ap ending_at e ∙ ending_at-status b

-- no ending has the status of a write fault
pub not_fault_at : (e : Ending) → status_at e ≢ write_fault
not_fault_at words_end h = omega arith
not_fault_at file_end h = omega arith
not_fault_at image_end h = omega arith
not_fault_at schedule_end h = omega arith
not_fault_at input_end h = omega arith
not_fault_at length_end h = omega arith
not_fault_at frames_end h = omega arith
not_fault_at source_end h = omega arith
not_fault_at memory_end h = omega arith
not_fault_at done_end h = omega arith
not_fault_at stopped_end h = omega arith
not_fault_at stuck_end h = omega arith

-- each status is one of those that there are
pub known_at : (e : Ending) → Contains statuses (status_at e)
known_at words_end = (1, omega arith, refl)
known_at file_end = (2, omega arith, refl)
known_at image_end = (3, omega arith, refl)
known_at schedule_end = (4, omega arith, refl)
known_at input_end = (5, omega arith, refl)
known_at length_end = (10, omega arith, refl)
known_at frames_end = (11, omega arith, refl)
known_at source_end = (12, omega arith, refl)
known_at memory_end = (9, omega arith, refl)
known_at done_end = (0, omega arith, refl)
known_at stopped_end = (7, omega arith, refl)
known_at stuck_end = (8, omega arith, refl)

-- the ending of a run, by how its machine stands
abbrev pub run_ending : Outcome → Ending
run_ending Done = done_end
run_ending Running = stopped_end
run_ending Stuck = stuck_end

-- whose status is that of the run
run_ending-status : (o : Outcome) → status_of o ≡ status_at (run_ending o)
run_ending-status Done = refl
run_ending-status Running = refl
run_ending-status Stuck = refl

-- a status that is none of the three is none of a run
pub run_ending-none : (o : Outcome) (status : ℕ) → status ≡ status_of o → status ≢ 0 → status ≢ 8 → status ≢ 9 → ⊥
run_ending-none Done status e done stopped stuck = done e
run_ending-none Running status e done stopped stuck = stopped e
run_ending-none Stuck status e done stopped stuck = stuck e

-- the machine at the end of the run of a guest
abbrev pub end_of : Guest → Machine
end_of guest = run_end (start (setup_of guest)) guest.config.steps

-- the ending of the course of a request
abbrev pub ending_of : Request → Ending
ending_of (Refused (Usage place)) = words_end
ending_of (Refused (CannotRead index)) = file_end
ending_of (Refused (NoImage fault)) = image_end
ending_of (Refused (NoSchedule line)) = schedule_end
ending_of (Refused InputFailed) = input_end
ending_of (Refused InputTooLong) = length_end
ending_of (Refused (NoFrames pages frames)) = frames_end
ending_of (Refused (NoSource fault)) = source_end
ending_of NoMemory = memory_end
ending_of (Run guest) = run_ending (outcome_of (end_of guest))
ending_of (Show parts) = done_end

-- has its status
pub ending_of-status : (words : List (List ℕ)) (request : Request) → (course_of words request).status ≡ status_at (ending_of request)
ending_of-status words (Refused (Usage place)) = refl
ending_of-status words (Refused (CannotRead index)) = refl
ending_of-status words (Refused (NoImage fault)) = refl
ending_of-status words (Refused (NoSchedule line)) = refl
ending_of-status words (Refused InputFailed) = refl
ending_of-status words (Refused InputTooLong) = refl
ending_of-status words (Refused (NoFrames pages frames)) = refl
ending_of-status words (Refused (NoSource fault)) = refl
ending_of-status words NoMemory = refl
ending_of-status words (Run guest) = run_ending-status (outcome_of (end_of guest))
ending_of-status words (Show parts) = refl

-- no course has the status of a write fault
pub course_of-not_fault : (words : List (List ℕ)) (request : Request) → (course_of words request).status ≢ write_fault
course_of-not_fault words request e = not_fault_at (ending_of request) (sym (ending_of-status words request) ∙ e)
