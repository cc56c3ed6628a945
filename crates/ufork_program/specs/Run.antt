-- What a run prints, what stands meanwhile, and where it ends.
use Rattle.std.specs.Prelude.{◌≡◌, ℕ, zero, suc, ◌<◌, ◌≤◌, ◌⊎◌, false, Some, None, List, [], ◌∷◌, ◌++◌, if◌then◌else◌}
use Rattle.std.specs.declared.option.Option.{Option}
use Rattle.outside_io.specs.Parts.{Part, out_part, err_part}
use Rattle.outside_io.specs.Moments.{Moment, Course, while_stands}
use Rattle.contents.specs.Content.{Content}
use Rattle.stores.specs.declared.space.Stores.{Ghosts}
use Rattle.machine_types.specs.declared.config.Outcome.TheVariants.{Running}
use Rattle.machine.specs.Machines.{Machine}
use Rattle.machine.specs.Readiness.{outcome_of}
use Rattle.machine_steps.specs.Steps.{Step, step_of, state}
use Rattle.machine_steps.specs.Runs.{Setup, start, is_running, status_of}
use Rattle.kernel_loop.specs.declared.kernel.Kernel.{Kernel}
use Rattle.kernel_loop.specs.Kernels.{KernelStands}
use Rattle.run_texts.specs.Endings as endings
use Rattle.ufork_program.specs.declared.run.Show.{Show}
use Rattle.ufork_program.specs.declared.run.Show.TheVariants.{Console, Quiet}

-- A step has a part for the output, which is the piece that it printed, or none, and then one for the errors: the line of the process, if
-- it ended.
abbrev pub parts_as : Show → List ℕ → List ℕ → List Part
parts_as Console piece line = out_part piece ∷ err_part line ∷ []
parts_as Quiet piece line = err_part line ∷ []

abbrev pub shown_parts : Show → Step → List Part
shown_parts show s = parts_as show s.printed (endings.end_line s.report)

abbrev pub step_parts : Show → Machine → List Part
step_parts show m = shown_parts show (step_of m)

-- The moments of a run of at most so many steps, which ends where the machine doesn't run. While the parts of a step are written, the
-- machine after it stands.
unfoldable pub run_moments : Show → Machine → ℕ → List (Moment (Option Machine))
run_moments show m zero = []
run_moments show m (suc left) = if is_running (outcome_of m) then while_stands (Some (step_of m).next) (step_parts show m) ++ run_moments show (step_of m).next left else []

-- the machine at the end of that run
unfoldable pub run_end : Machine → ℕ → Machine
run_end m zero = m
run_end m (suc left) = if is_running (outcome_of m) then run_end (step_of m).next left else m

-- the status and the last line of a run that ended there, by how the machine stands
abbrev pub status_at : Machine → ℕ
status_at m = status_of (outcome_of m)

abbrev pub last_line : Machine → List ℕ
last_line m = endings.last_line (outcome_of m) m.clock.steps

-- the course of a run of at most so many steps: its steps, and then the last line, while the machine at the end stands
abbrev pub course_from : Show → Machine → ℕ → Course (Option Machine)
course_from show m left =
    let end = run_end m left in
    record { status = status_at end; moments = run_moments show m left ++ (err_part (last_line end), Some end) ∷ []; end = Some end }

-- the run of what is set up, of at most the configured steps
abbrev pub run_course : Setup → Course (Option Machine)
run_course setup = course_from Console (start setup) setup.config.steps

-- the moments of so many steps
unfoldable pub moments_of : Show → Machine → ℕ → List (Moment (Option Machine))
moments_of show m zero = []
moments_of show m (suc steps) = moments_of show m steps ++ while_stands (Some (state m (suc steps))) (step_parts show (state m steps))

-- The run ends after the least number of steps at which the machine doesn't run, or at the limit.
pub record EndsAtTheLeast (show : Show) (m : Machine) (left : ℕ) : Type 0 where
  pub steps : ℕ
  pub within : steps ≤ left
  pub running : (made : ℕ) → made < steps → outcome_of (state m made) ≡ Running
  pub over : (steps ≡ left) ⊎ (is_running (outcome_of (state m steps)) ≡ false)
  pub end : run_end m left ≡ state m steps
  pub moments : run_moments show m left ≡ moments_of show m steps

-- each run does
abbrev pub RunsEndAtTheLeast : Type 0
RunsEndAtTheLeast = (show : Show) (m : Machine) (left : ℕ) → EndsAtTheLeast show m left

-- a machine that stands is one for which the kernel does
abbrev pub IsLeftIn : {S : Type 0} {g : Ghosts S} → (S → Content → Type 0) → Kernel S g → Option Machine → Type 0
IsLeftIn stands_for k None = ⊥
IsLeftIn stands_for k (Some m) = KernelStands stands_for k m
