-- What a run is by the machine of all processes alone.
use Rattle.std.specs.Prelude.{ℕ, ◌≡◌, [], ◌∷◌, ◌++◌, Some}
use Rattle.outside_io.specs.Parts.{err_part}
use Rattle.machine.specs.Readiness.{outcome_of}
use Rattle.machine_steps.specs.Steps.{state}
use Rattle.machine_steps.specs.Runs.{Setup, start, RunsFor, run_status}
use Rattle.machine_steps.specs.Laws.{MayBoot}
use Rattle.run_texts.specs.Endings as endings
use Rattle.ufork_program.specs.declared.run.Show.TheVariants.{Console}
use Rattle.ufork_program.specs.Run.{run_course, moments_of}

-- The run of what is set up, where it ends after so many steps: the machine there has made as many. The run's parts are those of these steps, and then
-- the last line, which tells their number; its status is that of the machine there, which stands at the end.
pub record IsRunFor (setup : Setup) (k : ℕ) : Type 0 where
  pub counted : (state (start setup) k).clock.steps ≡ k
  pub is : run_course setup ≡ record {
    status = run_status setup k;
    moments = moments_of Console (start setup) k ++ (err_part (endings.last_line (outcome_of (state (start setup) k)) k), Some (state (start setup) k)) ∷ [];
    end = Some (state (start setup) k);
  }

-- Each run of what may be set up ends after a number of steps, and is the run for that number.
pub record RunsAreExact : Type 0 where
  pub some : (setup : Setup) → MayBoot setup → (k : ℕ) × RunsFor setup k
  pub exact : (setup : Setup) (k : ℕ) → MayBoot setup → RunsFor setup k → IsRunFor setup k
