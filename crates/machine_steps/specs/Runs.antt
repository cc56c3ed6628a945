-- The start of an image, and the end of a run.
use Rattle.std.specs.Prelude.{ℕ, ◌≡◌, ◌-◌, ◌<◌, ◌||◌, not, nat_le, Bool, true, false, Some, None, List, [], ◌∷◌, ◌++◌, replicate}
use Rattle.machine_types.specs.declared.config.Config.{Config}
use Rattle.machine_types.specs.declared.config.Outcome.{Outcome}
use Rattle.machine_types.specs.declared.config.Outcome.TheVariants.{Running, Done, Stuck}
use Rattle.contents.specs.Content.{nothing}
use Rattle.elf_loader.specs.Numbers.{process_region}
use Rattle.elf_loader.specs.Loaded.{image_of}
use Rattle.elf_loader.specs.Start.{started, start_registers, start_pcc}
use Rattle.machine.specs.declared.process.Process.{Process}
use Rattle.machine.specs.declared.process.State.TheVariants.{Ready}
use Rattle.machine.specs.Numbers.{pipe_count}
use Rattle.machine.specs.Pipes.{console_table, no_descriptors}
use Rattle.machine.specs.Machines.{Machine}
use Rattle.machine.specs.Readiness.{outcome_of}
use Rattle.machine_steps.specs.Steps.{state}

-- What a run is set up with: its configuration, the schedule of its timer, the image's file and the console's input.
pub record Setup : Type 0 where
  pub config : Config
  pub schedule : List (ℕ × ℕ)
  pub file : List ℕ
  pub input : List ℕ

-- the quanta of a schedule in their order, each as often as it is repeated
abbrev pub quanta_of : List (ℕ × ℕ) → List ℕ
quanta_of [] = []
quanta_of (pair ∷ schedule) = replicate pair.1 pair.0 ++ quanta_of schedule

-- process 1, which has no parent
abbrev pub first_process : ℕ → Process
first_process entry = record { id = 1; parent = 0; region = process_region; regs = start_registers; pcc = start_pcc entry; state = Ready }

-- The machine where the image in the file was started: process 1 is in slot 0, and the slot dispatched last is the highest.
abbrev pub start : Setup → Machine
start setup = record {
  config = setup.config;
  processes = Some (first_process (image_of setup.file).entry) ∷ replicate (setup.config.slots - 1) None;
  tables = console_table ∷ replicate (setup.config.slots - 1) no_descriptors;
  content = started setup.file (image_of setup.file) (nothing setup.config.rule setup.config.frames);
  pipes = replicate pipe_count [];
  input = setup.input;
  forks = 0;
  clock = record { steps = 0; current = None; quantum = None; last = setup.config.slots - 1; rest = quanta_of setup.schedule };
}

abbrev pub is_running : Outcome → Bool
is_running Running = true
is_running Done = false
is_running Stuck = false

-- a run is over where the machine doesn't run, or as many steps are made as the limit says
abbrev pub is_over : ℕ → Machine → Bool
is_over limit m = not (is_running (outcome_of m)) || nat_le limit m.clock.steps

-- The run ends after the least number of steps at which it is over.
pub record EndsAfter (limit : ℕ) (m : Machine) (k : ℕ) : Type 0 where
  pub over : is_over limit (state m k) ≡ true
  pub before : (j : ℕ) → j < k → is_over limit (state m j) ≡ false

-- The run of what is set up ends after so many steps, by its configured limit.
abbrev pub RunsFor : Setup → ℕ → Type 0
RunsFor setup k = EndsAfter setup.config.steps (start setup) k

-- the status of a run that ended there
abbrev pub status_of : Outcome → ℕ
status_of Done = 0
status_of Running = 8
status_of Stuck = 9

-- the status of the run of what is set up, which ended after so many steps: a machine that is stuck there is so also at the limit
abbrev pub run_status : Setup → ℕ → ℕ
run_status setup k = status_of (outcome_of (state (start setup) k))
