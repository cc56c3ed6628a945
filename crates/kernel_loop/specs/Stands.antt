-- What the parts of a kernel stand for.
use Rattle.std.specs.Prelude.{ℕ, ◌≡◌, ◌≤◌, ◌<◌, Option, Some, None, length, drop}
use Rattle.contents.specs.Numbers.{most_transfer}
use Rattle.contents.specs.Content.{Content}
use Rattle.machine_types.specs.declared.config.Outcome.TheVariants.{Running}
use Rattle.machine.specs.Machines.{Machine}
use Rattle.machine.specs.declared.report.Quantum.{Quantum}
use Rattle.machine.specs.Applying.{dispatched, head_of, quantum_of}
use Rattle.machine.specs.Readiness.{outcome_of, next_ready}
use Rattle.machine.specs.Shape.{IsMachine}
use Rattle.machine.specs.Sound.{Sound}
use Rattle.machine_steps.specs.Numbers.{step_limit}
use Rattle.trap_syscalls.specs.Worlds.{IsPlanOf}
use Rattle.kernel_loop.specs.declared.stepping.Core.{Core}
use Rattle.kernel_loop.specs.Marks.{AreMarked}

-- the machine that a kernel is with this content
abbrev pub machine_of : {S : Type 0} → Core S → Content → Machine
machine_of k c = record {
  config = k.config;
  processes = k.world.processes.processes;
  tables = k.world.files.tables;
  content = c;
  pipes = k.world.files.pipes;
  input = drop k.world.taken k.world.input.items;
  forks = k.world.forks;
  clock = k.clock;
}

-- Its space stands for the machine's content, and all else is equal.
pub record CoreStands {S : Type 0} (stands_for : S → Content → Type 0) (k : Core S) (m : Machine) : Type 0 where
  pub space : stands_for k.space m.content
  pub is : m ≡ machine_of k m.content

-- What is kept beside is right, whatever the content: the plan of regions, the input that is taken, the buffer with the piece
-- that was printed, and the marks.
pub record IsKept {S : Type 0} (k : Core S) : Type 0 where
  pub plan : IsPlanOf k.config.regions k.world.processes.processes k.world.plan
  pub taken : k.world.taken ≤ length k.world.input.items
  pub buffer : length k.world.buffer.items ≡ most_transfer
  pub printed : k.printed ≤ most_transfer
  pub long : length k.world.processes.marks ≡ length k.world.processes.processes
  pub marks : (c : Content) → AreMarked (machine_of k c) k.world.processes.marks

-- it stands for some sound machine with this property, and what it keeps beside is right
pub record SomeMachine {S : Type 0} (stands_for : S → Content → Type 0) (k : Core S) (P : Machine → Type 0) : Type 0 where
  pub machine : Machine
  pub stands : CoreStands stands_for k machine
  pub is : IsMachine machine
  pub sound : Sound machine
  pub kept : IsKept k
  pub has : P machine

-- any machine
abbrev pub Any : Machine → Type 0
Any m = Unit {0}

-- a machine that runs makes a step where it has made few enough
pub record CanStep (m : Machine) : Type 0 where
  pub running : outcome_of m ≡ Running
  pub early : m.clock.steps < step_limit

-- the machine of which a slot works: the slot is dispatched where none is current
abbrev pub picked_from : Machine → Option ℕ → Option ℕ → Machine
picked_from m (Some slot) next = m
picked_from m None (Some slot) = dispatched m slot
picked_from m None None = m

abbrev pub picked : Machine → Machine
picked m = picked_from m m.clock.current (next_ready m)

-- and what is told of it: the current slot and no dispatch, or the next one
abbrev pub slot_from : Option ℕ → Option ℕ → ℕ × Option Quantum → Type 0
slot_from (Some slot) next told = told ≡ (slot, None)
slot_from None None told = ⊥
slot_from None (Some slot) told = told.0 ≡ slot

-- the slot that works was found, and the kernel stands for the machine in which it does
pub record HasPicked (m : Machine) (told : ℕ × Option Quantum) (stands : Machine → Type 0) : Type 0 where
  pub slot : slot_from m.clock.current (next_ready m) told
  pub quantum : m.clock.current ≡ None → told.1 ≡ Some (quantum_of (head_of m.clock.rest))
  pub stands_for : stands (picked m)
