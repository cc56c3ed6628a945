-- What the scans of the definitions find: the lowest, the first, the number.
use Rattle.std.specs.Prelude.{ℕ, ◌≡◌, ◌≢◌, ◌≤◌, ◌<◌, ◌+◌, ◌-◌, ◌%◌, ◌⊎◌, ◌↔◌, true, false, Option, Some, None, List, [], length, slice_index_or}
use Rattle.machine_types.specs.declared.config.Outcome.TheVariants.{Running, Done, Stuck}
use Rattle.machine.specs.declared.process.Process.{Process}
use Rattle.machine.specs.declared.process.State.TheVariants.{Zombie}
use Rattle.machine.specs.Processes.{process_at, is_live, lowest_free_slot, lowest_free_region, Ended, children_of}
use Rattle.machine.specs.Pipes.{Table, readers_of, writers_of, pipes_of, pipe_at, swept}
use Rattle.machine.specs.Machines.{Machine}
use Rattle.machine.specs.Readiness.{is_ready, next_ready, outcome_of}

-- a live process of a slot
pub record LivesAt (processes : List (Option Process)) (slot : ℕ) : Type 0 where
  pub process : Process
  pub there : process_at processes slot ≡ Some process
  pub live : is_live process.state ≡ true

-- a region that no live process has
abbrev pub IsUnlived : List (Option Process) → ℕ → Type 0
IsUnlived processes region = (k : ℕ) (p : Process) → process_at processes k ≡ Some p → is_live p.state ≡ true → p.region ≢ region

-- The lowest free slot has no process, and each slot below it has one; there is none where each slot has one. The lowest free region likewise.
pub record PlacesAreLowest : Type 0 where
  pub slot : (processes : List (Option Process)) (k : ℕ) → lowest_free_slot processes ≡ Some k
      → (k < length processes) × (process_at processes k ≡ None) × ((j : ℕ) → j < k → process_at processes j ≢ None)
  pub no_slot : (processes : List (Option Process)) → (lowest_free_slot processes ≡ None) ↔ ((j : ℕ) → j < length processes → process_at processes j ≢ None)
  pub region : (regions : ℕ) (processes : List (Option Process)) (r : ℕ) → lowest_free_region regions processes ≡ Some r
      → (r < regions) × IsUnlived processes r × ((s : ℕ) → s < r → IsUnlived processes s → ⊥)
  pub no_region : (regions : ℕ) (processes : List (Option Process)) → (lowest_free_region regions processes ≡ None) ↔ ((s : ℕ) → s < regions → IsUnlived processes s → ⊥)

-- a Zombie of a slot, whose parent has this id
pub record IsZombieOf (processes : List (Option Process)) (parent : ℕ) (child : Ended) : Type 0 where
  pub slot : ℕ
  pub process : Process
  pub there : process_at processes slot ≡ Some process
  pub parent_is : process.parent ≡ parent
  pub id : process.id ≡ child.id
  pub state : process.state ≡ Zombie child.status

-- There is a child where a process has the id as its parent. The one that is waited for is a Zombie child, and no Zombie child has a lower id.
pub record ChildrenAreFound : Type 0 where
  pub some : (processes : List (Option Process)) (parent : ℕ) → ((children_of parent processes).some ≡ true) ↔ ((k : ℕ) × (p : Process) × (process_at processes k ≡ Some p) × (p.parent ≡ parent))
  pub ended : (processes : List (Option Process)) (parent : ℕ) (child : Ended) → (children_of parent processes).ended ≡ Some child → IsZombieOf processes parent child
  pub lowest : (processes : List (Option Process)) (parent : ℕ) (child other : Ended) → (children_of parent processes).ended ≡ Some child → IsZombieOf processes parent other → child.id ≤ other.id
  pub none : (processes : List (Option Process)) (parent : ℕ) (child : Ended) → (children_of parent processes).ended ≡ None → IsZombieOf processes parent child → ⊥

-- Each pipe is seen with its bytes and the numbers of descriptors that name its ends; a pipe is emptied exactly where no descriptor does.
pub record PipesAreSeen : Type 0 where
  pub bytes : (tables : List Table) (pipes : List (List ℕ)) (k : ℕ) → (pipe_at (pipes_of tables pipes) k).bytes ≡ slice_index_or pipes k []
  pub readers : (tables : List Table) (pipes : List (List ℕ)) (k : ℕ) → k < length pipes → (pipe_at (pipes_of tables pipes) k).readers ≡ readers_of tables k
  pub writers : (tables : List Table) (pipes : List (List ℕ)) (k : ℕ) → k < length pipes → (pipe_at (pipes_of tables pipes) k).writers ≡ writers_of tables k
  pub same_count : (tables : List Table) (pipes : List (List ℕ)) → length (swept tables pipes) ≡ length pipes
  pub used : (tables : List Table) (pipes : List (List ℕ)) (k : ℕ) → (readers_of tables k ≢ 0) ⊎ (writers_of tables k ≢ 0) → slice_index_or (swept tables pipes) k [] ≡ slice_index_or pipes k []
  pub free : (tables : List Table) (pipes : List (List ℕ)) (k : ℕ) → readers_of tables k ≡ 0 → writers_of tables k ≡ 0 → slice_index_or (swept tables pipes) k [] ≡ []

-- how far a slot is from the one after the last one, going upwards and then from 0
abbrev pub turns : ℕ → ℕ → ℕ → ℕ
turns slots last k = (k + slots - (last + 1)) % slots

-- The next slot is ready, and no ready slot comes before it; there is none exactly where no slot is ready. What the last slot was is one of the
-- slots.
pub record NextIsFirst : Type 0 where
  pub ready : (m : Machine) (slot : ℕ) → next_ready m ≡ Some slot → is_ready m slot ≡ true
  pub slot : (m : Machine) (slot : ℕ) → m.clock.last < length m.processes → next_ready m ≡ Some slot → slot < length m.processes
  pub first : (m : Machine) (slot k : ℕ) → m.clock.last < length m.processes → next_ready m ≡ Some slot → is_ready m k ≡ true
      → turns (length m.processes) m.clock.last slot ≤ turns (length m.processes) m.clock.last k
  pub none : (m : Machine) → m.clock.last < length m.processes → (next_ready m ≡ None) ↔ ((k : ℕ) → is_ready m k ≡ false)

-- no process is live, or no slot is ready
abbrev pub NoneLives : Machine → Type 0
NoneLives m = (k : ℕ) → LivesAt m.processes k → ⊥

abbrev pub NoneIsReady : Machine → Type 0
NoneIsReady m = (k : ℕ) → is_ready m k ≡ false

-- A machine is done exactly where no process is live, stuck exactly where one is and none is ready, and runs exactly where one is ready. So each
-- excludes the others. Only a live process is ever ready.
pub record OutcomesAreExact : Type 0 where
  pub done : (m : Machine) → (outcome_of m ≡ Done) ↔ NoneLives m
  pub stuck : (m : Machine) → m.clock.last < length m.processes → (outcome_of m ≡ Stuck) ↔ (((k : ℕ) × LivesAt m.processes k) × NoneIsReady m)
  pub running : (m : Machine) → m.clock.last < length m.processes → (outcome_of m ≡ Running) ↔ ((k : ℕ) × (is_ready m k ≡ true))
  pub live : (m : Machine) (k : ℕ) → is_ready m k ≡ true → LivesAt m.processes k
