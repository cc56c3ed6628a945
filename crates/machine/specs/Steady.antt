-- Soundness and the shape of a machine in another cut, by which a step keeps them: what speaks of the content alone, of one process alone, of
-- ids and stores, of descriptors, and of the clock.
use Rattle.std.specs.Prelude.{ℕ, ◌≡◌, ◌≢◌, ◌≤◌, ◌<◌, false, true, Some, None, List, All}
use Rattle.machine_types.specs.MemoryLaws.{AreBytes}
use Rattle.machine_types.specs.Stores.{Page}
use Rattle.contents.specs.Content.{Content, page_at}
use Rattle.contents.specs.Whole.{IsWhole}
use Rattle.machine.specs.declared.process.Process.{Process}
use Rattle.machine.specs.Processes.{process_at, is_live}
use Rattle.machine.specs.Pipes.{Table}
use Rattle.machine.specs.Machines.{Machine}
use Rattle.machine.specs.Shape.{Slots, IsConfigured, AreTables, ArePipes, IsProcess, StoresAreOfLive, IsMachine}
use Rattle.machine.specs.Sound.{IsWithin, IsClassOf, IsInRange, FullIsAlone, IdsAreExact, CallsAreUnderway, ClockIsRight, Sound}

-- of the content alone: it is whole, its classes are exact, in range, and alone under `full`, and rights are three bits
pub record ContentIsSound (regions : ℕ) (c : Content) : Type 0 where
  pub whole : IsWhole c
  pub classes : All (IsClassOf c) c.account
  pub range : All (IsInRange regions) c.account
  pub alone : FullIsAlone c
  pub rights : (region page : ℕ) (p : Page) → page_at c region page ≡ Some p → p.rights < 8

-- of one process alone
pub record IsFine (regions : ℕ) (c : Content) (p : Process) : Type 0 where
  pub inside : is_live p.state ≡ true → IsWithin c p
  pub process : IsProcess p
  pub region : p.region < regions
  pub zombie : is_live p.state ≡ false → p.parent ≢ 0

pub record AreSteady (at : Slots) (slots : ℕ) (tables : List Table) (c : Content) (regions forks : ℕ) : Type 0 where
  pub content : ContentIsSound regions c
  pub fine : (k : ℕ) (p : Process) → at k ≡ Some p → IsFine regions c p
  pub ids : IdsAreExact at forks
  pub stores : StoresAreOfLive at c.stores
  pub calls : CallsAreUnderway at tables c
  pub described : AreTables at slots tables

-- all but the clock
pub record IsSteady (m : Machine) : Type 0 where
  pub configured : IsConfigured m
  pub processes : AreSteady (process_at m.processes) m.config.slots m.tables m.content m.config.regions m.forks
  pub pipes : ArePipes m.tables m.pipes
  pub input : AreBytes m.input

-- with the clock
pub record IsGood (m : Machine) : Type 0 where
  pub steady : IsSteady m
  pub clock : ClockIsRight m
  pub idle : m.clock.current ≡ None → m.clock.quantum ≡ None
  pub made : m.forks ≤ m.clock.steps

-- Both cuts say the same.
pub record CutsAgree : Type 0 where
  pub good : (m : Machine) → IsMachine m → Sound m → IsGood m
  pub machine : (m : Machine) → IsGood m → IsMachine m
  pub sound : (m : Machine) → IsGood m → Sound m
