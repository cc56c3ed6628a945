-- The machine of a world, and what a call makes of both.
use Rattle.std.specs.Prelude.{ℕ, ◌≡◌, ◌≤◌, ◌<◌, true, Bool, Option, Some, List, length, drop, take, IsTrue}
use Rattle.std.specs.List.{list_any}
use Rattle.cap_format.specs.Pattern.{address_of}
use Rattle.cap_format.specs.Rights.{holds}
use Rattle.region_plan.specs.Plan.{is_taken}
use Rattle.contents.specs.Numbers.{most_transfer}
use Rattle.contents.specs.Content.{Content}
use Rattle.contents.specs.Agreeing.{HaveSameStores}
use Rattle.contents.specs.Transfers.{two_notes}
use Rattle.machine.specs.declared.process.Process.{Process}
use Rattle.machine.specs.Processes.{process_at, is_live, lives_in}
use Rattle.machine.specs.Machines.{Machine}
use Rattle.machine.specs.Effects.{Effect}
use Rattle.machine.specs.Applying.{applied}
use Rattle.machine.specs.Shape.{IsMachine}
use Rattle.machine.specs.Sound.{Sound}
use Rattle.trap_syscalls.specs.declared.world.World.{World}
use Rattle.trap_syscalls.specs.declared.world.CallDone.{CallDone}

-- of so many regions those are taken that a live process has
pub record IsPlanOf (regions : ℕ) (processes : List (Option Process)) (plan : List Bool) : Type 0 where
  pub count : length plan ≡ regions
  pub taken : (region : ℕ) → region < regions → is_taken plan region ≡ list_any (lives_in region) processes

-- The world has what the machine has, but for its configuration, its stores and its clock. Of the input it has what is taken, too.
pub record IsWorldOf (m : Machine) (w : World) : Type 0 where
  pub processes : m.processes ≡ w.processes.processes
  pub tables : m.tables ≡ w.files.tables
  pub pipes : m.pipes ≡ w.files.pipes
  pub input : m.input ≡ drop w.taken w.input.items
  pub forks : m.forks ≡ w.forks
  pub plan : IsPlanOf m.config.regions m.processes w.plan
  pub taken : w.taken ≤ length w.input.items
  pub buffer : length w.buffer.items ≡ most_transfer

-- the process of the slot is live
pub record IsLiveAt (slot : ℕ) (m : Machine) : Type 0 where
  pub process : Process
  pub there : process_at m.processes slot ≡ Some process
  pub live : is_live process.state ≡ true

-- and at a call: the four bytes at PCC's address lie in its bounds
pub record IsAtCall (slot : ℕ) (m : Machine) : Type 0 where
  pub at : IsLiveAt slot m
  pub held : IsTrue (holds at.process.pcc.bits (address_of at.process.pcc.bits) 4)

-- Some sound machine with a property has this world, and the space stands for a content with its stores. The account may be the one that is left
-- by a touch of the fetch.
pub record SomeWorld {S : Type 0} (stands_for : S → Content → Type 0) (w : World) (s : S) (P : Machine → Type 0) : Type 0 where
  pub machine : Machine
  pub is : IsMachine machine
  pub sound : Sound machine
  pub has : P machine
  pub world : IsWorldOf machine w
  pub content : Content
  pub stores : HaveSameStores machine.content content
  pub stands : stands_for s content

-- The effect of a call came about: the world is that of the machine to which it was applied, and what the call came to is said of it.
pub record HasCalled (m : Machine) (slot : ℕ) (p : Process) (e : Effect) (result : CallDone) (w : World) : Type 0 where
  pub world : IsWorldOf (applied m slot p e) w
  pub end : result.end ≡ e.end
  pub touches : result.touches ≡ two_notes e.touches
  pub printed : result.printed ≡ length e.printed
  pub piece : take result.printed w.buffer.items ≡ e.printed
