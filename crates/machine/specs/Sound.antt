-- A sound machine, in seven parts. Every step keeps each of them.
use Rattle.std.specs.Prelude.{ℕ, ◌≡◌, ◌≢◌, ◌≤◌, ◌<◌, ◌+◌, ◌⊎◌, ◌==◌, if◌then◌else◌, IsTrue, true, false, is_some, Option, Some, None, List, length, All}
use Rattle.std.specs.Option.{option_map}
use Rattle.cap_format.specs.Pattern.{address_of}
use Rattle.cap_format.specs.Code.{IsCode}
use Rattle.cap_format.specs.Rights.{holds}
use Rattle.machine_types.specs.Numbers.{most_quantum}
use Rattle.machine_types.specs.declared.config.Rule.TheVariants.{Full}
use Rattle.machine_types.specs.declared.touches.Access.TheVariants.{Read, Write}
use Rattle.machine_types.specs.Lists.{count_of}
use Rattle.machine_types.specs.Stores.{Page, moved_page}
use Rattle.machine_types.specs.Accounts.{Class, has_member, has_members}
use Rattle.contents.specs.Content.{Content, page_at, used_frames}
use Rattle.contents.specs.Having.{MayHave, RegistersMayHave}
use Rattle.machine.specs.declared.process.Process.{Process}
use Rattle.machine.specs.declared.process.State.{State}
use Rattle.machine.specs.declared.process.State.TheVariants.{Ready, InRead, InWrite, InWait, Zombie}
use Rattle.machine.specs.declared.process.Target.{Target}
use Rattle.machine.specs.declared.process.Target.TheVariants.{ConsoleIn, ConsoleOut, PipeRead, PipeWrite}
use Rattle.machine.specs.Numbers.{read_call, write_call, wait_call, number_register, first_argument, third_argument, pipe_buf}
use Rattle.machine.specs.Processes.{process_at, is_live, integer}
use Rattle.machine.specs.Pipes.{Table, table_at, target}
use Rattle.machine.specs.Machines.{Machine}
use Rattle.machine.specs.Readiness.{is_ready}
use Rattle.machine.specs.Calls.{is_fault}
use Rattle.machine.specs.Shape.{Slots}

-- 1. Capabilities are inside.

-- PCC is code, and PCC and each register are what a process of the region may have.
pub record IsWithin (c : Content) (p : Process) : Type 0 where
  pub code : IsCode p.pcc
  pub counter : MayHave c p.region p.pcc
  pub registers : RegistersMayHave c p.region p.regs

-- so are those of each live process, and the granules of each store
pub record CapabilitiesAreInside (at : Slots) (c : Content) : Type 0 where
  pub processes : (k : ℕ) (p : Process) → at k ≡ Some p → is_live p.state ≡ true → IsWithin c p
  pub stores : (region page : ℕ) (p : Page) → page_at c region page ≡ Some p → All (MayHave c region) p.granules

-- 2. The account is exact.

-- Members have one page number and different regions, and their pages are moves of each other.
pub record IsClassOf (c : Content) (class : Class) : Type 0 where
  pub one_page : (r p s q : ℕ) → has_member r p class ≡ true → has_member s q class ≡ true → p ≡ q
  pub different : (r : ℕ) → count_of (λ m. m.region == r) class.members ≤ 1
  pub moves : (r s p : ℕ) → has_member r p class ≡ true → has_member s p class ≡ true → page_at c s p ≡ option_map (moved_page r s) (page_at c r p)

-- Each page of a store is a member of exactly one class, and each member is such a page. No class is empty, and no more frames are used than
-- there are.
pub record AccountIsExact (c : Content) : Type 0 where
  pub pages : (r p : ℕ) → count_of (has_member r p) c.account ≡ (if is_some (page_at c r p) then 1 else 0)
  pub classes : All (IsClassOf c) c.account
  pub some : All (λ class. has_members class ≡ true) c.account
  pub within : used_frames c ≤ c.frames

-- 3. Ids are exact.

-- a live process has this id
pub record HasLive (at : Slots) (id : ℕ) : Type 0 where
  pub slot : ℕ
  pub process : Process
  pub there : at slot ≡ Some process
  pub live : is_live process.state ≡ true
  pub id_is : process.id ≡ id

-- Live processes have different regions, and all processes different ids, from 1 to 1 plus the forks. A parent is 0 or a live process, and its
-- id is below that of its child.
pub record IdsAreExact (at : Slots) (forks : ℕ) : Type 0 where
  pub regions : (j k : ℕ) (p q : Process) → at j ≡ Some p → at k ≡ Some q → is_live p.state ≡ true → is_live q.state ≡ true → p.region ≡ q.region → j ≡ k
  pub ids : (j k : ℕ) (p q : Process) → at j ≡ Some p → at k ≡ Some q → p.id ≡ q.id → j ≡ k
  pub first : (k : ℕ) (p : Process) → at k ≡ Some p → 1 ≤ p.id
  pub last : (k : ℕ) (p : Process) → at k ≡ Some p → p.id ≤ 1 + forks
  pub parents : (k : ℕ) (p : Process) → at k ≡ Some p → (p.parent ≡ 0) ⊎ HasLive at p.parent
  pub older : (k : ℕ) (p : Process) → at k ≡ Some p → p.parent < p.id

-- 4. Numbers are in range.

-- the home and the regions of the members are below the number of regions
pub record IsInRange (regions : ℕ) (class : Class) : Type 0 where
  pub home : class.home < regions
  pub members : (r p : ℕ) → has_member r p class ≡ true → r < regions

-- So are the regions of processes. A Zombie has a parent, and there were at most as many forks as steps.
pub record NumbersAreInRange (at : Slots) (c : Content) (regions forks steps : ℕ) : Type 0 where
  pub processes : (k : ℕ) (p : Process) → at k ≡ Some p → p.region < regions
  pub account : All (IsInRange regions) c.account
  pub zombies : (k : ℕ) (p : Process) → at k ≡ Some p → is_live p.state ≡ false → p.parent ≢ 0
  pub made : forks ≤ steps

-- 5. Under `full` each class has one member, whose region is its home.
pub record IsAlone (class : Class) : Type 0 where
  pub one : length class.members ≡ 1
  pub home : (r p : ℕ) → has_member r p class ≡ true → r ≡ class.home

abbrev pub FullIsAlone : Content → Type 0
FullIsAlone c = c.rule ≡ Full → All IsAlone c.account

-- 6. The clock is right.

abbrev pub IsQuantum : ℕ → Type 0
IsQuantum q = (1 ≤ q) × (q ≤ most_quantum)

abbrev pub IsQuantumLeft : Option ℕ → Type 0
IsQuantumLeft None = Unit {0}
IsQuantumLeft (Some q) = IsQuantum q

-- the slot holds a live process that is ready, and is the last one dispatched
pub record IsCurrent (m : Machine) (slot : ℕ) : Type 0 where
  pub process : Process
  pub there : process_at m.processes slot ≡ Some process
  pub live : is_live process.state ≡ true
  pub ready : is_ready m slot ≡ true
  pub last : m.clock.last ≡ slot

-- So does the current slot, where there is one. Quanta are in range, and the last slot dispatched is one of the slots.
pub record ClockIsRight (m : Machine) : Type 0 where
  pub current : (slot : ℕ) → m.clock.current ≡ Some slot → IsCurrent m slot
  pub quantum : IsQuantumLeft m.clock.quantum
  pub last : m.clock.last < length m.processes
  pub rest : All IsQuantum m.clock.rest

-- 7. Calls that are underway are calls.

-- the four bytes at PCC's address lie in its bounds
abbrev pub IsAtCall : Process → Type 0
IsAtCall p = IsTrue (holds p.pcc.bits (address_of p.pcc.bits) 4)

-- the descriptor names a pipe's end for reading
abbrev pub ReadsPipe : Option Target → Type 0
ReadsPipe None = ⊥
ReadsPipe (Some ConsoleIn) = ⊥
ReadsPipe (Some ConsoleOut) = ⊥
ReadsPipe (Some (PipeRead k)) = Unit {0}
ReadsPipe (Some (PipeWrite k)) = ⊥

-- the descriptor is for writing, so many bytes of so many are done, and none of a short write to a pipe
abbrev pub IsSending : ℕ → ℕ → Option Target → Type 0
IsSending count done None = ⊥
IsSending count done (Some ConsoleIn) = ⊥
IsSending count done (Some ConsoleOut) = done < count
IsSending count done (Some (PipeRead k)) = ⊥
IsSending count done (Some (PipeWrite k)) = (done < count) × (count ≤ pipe_buf → done ≡ 0)

pub record IsReading (p : Process) (table : Table) (c : Content) : Type 0 where
  pub call : integer p number_register ≡ read_call
  pub descriptor : ReadsPipe (target table (integer p first_argument))
  pub some : 0 < integer p third_argument
  pub fit : is_fault p c Write (integer p third_argument) ≡ false
  pub at_call : IsAtCall p

pub record IsWriting (p : Process) (table : Table) (c : Content) (done : ℕ) : Type 0 where
  pub call : integer p number_register ≡ write_call
  pub descriptor : IsSending (integer p third_argument) done (target table (integer p first_argument))
  pub fit : is_fault p c Read (integer p third_argument) ≡ false
  pub at_call : IsAtCall p

pub record IsWaiting (p : Process) : Type 0 where
  pub call : integer p number_register ≡ wait_call
  pub at_call : IsAtCall p

abbrev pub IsUnderway : Process → Table → Content → State → Type 0
IsUnderway p table c Ready = Unit {0}
IsUnderway p table c InRead = IsReading p table c
IsUnderway p table c (InWrite done) = IsWriting p table c done
IsUnderway p table c InWait = IsWaiting p
IsUnderway p table c (Zombie status) = Unit {0}

abbrev pub CallsAreUnderway : Slots → List Table → Content → Type 0
CallsAreUnderway at tables c = (k : ℕ) (p : Process) → at k ≡ Some p → IsUnderway p (table_at tables k) c p.state

pub record Sound (m : Machine) : Type 0 where
  pub inside : CapabilitiesAreInside (process_at m.processes) m.content
  pub account : AccountIsExact m.content
  pub ids : IdsAreExact (process_at m.processes) m.forks
  pub range : NumbersAreInRange (process_at m.processes) m.content m.config.regions m.forks m.clock.steps
  pub alone : FullIsAlone m.content
  pub clock : ClockIsRight m
  pub calls : CallsAreUnderway (process_at m.processes) m.tables m.content
