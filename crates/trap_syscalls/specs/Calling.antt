-- What is known of a world whose process makes a call.
use Rattle.std.specs.Prelude.{ℕ, ◌+◌, ◌≡◌, ◌≢◌, ◌≤◌, ◌<◌, ◌^◌, true, false, Some, None, length, IsTrue}
use Rattle.cap_format.specs.Numbers.{most_regions, region_bytes}
use Rattle.cap_format.specs.Pattern.{address_of}
use Rattle.cap_format.specs.Region.{IsInside, region_start}
use Rattle.region_plan.specs.Plan.{is_taken}
use Rattle.contents.specs.Numbers.{most_transfer}
use Rattle.machine.specs.declared.process.Process.{Process}
use Rattle.machine.specs.Processes.{process_at, is_live, lives, lives_in, Ended, first_ended}
use Rattle.machine.specs.Pipes.{table_at, no_descriptors}
use Rattle.machine.specs.Shape.{ArePipes}
use Rattle.machine.specs.Calls.{done_of}
use Rattle.trap_syscalls.specs.declared.call.Call.{Call}
use Rattle.trap_syscalls.specs.declared.world.World.{World}
use Rattle.trap_syscalls.specs.Asked.{call_of, place_asked, MayMove}

pub record IsCalling (w : World) (call : Call) : Type 0 where
  -- the process of its slot is live
  pub live : lives (process_at w.processes.processes call.slot) ≡ true
  -- each slot has a table
  pub tables : length w.files.tables ≡ length w.processes.processes
  -- its region is one of the plan's, and taken
  pub region : call.region < most_regions
  pub planned : is_taken w.plan call.region ≡ true
  pub regions : length w.plan ≤ most_regions
  -- no other process lives there
  pub alone : (k : ℕ) → k ≢ call.slot → lives_in call.region (process_at w.processes.processes k) ≡ false
  -- ids are answers
  pub id : call.id < 2 ^ 63
  pub parent : call.parent < 2 ^ 63
  -- its bytes lie in the region
  pub pointer : IsTrue call.pointer.tag → IsInside call.pointer.bits call.region
  -- fewer bytes are done than it asks for
  pub fewer : call.count ≢ 0 → done_of call.state < call.count
  pub taken : w.taken ≤ length w.input.items
  pub buffer : length w.buffer.items ≡ most_transfer

-- it is what the process of its slot asks for
abbrev pub IsAsked : World → Call → Type 0
IsAsked w call = (p : Process) → process_at w.processes.processes call.slot ≡ Some p → call ≡ call_of call.slot p

-- The child that is waited for has an id that is an answer, and no live process has that id.
pub record MayReap (w : World) (call : Call) : Type 0 where
  pub id : (child : Ended) → first_ended call.id w.processes.processes ≡ Some child → child.id < 2 ^ 63
  pub ended : (child : Ended) → first_ended call.id w.processes.processes ≡ Some child → (k : ℕ) (q : Process) → process_at w.processes.processes k ≡ Some q → q.id ≡ child.id → is_live q.state ≡ false

-- A process that forks can be moved: its registers and PCC past the call lie in its region. A free slot has no descriptors in use, and pipes that
-- no descriptor names are empty.
pub record MayFork (w : World) (call : Call) : Type 0 where
  pub forks : w.forks < 2 ^ 62
  pub moves : (p : Process) → process_at w.processes.processes call.slot ≡ Some p → MayMove p
  pub free : (slot : ℕ) → process_at w.processes.processes slot ≡ None → slot < length w.processes.processes → table_at w.files.tables slot ≡ no_descriptors
  pub pipes : ArePipes w.files.tables w.files.pipes

-- the bytes of a transfer lie in the region
pub record IsPlaced (call : Call) : Type 0 where
  pub from : region_start call.region ≤ address_of call.pointer.bits
  pub within : place_asked call + call.count ≤ region_bytes
