-- What calls answer and do, in the words of those who make them.
use Rattle.std.specs.Prelude.{ℕ, ◌≡◌, ◌≢◌, ◌≤◌, ◌<◌, ◌+◌, ◌%◌, ◌⊎◌, pos, Some, [], length, take, drop}
use Rattle.cap_format.specs.Made.{from_int}
use Rattle.cap_format.specs.Moves.{moved}
use Rattle.machine_types.specs.MemoryLaws.{AreBytes}
use Rattle.machine_types.specs.Registers.{register}
use Rattle.contents.specs.Numbers.{most_transfer}
use Rattle.contents.specs.Content.{Content}
use Rattle.contents.specs.Regions.{fork_of}
use Rattle.contents.specs.Transfers.{read_bytes_of}
use Rattle.contents.specs.Whole.{IsWhole}
use Rattle.machine.specs.declared.process.Process.{Process}
use Rattle.machine.specs.declared.process.State.TheVariants.{Ready, InWrite}
use Rattle.machine.specs.declared.report.WorkEnd.TheVariants.{Answered, Waiting}
use Rattle.machine.specs.Numbers.{exit_call, fork_call, wait_call, read_call, write_call, first_argument, second_argument}
use Rattle.machine.specs.Processes.{integer}
use Rattle.machine.specs.Pipes.{Table}
use Rattle.machine.specs.Machines.{View}
use Rattle.machine.specs.Effects.{Adds, Removes, Ends, next_pcc}
use Rattle.machine.specs.Calls.{count_of_call, place_of, done_of, called}
use Rattle.machine.specs.Applying.{or_old}
use Rattle.machine.specs.CallLaws.{Calls}

-- A child that was forked: it is in the free slot and region, every capability of its registers but the answer is moved there, and PCC is moved past the
-- call; its answer is 0, the parent's its id, and its descriptors are the parent's. The stores are those of the fork.
pub record IsForked (v : View) (c : Content) (slot : ℕ) (child : Process) (table : Table) : Type 0 where
  pub call : Calls v fork_call
  pub slot_is : v.free_slot ≡ Some slot
  pub region : v.free_region ≡ Some child.region
  pub id : child.id ≡ v.forks + 2
  pub parent : child.parent ≡ v.process.id
  pub state : child.state ≡ Ready
  pub answer : register child.regs first_argument ≡ from_int 0
  pub registers : (n : ℕ) → n ≢ first_argument → register child.regs n ≡ moved (register v.process.regs n) v.process.region child.region
  pub pcc : child.pcc ≡ moved (next_pcc v.process.pcc) v.process.region child.region
  pub descriptors : table ≡ v.table
  pub told : register (called v c).process.regs first_argument ≡ from_int child.id
  pub stores : (called v c).content ≡ (fork_of c v.process.region child.region).after

-- A Zombie that was waited for: it is the one of lowest id, and its id and status are told.
pub record IsWaitedFor (v : View) (c : Content) (id : ℕ) : Type 0 where
  pub call : Calls v wait_call
  pub status : ℕ
  pub child : v.children.ended ≡ Some (record { id = id; status = status })
  pub told : register (called v c).process.regs first_argument ≡ from_int id
  pub told_status : register (called v c).process.regs second_argument ≡ from_int status

-- A read that answered so many bytes: they are the first of the input, which is what is left of them afterwards, they lie where it asked for them, and
-- there are none only where none were asked for or left.
pub record IsTaken (v : View) (c : Content) (n : ℕ) : Type 0 where
  pub most : n ≤ count_of_call v
  pub fits : n ≤ most_transfer
  pub there : n ≤ length v.input
  pub left : or_old v.input (called v c).input ≡ drop n v.input
  pub none : n ≡ 0 → (count_of_call v ≡ 0) ⊎ (v.input ≡ [])
  pub stored : IsWhole c → AreBytes v.input → read_bytes_of (called v c).content v.process.region (place_of v.process) n ≡ take n v.input

-- A write that printed: it is the bytes that come next, and it answers where they were the last, and else goes on after them.
pub record IsPrinted (v : View) (c : Content) (n : ℕ) : Type 0 where
  pub some : 0 < n
  pub fits : n ≤ most_transfer
  pub most : done_of v.process.state + n ≤ count_of_call v
  pub piece : (called v c).printed ≡ read_bytes_of c v.process.region (place_of v.process + done_of v.process.state) n
  pub last : done_of v.process.state + n ≡ count_of_call v → (called v c).end ≡ Answered write_call (pos (count_of_call v))
  pub between : done_of v.process.state + n ≢ count_of_call v → (called v c).end ≡ Waiting write_call
  pub state : done_of v.process.state + n ≢ count_of_call v → (called v c).process.state ≡ InWrite (done_of v.process.state + n)

-- Only fork adds a process, only wait removes one, only a write prints, and exit ends with the low byte of its argument.
pub record CallsAreAnswered : Type 0 where
  pub exit : (v : View) (c : Content) → Calls v exit_call → (called v c).deed ≡ Ends (integer v.process first_argument % 256)
  pub forked : (v : View) (c : Content) (slot : ℕ) (child : Process) (table : Table) → length v.process.regs ≡ 32 → (called v c).deed ≡ Adds slot child table → IsForked v c slot child table
  pub waited : (v : View) (c : Content) (id : ℕ) → length v.process.regs ≡ 32 → (called v c).deed ≡ Removes id → IsWaitedFor v c id
  pub read : (v : View) (c : Content) (n : ℕ) → (called v c).end ≡ Answered read_call (pos n) → Calls v read_call → IsTaken v c n
  pub written : (v : View) (c : Content) → done_of v.process.state < count_of_call v → (called v c).printed ≢ [] → Calls v write_call × IsPrinted v c (length (called v c).printed)
