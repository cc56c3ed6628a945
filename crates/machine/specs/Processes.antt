-- Processes in their slots, and what is read off them by scanning. This project's own; children, Zombies and orphans are after POSIX.
use Rattle.std.specs.Prelude.{ℕ, ◌==◌, ◌&&◌, not, nat_lt, if◌then◌else◌, Bool, true, false, is_some, Option, Some, None, List, [], ◌∷◌, slice_index_or, replicate, position}
use Rattle.std.specs.List.{list_any, range_with_len, find}
use Rattle.cap_format.specs.declared.cap.Cap.{Cap}
use Rattle.cap_format.specs.Pattern.{address_of}
use Rattle.cap_format.specs.Made.{null}
use Rattle.machine_types.specs.Registers.{register}
use Rattle.machine.specs.declared.process.Process.{Process}
use Rattle.machine.specs.declared.process.State.{State}
use Rattle.machine.specs.declared.process.State.TheVariants.{Ready, InRead, InWrite, InWait, Zombie}

-- the process of a slot, if it has one
abbrev pub process_at : List (Option Process) → ℕ → Option Process
process_at processes slot = slice_index_or processes slot None

-- a register of a process, and its integer, which is the address
abbrev pub argument : Process → ℕ → Cap
argument p n = register p.regs n

abbrev pub integer : Process → ℕ → ℕ
integer p n = address_of (argument p n).bits

-- A process is live where it is no Zombie.
abbrev pub is_live : State → Bool
is_live Ready = true
is_live InRead = true
is_live (InWrite done) = true
is_live InWait = true
is_live (Zombie status) = false

abbrev pub lives : Option Process → Bool
lives None = false
lives (Some p) = is_live p.state

-- a live process has this region
abbrev pub lives_in : ℕ → Option Process → Bool
lives_in region None = false
lives_in region (Some p) = is_live p.state && (p.region == region)

-- the lowest free slot: one without a process
abbrev pub is_free : Option Process → Bool
is_free o = not (is_some o)

unfoldable pub lowest_free_slot : List (Option Process) → Option ℕ
lowest_free_slot processes = position is_free processes

-- the lowest of so many regions that no live process has
unfoldable pub lowest_free_region : ℕ → List (Option Process) → Option ℕ
lowest_free_region regions processes = find (λ region. not (list_any (lives_in region) processes)) (range_with_len 0 regions)

-- a child that ended and was not waited for
pub record Ended : Type 0 where
  pub id : ℕ
  pub status : ℕ

abbrev pub ended_as : ℕ → State → Option Ended
ended_as id Ready = None
ended_as id InRead = None
ended_as id (InWrite done) = None
ended_as id InWait = None
ended_as id (Zombie status) = Some (record { id = id; status = status })

-- it is a child of the process with this id
abbrev pub is_child : ℕ → Option Process → Bool
is_child parent None = false
is_child parent (Some p) = p.parent == parent

abbrev pub ended_child : ℕ → Option Process → Option Ended
ended_child parent None = None
ended_child parent (Some p) = if p.parent == parent then ended_as p.id p.state else None

-- the one of lower id
abbrev pub lower_of : Ended → Option Ended → Ended
lower_of child None = child
lower_of child (Some other) = if nat_lt child.id other.id then child else other

abbrev pub with_lower : Option Ended → Option Ended → Option Ended
with_lower None least = least
with_lower (Some child) least = Some (lower_of child least)

-- the Zombie child of lowest id
unfoldable pub first_ended : ℕ → List (Option Process) → Option Ended
first_ended parent [] = None
first_ended parent (o ∷ processes) = with_lower (ended_child parent o) (first_ended parent processes)

-- What a process knows of its children: whether there is one, live or Zombie, and the Zombie of lowest id.
pub record Children : Type 0 where
  pub some : Bool
  pub ended : Option Ended

abbrev pub children_of : ℕ → List (Option Process) → Children
children_of parent processes = record { some = list_any (is_child parent) processes; ended = first_ended parent processes }

-- What the end of a process makes of another one: a live child has no parent from then on, and a Zombie child is removed.
abbrev pub orphaned_as : Bool → Process → Option Process
orphaned_as true p = Some (record p { parent = 0 })
orphaned_as false p = None

abbrev pub orphaned : ℕ → Option Process → Option Process
orphaned parent None = None
orphaned parent (Some p) = if p.parent == parent then orphaned_as (is_live p.state) p else Some p

-- a slot without the process of this id
abbrev pub without_id : ℕ → Option Process → Option Process
without_id id None = None
without_id id (Some p) = if p.id == id then None else Some p

-- A Zombie has its id, parent and status alone: its region is 0, and its registers and PCC are null.
abbrev pub zombie_of : Process → ℕ → Process
zombie_of p status = record { id = p.id; parent = p.parent; region = 0; regs = replicate 32 null; pcc = null; state = Zombie status }

-- what is left of a process that ended: nothing where it has no parent, and else a Zombie
abbrev pub left_of : Process → ℕ → Option Process
left_of p status = if p.parent == 0 then None else Some (zombie_of p status)
