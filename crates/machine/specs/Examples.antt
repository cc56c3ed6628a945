-- Small machines, worked out: calls, what they leave, and the clock.
use Rattle.std.specs.Prelude.{ℕ, ◌≡◌, ◌+◌, ◌-◌, ◌*◌, ◌^◌, true, false, Bool, pos, neg_ℤ, Option, Some, None, List, [], ◌∷◌, length, replicate, take}
use Rattle.cap_format.specs.Numbers.{permit_execute, permit_load, permit_store}
use Rattle.cap_format.specs.declared.cap.Cap.{Cap}
use Rattle.cap_format.specs.Made.{null, root, from_int, with_address}
use Rattle.cap_format.specs.Region.{region_start}
use Rattle.cap_format.specs.Sealing.{seal_entry}
use Rattle.cap_format.specs.SetBounds.{set_bounds}
use Rattle.machine_types.specs.declared.config.Rule.{Rule}
use Rattle.machine_types.specs.declared.config.Rule.TheVariants.{Full, Access, Pointer}
use Rattle.machine_types.specs.declared.config.Outcome.TheVariants.{Running, Done, Stuck}
use Rattle.machine_types.specs.declared.touches.Touched.TheVariants.{Copied}
use Rattle.machine_types.specs.Numbers.{right_to_read, right_to_write}
use Rattle.machine_types.specs.Registers.{with_register}
use Rattle.contents.specs.Content.{Content, nothing}
use Rattle.contents.specs.Regions.{begin_of, add_page_of, seed_cap_of}
use Rattle.contents.specs.Transfers.{read_bytes_of}
use Rattle.contents.specs.Looks.{peek_of, rights_of}
use Rattle.contents.specs.Examples.{note, class_with, member, two_pages}
use Rattle.machine.specs.declared.process.Process.{Process}
use Rattle.machine.specs.declared.process.State.{State}
use Rattle.machine.specs.declared.process.State.TheVariants.{Ready, InRead, InWrite, InWait, Zombie}
use Rattle.machine.specs.declared.process.Target.{Target}
use Rattle.machine.specs.declared.process.Target.TheVariants.{ConsoleIn, ConsoleOut, PipeRead, PipeWrite}
use Rattle.machine.specs.declared.report.WorkEnd.TheVariants.{Plain, Answered, Waiting, Forked, Ended}
use Rattle.machine.specs.Processes.{zombie_of}
use Rattle.machine.specs.Pipes.{Table, no_descriptors}
use Rattle.machine.specs.Machines.{Clock, Machine, view_of}
use Rattle.machine.specs.Readiness.{is_ready, next_ready, outcome_of}
use Rattle.machine.specs.Effects.{Effect}
use Rattle.machine.specs.Calls.{called}
use Rattle.machine.specs.declared.report.Quantum.TheVariants.{Free, Steps}
use Rattle.machine.specs.Applying.{applied, dispatched, quantum_of, settled}

-- A region's code and its data: the whole of it, at its start.
abbrev pub code : ℕ → Cap
code region = root region (permit_execute + permit_load)

abbrev pub whole : ℕ → Cap
whole region = root region (permit_load + permit_store)

-- a granule that is there has its tag
abbrev pub if_tagged : Option Cap → Bool
if_tagged None = false
if_tagged (Some cap) = cap.tag

-- the registers of a call with these arguments
abbrev pub call_with : ℕ → ℕ → Cap → ℕ → List Cap
call_with number x10 c11 x12 = with_register (with_register (with_register (with_register (replicate 32 null) 17 (from_int number)) 10 (from_int x10)) 11 c11) 12 (from_int x12)

abbrev pub process : ℕ → ℕ → ℕ → List Cap → State → Process
process id parent region regs state = record { id = id; parent = parent; region = region; regs = regs; pcc = code region; state = state }

-- descriptors of the console
abbrev pub console : Table
console = Some ConsoleIn ∷ Some ConsoleOut ∷ replicate 14 None

abbrev pub clock_at : ℕ → Option ℕ → List ℕ → Clock
clock_at slot quantum rest = record { steps = 7; current = Some slot; quantum = quantum; last = slot; rest = rest }

abbrev pub machine_of : Rule → ℕ → ℕ → List (Option Process) → Content → ℕ → Machine
machine_of rule regions forks processes c frames = record {
  config = record { frames = frames; regions = regions; slots = length processes; steps = 100; rule = rule };
  processes = processes;
  tables = replicate (length processes) console;
  content = c;
  pipes = replicate 16 [];
  input = 65 ∷ 66 ∷ 67 ∷ [];
  forks = forks;
  clock = clock_at 0 (Some 3) (5 ∷ []);
}

-- a region with a page that may be read and written, with these bytes
abbrev pub with_page : Content → ℕ → ℕ → List ℕ → Content
with_page c region page bytes = (add_page_of c region page (right_to_read + right_to_write) bytes).after

abbrev pub one_store : Rule → ℕ → Content
one_store rule frames = with_page (begin_of (nothing rule frames) 0) 0 0 (9 ∷ 8 ∷ 7 ∷ [])

-- the effect of the call of a process at a slot, and the machine after it
abbrev pub call_of : Machine → ℕ → Process → Effect
call_of m slot p = called (view_of m slot p) m.content

abbrev pub after_call : Machine → ℕ → Process → Machine
after_call m slot p = applied m slot p (call_of m slot p)

-- A fork, with so many regions and slots, under a rule and with so many frames. The parent has a page, whose third granule is a pointer to the
-- region's data, and register 5 is one too.
abbrev pub forking : Process
forking = record (process 1 0 0 (with_register (call_with 2 99 null 0) 5 (whole 0)) Ready) { pcc = with_address (code 0) (region_start 0 + 8) }

abbrev pub fork_machine : Rule → ℕ → ℕ → ℕ → Machine
fork_machine rule frames regions slots = machine_of rule regions 4 (Some forking ∷ replicate slots None) (seed_cap_of (one_store rule frames) 0 32 (whole 0)) frames

-- the child has 6 as its id, since four forks were made before, and stands past the call with 0 as its answer
abbrev pub forked_child : Process
forked_child = record (process 6 1 1 (with_register (call_with 2 0 null 0) 5 (whole 1)) Ready) { pcc = with_address (code 1) (region_start 1 + 12) }

abbrev pub forked_parent : Process
forked_parent = record (process 1 0 0 (with_register (call_with 2 6 null 0) 5 (whole 0)) Ready) { pcc = with_address (code 0) (region_start 0 + 12) }

-- A fork without a slot is refused, whatever else lacks; then one without a region; then one without frames under `full`. Else there is a child in
-- the lowest slot and region.
pub record AForkIsRefusedOrMade : Type 0 where
  pub no_slot : (call_of (fork_machine Full 1 1 0) 0 forking).end ≡ Answered 2 (neg_ℤ (pos 11))
  pub no_region : (call_of (fork_machine Full 1 1 1) 0 forking).end ≡ Answered 2 (neg_ℤ (pos 12))
  pub no_region_lacks : (call_of (fork_machine Full 1 1 1) 0 forking).lacks ≡ false
  pub no_frame : (call_of (fork_machine Full 1 2 1) 0 forking).end ≡ Answered 2 (neg_ℤ (pos 12))
  pub no_frame_lacks : (call_of (fork_machine Full 1 2 1) 0 forking).lacks ≡ true
  pub refused : (after_call (fork_machine Full 1 2 1) 0 forking).processes ≡ Some (record forked_parent { regs = with_register forking.regs 10 (from_int (2 ^ 64 - 12)) }) ∷ None ∷ []
  pub refused_forks : (after_call (fork_machine Full 1 2 1) 0 forking).forks ≡ 4
  pub shared : (call_of (fork_machine Access 1 2 1) 0 forking).end ≡ Forked (pos 6) 6 1 1
  pub made : (call_of (fork_machine Full 2 2 2) 0 forking).end ≡ Forked (pos 6) 6 1 1
  pub processes : (after_call (fork_machine Full 2 2 2) 0 forking).processes ≡ Some forked_parent ∷ Some forked_child ∷ None ∷ []
  pub tables : (after_call (fork_machine Full 2 2 2) 0 forking).tables ≡ console ∷ console ∷ console ∷ []
  pub forks : (after_call (fork_machine Full 2 2 2) 0 forking).forks ≡ 5
  pub integers : read_bytes_of (after_call (fork_machine Full 2 2 2) 0 forking).content 1 0 3 ≡ 9 ∷ 8 ∷ 7 ∷ []
  pub pointers : peek_of (after_call (fork_machine Full 2 2 2) 0 forking).content 1 0 2 ≡ Some (whole 1)

-- A family: 5 is the parent of 6, which lives, of the Zombies 8 and 7 in this order of slots, and 6 is that of the Zombie 9. 5 has a parent, 2, which
-- has ended as far as this machine goes; it holds the only end of a pipe for reading.
abbrev pub zombie : ℕ → ℕ → ℕ → Process
zombie id parent status = zombie_of (process id parent 1 [] Ready) status

abbrev pub family_parent : ℕ → ℕ → State → Process
family_parent number parent state = process 5 parent 0 (call_with number 300 null 0) state

abbrev pub live_child : Process
live_child = process 6 5 1 (call_with 5 0 null 0) Ready

abbrev pub family : Process → Machine
family p =
    record (machine_of Full 3 9 (Some p ∷ Some live_child ∷ Some (zombie 8 5 3) ∷ Some (zombie 7 5 4) ∷ Some (zombie 9 6 1) ∷ []) (begin_of (one_store Full 2) 1) 2) {
      tables = (Some (PipeRead 0) ∷ replicate 15 None) ∷ console ∷ no_descriptors ∷ no_descriptors ∷ no_descriptors ∷ [];
      pipes = (1 ∷ 2 ∷ []) ∷ replicate 15 [];
    }

-- By its exit the status is the low byte of 300. With a parent it is a Zombie, and else its slot is free. Its live child has no parent then, its Zombie
-- children go, and those of others stay. Its descriptors go, and with them the bytes of the pipe; its store and its frame too.
pub record AnEndLeavesOrphans : Type 0 where
  pub status : (call_of (family (family_parent 1 2 Ready)) 0 (family_parent 1 2 Ready)).end ≡ Ended 44
  pub fields : zombie 5 2 44 ≡ record { id = 5; parent = 2; region = 0; regs = replicate 32 null; pcc = null; state = Zombie 44 }
  pub left : (after_call (family (family_parent 1 2 Ready)) 0 (family_parent 1 2 Ready)).processes
      ≡ Some (zombie 5 2 44) ∷ Some (record live_child { parent = 0 }) ∷ None ∷ None ∷ Some (zombie 9 6 1) ∷ []
  pub free : (after_call (family (family_parent 1 0 Ready)) 0 (family_parent 1 0 Ready)).processes
      ≡ None ∷ Some (record live_child { parent = 0 }) ∷ None ∷ None ∷ Some (zombie 9 6 1) ∷ []
  pub tables : (after_call (family (family_parent 1 0 Ready)) 0 (family_parent 1 0 Ready)).tables ≡ no_descriptors ∷ console ∷ no_descriptors ∷ no_descriptors ∷ no_descriptors ∷ []
  pub pipes : (after_call (family (family_parent 1 0 Ready)) 0 (family_parent 1 0 Ready)).pipes ≡ replicate 16 []
  pub other_end : (after_call (record (family (family_parent 1 0 Ready)) { tables = (Some (PipeRead 0) ∷ replicate 15 None) ∷ (Some (PipeWrite 0) ∷ replicate 15 None) ∷ [] }) 0 (family_parent 1 0 Ready)).pipes ≡ (1 ∷ 2 ∷ []) ∷ replicate 15 []
  pub page : rights_of (after_call (family (family_parent 1 0 Ready)) 0 (family_parent 1 0 Ready)).content 0 0 ≡ None
  pub account : (after_call (family (family_parent 1 0 Ready)) 0 (family_parent 1 0 Ready)).content.account ≡ []
  pub parent_id : (call_of (family (family_parent 1 0 Ready)) 1 live_child).end ≡ Answered 5 (pos 5)
  pub orphan_id : (call_of (after_call (family (family_parent 1 0 Ready)) 0 (family_parent 1 0 Ready)) 1 (record live_child { parent = 0 })).end ≡ Answered 5 (pos 0)

-- what a wait leaves of its process: the child's id in x10, its status in x11
abbrev pub waited : ℕ → ℕ → Process
waited id status = record (process 5 0 0 (with_register (call_with 3 id null 0) 11 (from_int status)) Ready) { pcc = with_address (code 0) (region_start 0 + 4) }

-- The family where one child is left, which lives; where none is; and where one is, which is a Zombie.
abbrev pub lonely : Process → Machine
lonely p = record (family p) { processes = Some p ∷ Some live_child ∷ [] }

abbrev pub childless : Process → Machine
childless p = record (family p) { processes = Some p ∷ [] }

abbrev pub bereaved : Process → Machine
bereaved p = record (family p) { processes = Some p ∷ Some (zombie 8 5 3) ∷ [] }

-- A wait takes the Zombie of lowest id, in whichever slot, and its slot is free. With live children alone it waits, is not ready, and PCC stays; when
-- one has ended it is ready, and goes on. Without children it is refused, and a wait that is underway then is ready, too.
pub record AWaitIsAnswered : Type 0 where
  pub answer : (call_of (family (family_parent 3 0 Ready)) 0 (family_parent 3 0 Ready)).end ≡ Answered 3 (pos 7)
  pub reaped : (after_call (family (family_parent 3 0 Ready)) 0 (family_parent 3 0 Ready)).processes ≡ Some (waited 7 4) ∷ Some live_child ∷ Some (zombie 8 5 3) ∷ None ∷ Some (zombie 9 6 1) ∷ []
  pub dead_alone : (call_of (bereaved (family_parent 3 0 Ready)) 0 (family_parent 3 0 Ready)).end ≡ Answered 3 (pos 8)
  pub waits : (call_of (lonely (family_parent 3 0 Ready)) 0 (family_parent 3 0 Ready)).end ≡ Waiting 3
  pub waiting : (after_call (lonely (family_parent 3 0 Ready)) 0 (family_parent 3 0 Ready)).processes ≡ Some (family_parent 3 0 InWait) ∷ Some live_child ∷ []
  pub unready : is_ready (lonely (family_parent 3 0 InWait)) 0 ≡ false
  pub ready : is_ready (family (family_parent 3 0 InWait)) 0 ≡ true
  pub goes_on : (call_of (family (family_parent 3 0 InWait)) 0 (family_parent 3 0 InWait)).process ≡ waited 7 4
  pub refused : (call_of (childless (family_parent 3 0 Ready)) 0 (family_parent 3 0 Ready)).end ≡ Answered 3 (neg_ℤ (pos 10))
  pub ready_alone : is_ready (childless (family_parent 3 0 InWait)) 0 ≡ true
  pub stuck : outcome_of (record (lonely (family_parent 3 0 InWait)) { processes = Some (family_parent 3 0 InWait) ∷ Some (process 6 5 1 (call_with 3 0 null 0) InWait) ∷ Some (process 7 6 1 (call_with 7 2 null 1) InRead) ∷ [] }) ≡ Stuck

-- A write of 5000 bytes from the region's start, over two pages, of which so many are sent. The second page begins with 6.
abbrev pub long_writer : State → Process
long_writer state = process 1 0 0 (call_with 8 1 (whole 0) 5000) state

abbrev pub write_machine : State → Machine
write_machine state = machine_of Full 1 0 (Some (long_writer state) ∷ []) (with_page (one_store Full 2) 0 1 (6 ∷ [])) 2

-- It goes in two transfers, and answers the whole count after the second one. Between them it is ready, and PCC stays at the call.
pub record ALongWriteGoesInTransfers : Type 0 where
  pub first : take 4 (call_of (write_machine Ready) 0 (long_writer Ready)).printed ≡ 9 ∷ 8 ∷ 7 ∷ 0 ∷ []
  pub first_size : length (call_of (write_machine Ready) 0 (long_writer Ready)).printed ≡ 4096
  pub first_end : (call_of (write_machine Ready) 0 (long_writer Ready)).end ≡ Waiting 8
  pub between : (call_of (write_machine Ready) 0 (long_writer Ready)).process ≡ long_writer (InWrite 4096)
  pub ready : is_ready (write_machine (InWrite 4096)) 0 ≡ true
  pub second : take 2 (call_of (write_machine (InWrite 4096)) 0 (long_writer (InWrite 4096))).printed ≡ 6 ∷ 0 ∷ []
  pub second_size : length (call_of (write_machine (InWrite 4096)) 0 (long_writer (InWrite 4096))).printed ≡ 904
  pub second_end : (call_of (write_machine (InWrite 4096)) 0 (long_writer (InWrite 4096))).end ≡ Answered 8 (pos 5000)
  pub second_state : (call_of (write_machine (InWrite 4096)) 0 (long_writer (InWrite 4096))).process.state ≡ Ready

-- A call of the process with these registers, over one page of 4096 bytes, whose second granule is a pointer.
abbrev pub caller : List Cap → Process
caller regs = process 1 0 0 regs Ready

abbrev pub call_machine : List Cap → Machine
call_machine regs = machine_of Full 1 0 (Some (caller regs) ∷ []) (seed_cap_of (one_store Full 1) 0 16 (whole 0)) 1

abbrev pub answer_to : List Cap → Effect
answer_to regs = call_of (call_machine regs) 0 (caller regs)

-- data of the region from an offset on
abbrev pub data_from : ℕ → Cap
data_from offset = with_address (whole 0) (region_start 0 + offset)

-- A read of the console takes what is there, or as much as it asks for, and what it took isn't there any more. Its bytes clear the tag of the granule
-- that they overlap. At the input's end it answers 0.
pub record AReadTakesInput : Type 0 where
  pub all : (answer_to (call_with 7 0 (data_from 14) 9)).end ≡ Answered 7 (pos 3)
  pub all_left : (answer_to (call_with 7 0 (data_from 14) 9)).input ≡ Some []
  pub stored : read_bytes_of (answer_to (call_with 7 0 (data_from 14) 9)).content 0 13 4 ≡ 0 ∷ 65 ∷ 66 ∷ 67 ∷ []
  pub tag : if_tagged (peek_of (answer_to (call_with 7 0 (data_from 14) 9)).content 0 0 1) ≡ false
  pub some : (answer_to (call_with 7 0 (data_from 0) 2)).end ≡ Answered 7 (pos 2)
  pub some_left : (after_call (call_machine (call_with 7 0 (data_from 0) 2)) 0 (caller (call_with 7 0 (data_from 0) 2))).input ≡ 67 ∷ []
  pub kept_tag : if_tagged (peek_of (answer_to (call_with 7 0 (data_from 0) 2)).content 0 0 1) ≡ true
  pub past : (call_of (record (call_machine (call_with 7 0 (data_from 0) 2)) { input = [] }) 0 (caller (call_with 7 0 (data_from 0) 2))).end ≡ Answered 7 (pos 0)

-- The descriptor comes before the count, the count before the bytes. Bytes may not be moved by an untagged capability, an entry, without the permission,
-- past its bounds, or where a page is absent or lacks the right.
pub record TransfersAreTested : Type 0 where
  pub descriptor : (answer_to (call_with 8 0 null 0)).end ≡ Answered 8 (neg_ℤ (pos 9))
  pub unused : (answer_to (call_with 7 16 null 0)).end ≡ Answered 7 (neg_ℤ (pos 9))
  pub output : (answer_to (call_with 7 1 null 0)).end ≡ Answered 7 (neg_ℤ (pos 9))
  pub count : (answer_to (call_with 8 1 null 0)).end ≡ Answered 8 (pos 0)
  pub untagged : (answer_to (call_with 8 1 (record { bits = (whole 0).bits; tag = false }) 1)).end ≡ Answered 8 (neg_ℤ (pos 14))
  pub entry : (answer_to (call_with 8 1 (seal_entry (root 0 6)) 1)).end ≡ Answered 8 (neg_ℤ (pos 14))
  pub other_kind : (answer_to (call_with 8 1 (record { bits = (whole 0).bits + 2 * 2 ^ 91; tag = true }) 1)).printed ≡ 9 ∷ []
  pub load : (answer_to (call_with 8 1 (root 0 permit_store) 1)).end ≡ Answered 8 (neg_ℤ (pos 14))
  pub store : (answer_to (call_with 7 0 (root 0 permit_load) 1)).end ≡ Answered 7 (neg_ℤ (pos 14))
  pub bounds : (answer_to (call_with 8 1 (set_bounds (whole 0) 8).cap 9)).end ≡ Answered 8 (neg_ℤ (pos 14))
  pub within : (answer_to (call_with 8 1 (set_bounds (whole 0) 8).cap 8)).printed ≡ 9 ∷ 8 ∷ 7 ∷ 0 ∷ 0 ∷ 0 ∷ 0 ∷ 0 ∷ []
  pub absent : (answer_to (call_with 8 1 (data_from 4090) 7)).end ≡ Answered 8 (neg_ℤ (pos 14))
  pub there : (answer_to (call_with 8 1 (data_from 4090) 6)).end ≡ Answered 8 (pos 6)
  pub whole_count : (answer_to (call_with 7 0 (data_from 4090) 7)).end ≡ Answered 7 (neg_ℤ (pos 14))
  pub none_such : (answer_to (call_with 99 0 null 0)).end ≡ Answered 99 (neg_ℤ (pos 38))
  pub no_pipe_yet : (answer_to (call_with 6 0 null 0)).end ≡ Answered 6 (neg_ℤ (pos 38))
  pub own_id : (answer_to (call_with 4 0 null 0)).end ≡ Answered 4 (pos 1)
  pub yield : (answer_to (call_with 12 5 null 0)).end ≡ Answered 12 (pos 0)

-- Region 1 shares two pages with region 0, and one frame is free. A read of the console onto both copies the first, finds no frame for the second, and
-- kills: nothing is moved or taken, and the touch that was made is told.
abbrev pub sharing : Process
sharing = process 2 1 1 (call_with 7 0 (with_address (whole 1) (region_start 1 + 4095)) 2) Ready

abbrev pub sharing_machine : Machine
sharing_machine = machine_of Pointer 2 1 (Some (process 1 0 0 (replicate 32 null) Ready) ∷ Some sharing ∷ []) two_pages 3

pub record AKillMovesNothing : Type 0 where
  pub end : (call_of sharing_machine 1 sharing).end ≡ Ended 268
  pub touches : (call_of sharing_machine 1 sharing).touches ≡ note 0 Copied ∷ []
  pub lacks : (call_of sharing_machine 1 sharing).lacks ≡ true
  pub input : (call_of sharing_machine 1 sharing).input ≡ None
  pub processes : (after_call sharing_machine 1 sharing).processes ≡ Some (process 1 0 0 (replicate 32 null) Ready) ∷ Some (zombie 2 1 268) ∷ []
  pub account : (after_call sharing_machine 1 sharing).content.account ≡ class_with 0 (member 0 0 ∷ []) ∷ class_with 0 (member 0 1 ∷ []) ∷ []

-- Four slots: 1 and 3 are ready, 0 is free, and 2 waits for a child that lives.
abbrev pub four_slots : ℕ → Machine
four_slots last =
    record (machine_of Full 4 9 (None ∷ Some (process 6 0 1 [] Ready) ∷ Some (process 7 0 2 [] InWait) ∷ Some (process 8 7 3 [] Ready) ∷ []) (nothing Full 1) 1) {
      clock = record { steps = 7; current = None; quantum = None; last = last; rest = 5 ∷ 2 ∷ [] };
    }

-- a machine whose process works with so much of its quantum left, after its step
abbrev pub settled_at : Option ℕ → State → Machine
settled_at quantum state = settled (record (family (family_parent 3 0 state)) { clock = clock_at 0 quantum (5 ∷ []) }) 0 Plain

abbrev pub yielded : Machine
yielded = settled (record (family (family_parent 3 0 Ready)) { clock = clock_at 0 (Some 9) (5 ∷ []) }) 0 (Answered 12 (pos 0))

-- The next slot is the first ready one after the last, and that one itself at last. A dispatch takes the next quantum, and after the last one none
-- comes. A step lowers the quantum; at its end, where the process isn't ready, and after a yield the slot isn't current any more.
pub record TheClockTurns : Type 0 where
  pub after_0 : next_ready (four_slots 0) ≡ Some 1
  pub after_1 : next_ready (four_slots 1) ≡ Some 3
  pub after_2 : next_ready (four_slots 2) ≡ Some 3
  pub after_3 : next_ready (four_slots 3) ≡ Some 1
  pub itself : next_ready (record (four_slots 1) { processes = None ∷ Some (process 6 0 1 [] Ready) ∷ None ∷ None ∷ [] }) ≡ Some 1
  pub none : next_ready (record (four_slots 1) { processes = None ∷ None ∷ Some (process 7 0 2 [] InRead) ∷ None ∷ [] }) ≡ None
  pub running : outcome_of (four_slots 0) ≡ Running
  pub done : outcome_of (record (four_slots 1) { processes = None ∷ Some (zombie 6 7 1) ∷ None ∷ None ∷ [] }) ≡ Done
  pub dispatch : (dispatched (four_slots 1) 3).clock ≡ record { steps = 7; current = Some 3; quantum = Some 5; last = 3; rest = 2 ∷ [] }
  pub free : (dispatched (record (four_slots 1) { clock = record { steps = 7; current = None; quantum = None; last = 1; rest = [] } }) 3).clock
      ≡ record { steps = 7; current = Some 3; quantum = None; last = 3; rest = [] }
  pub told : quantum_of (Some 5) ≡ Steps 5
  pub told_free : quantum_of None ≡ Free
  pub lower : (settled_at (Some 3) Ready).clock ≡ record { steps = 8; current = Some 0; quantum = Some 2; last = 0; rest = 5 ∷ [] }
  pub never : (settled_at None Ready).clock ≡ record { steps = 8; current = Some 0; quantum = None; last = 0; rest = 5 ∷ [] }
  pub spent : (settled_at (Some 1) Ready).clock ≡ record { steps = 8; current = None; quantum = None; last = 0; rest = 5 ∷ [] }
  pub unready : (settled_at (Some 3) (Zombie 1)).clock ≡ record { steps = 8; current = None; quantum = None; last = 0; rest = 5 ∷ [] }
  pub yield : yielded.clock ≡ record { steps = 8; current = None; quantum = None; last = 0; rest = 5 ∷ [] }

-- a process with a call on a pipe underway: a read of 9 bytes from descriptor 0, or a write of so many to descriptor 1
abbrev pub piped : Process → ℕ → List (Option Target) → Bool
piped p bytes others =
    is_ready (record (machine_of Full 2 1 (Some p ∷ Some (process 2 0 1 [] Ready) ∷ []) (nothing Full 1) 1) {
      tables = (Some (PipeRead 3) ∷ Some (PipeWrite 4) ∷ replicate 14 None) ∷ others ∷ [];
      pipes = [] ∷ [] ∷ [] ∷ replicate bytes 1 ∷ replicate bytes 1 ∷ replicate 11 [];
    }) 0

abbrev pub reader : Process
reader = process 1 0 0 (call_with 7 0 (whole 0) 9) InRead

abbrev pub writer : ℕ → ℕ → Process
writer count done = process 1 0 0 (call_with 8 1 (whole 0) count) (InWrite done)

-- descriptors of another process that has both other ends
abbrev pub other_ends : Table
other_ends = Some (PipeWrite 3) ∷ Some (PipeRead 4) ∷ replicate 14 None

-- A reader is ready where the pipe has a byte, or no writer. A writer is ready where it has no reader; where a write of at most 512 bytes fits as a whole;
-- and a longer one where one byte does, by its whole count and not by what is left of it.
pub record ReadinessIsExact : Type 0 where
  pub empty : piped reader 0 other_ends ≡ false
  pub byte : piped reader 1 other_ends ≡ true
  pub no_writer : piped reader 0 no_descriptors ≡ true
  pub fits : piped (writer 512 0) 3584 other_ends ≡ true
  pub too_long : piped (writer 512 0) 3585 other_ends ≡ false
  pub long : piped (writer 513 0) 4095 other_ends ≡ true
  pub full : piped (writer 513 0) 4096 other_ends ≡ false
  pub whole_count : piped (writer 5000 4999) 4095 other_ends ≡ true
  pub count_decides : piped (writer 512 511) 4095 other_ends ≡ false
  pub no_reader : piped (writer 512 0) 4096 no_descriptors ≡ true
