-- The system calls, a row each, from the view and the content to the effect. fork, wait, read, write and exit are after POSIX.1-2024; the
-- numbers, the registers and the order of refusals are this project's own.
use Rattle.std.specs.Prelude.{ℕ, ◌+◌, ◌-◌, ◌%◌, ◌==◌, ◌||◌, not, min, if◌then◌else◌, Bool, true, false, pos, Option, Some, None, Result, Ok, Err, List, [], ◌∷◌, length, map, take, drop}
use Rattle.cap_format.specs.Numbers.{permit_execute, permit_load, permit_store}
use Rattle.cap_format.specs.Pattern.{address_of, kind_of}
use Rattle.cap_format.specs.Rights.{allows, holds}
use Rattle.cap_format.specs.Made.{from_int}
use Rattle.cap_format.specs.Moves.{moved}
use Rattle.cap_format.specs.Region.{region_start}
use Rattle.machine_types.specs.declared.errno.Errno.TheVariants.{Ebadf, Echild, Eagain, Enomem, Efault, Enosys}
use Rattle.machine_types.specs.declared.cause.Cause.TheVariants as cause
use Rattle.machine_types.specs.declared.touches.Access.{Access}
use Rattle.machine_types.specs.declared.touches.Access.TheVariants.{Read, Write, Fetch}
use Rattle.machine_types.specs.declared.touches.Note.{Note}
use Rattle.machine_types.specs.declared.touches.NoFrame.{NoFrame}
use Rattle.machine_types.specs.Registers.{with_register}
use Rattle.contents.specs.Numbers.{most_transfer}
use Rattle.contents.specs.Content.{Content}
use Rattle.contents.specs.Regions.{fork_of}
use Rattle.contents.specs.Transfers.{covers_of, prepare_of, read_bytes_of, write_bytes_of}
use Rattle.machine.specs.declared.process.Process.{Process}
use Rattle.machine.specs.declared.process.State.{State}
use Rattle.machine.specs.declared.process.State.TheVariants.{Ready, InRead, InWrite, InWait, Zombie}
use Rattle.machine.specs.declared.process.Target.{Target}
use Rattle.machine.specs.declared.process.Target.TheVariants.{ConsoleIn, ConsoleOut, PipeRead, PipeWrite}
use Rattle.machine.specs.declared.report.WorkEnd.TheVariants.{Forked}
use Rattle.machine.specs.Numbers.{exit_call, fork_call, wait_call, getpid_call, getppid_call, read_call, write_call, yield_call, number_register, first_argument, second_argument, third_argument}
use Rattle.machine.specs.Processes.{argument, integer, Ended}
use Rattle.machine.specs.Pipes.{target, inherited}
use Rattle.machine.specs.Machines.{View}
use Rattle.machine.specs.Effects.{Effect, Adds, Removes, works, Gives, next_pcc, answered_process, answers, refuses, waits, ends, killed}

-- exit(x10): it ends with the low byte of x10.
abbrev pub row_exit : View → Content → Effect
row_exit v c = ends v c [] (integer v.process first_argument % 256) false

-- fork()

-- The id of a child: one more than the forks, this one counted.
abbrev pub child_id : View → ℕ
child_id v = v.forks + 2

-- The child of a process: each register and PCC is moved to its region, PCC is past the call, and its answer is 0.
abbrev pub child_of : View → ℕ → Process
child_of v to = record {
  id = child_id v;
  parent = v.process.id;
  region = to;
  regs = with_register (map (λ cap. moved cap v.process.region to) v.process.regs) first_argument (from_int 0);
  pcc = moved (next_pcc v.process.pcc) v.process.region to;
  state = Ready;
}

-- a fork to a slot and a region, by what the stores answered
abbrev pub forked : View → ℕ → ℕ → Content → Result (Unit {0}) NoFrame → Effect
forked v slot to c (Ok done) =
    record (works (answered_process v.process (Gives (child_id v))) c [] (Forked (pos (child_id v)) (child_id v) slot to)) { deed = Adds slot (child_of v to) (inherited v.table) }
forked v slot to c (Err lack) = record (refuses v c Enomem) { lacks = true }

abbrev pub fork_into : View → Content → ℕ → Option ℕ → Effect
fork_into v c slot None = refuses v c Enomem
fork_into v c slot (Some to) = let o = fork_of c v.process.region to in forked v slot to o.after o.answer

abbrev pub fork_at : View → Content → Option ℕ → Effect
fork_at v c None = refuses v c Eagain
fork_at v c (Some slot) = fork_into v c slot v.free_region

-- First a slot is sought, then a region, then the stores are copied.
unfoldable pub row_fork : View → Content → Effect
row_fork v c = fork_at v c v.free_slot

-- wait()

-- the child is removed; its id is in x10, its status in x11
abbrev pub reaped : View → Content → Ended → Effect
reaped v c child =
    let e = answers v c [] (Gives child.id) in
    record e { process = record e.process { regs = with_register e.process.regs second_argument (from_int child.status) }; deed = Removes child.id }

abbrev pub wait_for : View → Content → Option Ended → Effect
wait_for v c None = waits v c [] InWait
wait_for v c (Some child) = reaped v c child

-- Without a child it is refused; without a Zombie it waits.
unfoldable pub row_wait : View → Content → Effect
row_wait v c = if v.children.some then wait_for v c v.children.ended else refuses v c Echild

-- getpid(), getppid(), yield()
abbrev pub row_getpid : View → Content → Effect
row_getpid v c = answers v c [] (Gives v.process.id)

abbrev pub row_getppid : View → Content → Effect
row_getppid v c = answers v c [] (Gives v.process.parent)

abbrev pub row_yield : View → Content → Effect
row_yield v c = answers v c [] (Gives 0)

-- read(x10, c11, x12) and write(x10, c11, x12)

-- the count of a read or a write, in bytes
abbrev pub count_of_call : View → ℕ
count_of_call v = integer v.process third_argument

-- where in the region the bytes lie that c11 points to
abbrev pub place_of : Process → ℕ
place_of p = let cap = argument p second_argument in address_of cap.bits - region_start p.region

-- the permission that an access wants
abbrev pub permission_of : Access → ℕ
permission_of Read = permit_load
permission_of Write = permit_store
permission_of Fetch = permit_execute

-- EFAULT: c11 is untagged or an entry, it lacks the permission, the bytes from its address for the whole count aren't within its bounds, or
-- a page under them is absent or lacks the right.
unfoldable pub is_fault : Process → Content → Access → ℕ → Bool
is_fault p c access count =
    let cap = argument p second_argument in
    not cap.tag || (kind_of cap.bits == 1) || not (allows cap.bits (permission_of access)) || not (holds cap.bits (address_of cap.bits) count)
    || not (covers_of c p.region (place_of p) count access)

-- The descriptor is for this use, then a count of 0 is answered, then the bytes may be accessed; and then the transfer.
abbrev pub tested : View → Content → Access → Bool → Effect → Effect
tested v c access may transfer =
    if not may then refuses v c Ebadf else
    (if count_of_call v == 0 then answers v c [] (Gives 0) else
    (if is_fault v.process c access (count_of_call v) then refuses v c Efault else transfer))

-- The bytes of a transfer are moved after the touches of their pages; where one finds no frame, the process is killed and none is moved.

-- A read of the console takes the least of the count, of what is left and of what a transfer may have; at the input's end it answers 0, and no
-- page is touched.
abbrev pub read_size : View → ℕ
read_size v = min (min (count_of_call v) (length v.input)) most_transfer

abbrev pub taken : View → ℕ → Content → Result (List Note) NoFrame → Effect
taken v size c (Ok notes) = record (answers v (write_bytes_of c v.process.region (place_of v.process) (take size v.input)) notes (Gives size)) { input = Some (drop size v.input) }
taken v size c (Err lack) = killed v c (lack.before ∷ []) cause.NoFrame true

unfoldable pub console_read : View → Content → Effect
console_read v c =
    let o = prepare_of c v.process.region (place_of v.process) (read_size v) Write in
    if length v.input == 0 then answers v c [] (Gives 0) else taken v (read_size v) o.after o.answer

-- It is for reading. A pipe is read by no call yet, since none makes one.
abbrev pub is_for_reading : Option Target → Bool
is_for_reading None = false
is_for_reading (Some ConsoleIn) = true
is_for_reading (Some ConsoleOut) = false
is_for_reading (Some (PipeRead k)) = false
is_for_reading (Some (PipeWrite k)) = false

unfoldable pub row_read : View → Content → Effect
row_read v c = tested v c Write (is_for_reading (target v.table (integer v.process first_argument))) (console_read v c)

-- the bytes that are sent already
abbrev pub done_of : State → ℕ
done_of Ready = 0
done_of InRead = 0
done_of (InWrite done) = done
done_of InWait = 0
done_of (Zombie status) = 0

-- A piece is printed. The call answers when all is sent, and else goes on.
abbrev pub sent : View → Content → List Note → List ℕ → ℕ → Effect
sent v c touches piece done =
    record (if done == count_of_call v
    then answers v c touches (Gives done)
    else waits v c touches (InWrite done)) { printed = piece }

abbrev pub printed : View → ℕ → ℕ → Content → Result (List Note) NoFrame → Effect
printed v done size c (Ok notes) = sent v c notes (read_bytes_of c v.process.region (place_of v.process + done) size) (done + size)
printed v done size c (Err lack) = killed v c (lack.before ∷ []) cause.NoFrame true

-- a write to the console sends what is left, or as much of it as a transfer may have
unfoldable pub console_write : View → Content → ℕ → Effect
console_write v c done =
    let size = min (count_of_call v - done) most_transfer in
    let o = prepare_of c v.process.region (place_of v.process + done) size Read in
    printed v done size o.after o.answer

-- It is for writing. A pipe is written by no call yet.
abbrev pub is_for_writing : Option Target → Bool
is_for_writing None = false
is_for_writing (Some ConsoleIn) = false
is_for_writing (Some ConsoleOut) = true
is_for_writing (Some (PipeRead k)) = false
is_for_writing (Some (PipeWrite k)) = false

unfoldable pub row_write : View → Content → Effect
row_write v c = tested v c Read (is_for_writing (target v.table (integer v.process first_argument))) (console_write v c (done_of v.process.state))

-- any other number
abbrev pub row_other : View → Content → Effect
row_other v c = refuses v c Enosys

-- The calls. A further one is a variant here, a number in `call_of`, and a row in `row`.
pub data Call : Type 0 where
  Exit : Call
  Fork : Call
  Wait : Call
  Getpid : Call
  Getppid : Call
  ReadCall : Call
  WriteCall : Call
  Yield : Call
  Other : Call

abbrev pub call_of : ℕ → Call
call_of n =
    if n == exit_call then Exit else
    (if n == fork_call then Fork else
    (if n == wait_call then Wait else
    (if n == getpid_call then Getpid else
    (if n == getppid_call then Getppid else
    (if n == read_call then ReadCall else
    (if n == write_call then WriteCall else
    (if n == yield_call then Yield else Other)))))))

abbrev pub row : Call → View → Content → Effect
row Exit = row_exit
row Fork = row_fork
row Wait = row_wait
row Getpid = row_getpid
row Getppid = row_getppid
row ReadCall = row_read
row WriteCall = row_write
row Yield = row_yield
row Other = row_other

-- the call whose number is in x17
abbrev pub called : View → Content → Effect
called v c = row (call_of (integer v.process number_register)) v c
