-- A call makes two touches at most.
use Rattle.std.proofs.Common.{◌≡◌, sym, refl, subst, ℕ, ◌+◌, ◌-◌, ◌≤◌, min, not, nat_eq, cond, Bool, true, false, Option, Some, None, Result, Ok, Err, List, [], ◌∷◌, length, arith}
use Rattle.machine_types.specs.declared.touches.Access.{Access}
use Rattle.machine_types.specs.declared.touches.Access.TheVariants.{Read, Write}
use Rattle.machine_types.specs.declared.touches.Note.{Note}
use Rattle.machine_types.specs.declared.touches.NoFrame.{NoFrame}
use Rattle.contents.specs.Content.{Content, CallOutcome}
use Rattle.contents.specs.Regions.{fork_of}
use Rattle.contents.specs.Transfers.{prepare_of, read_bytes_of, two_notes}
use Rattle.machine.specs.Machines.{View}
use Rattle.machine.specs.Numbers.{number_register, first_argument}
use Rattle.machine.specs.Pipes.{target}
use Rattle.machine.specs.declared.process.State.TheVariants.{InWrite}
use Rattle.machine_types.specs.declared.errno.Errno.TheVariants.{Ebadf, Efault}
use Rattle.contents.specs.Numbers.{most_transfer}
use Rattle.machine.specs.Processes.{integer, Ended}
use Rattle.machine.specs.Effects.{Effect, ends, answers, refuses, waits, Gives}
use Rattle.machine.specs.Calls.{count_of_call, place_of, is_fault, is_for_reading, is_for_writing, done_of, Call, Exit, Fork, Wait, Getpid, Getppid, ReadCall, WriteCall, Yield, Other, row, call_of, called, row_fork, fork_at, fork_into, forked, row_wait, wait_for, row_read, row_write, tested, console_read, console_write, taken, printed, sent, read_size}
use Rattle.machine_steps.specs.Steps.{made, three_notes}
use Rattle.trap_syscalls.proofs.TransferLemmas.{prepared-two}

-- an effect of few touches
abbrev pub IsFew : Effect → Type 0
IsFew e = length e.touches ≤ 2

-- the notes of a transfer are two
two-long : (notes : List Note) → length (two_notes notes) ≤ 2
two-long [] = omega arith
two-long (note ∷ notes) = omega arith

prepared-few : (c : Content) (region at n : ℕ) (access : Access) (notes : List Note) → ◌≡◌ {A = Result (List Note) NoFrame} (Ok notes) (prepare_of c region at n access).answer → length notes ≤ 2
prepared-few c region at n access notes e = subst (λ (x : List Note). length x ≤ 2) (sym (prepared-two c region at n access notes e)) (two-long notes)

-- a choice of two that are few
either-few : (b : Bool) (e f : Effect) → IsFew e → IsFew f → IsFew (cond b e f)
either-few true e f one other = one
either-few false e f one other = other

-- Row by row.
exit-few : (v : View) (c : Content) → IsFew (row Exit v c)
unfolding ends
exit-few v c = omega arith

forked-few : (v : View) (slot to : ℕ) (c : Content) (r : Result (Unit {0}) NoFrame) → IsFew (forked v slot to c r)
forked-few v slot to c (Ok done) = omega arith
forked-few v slot to c (Err lack) = omega arith

into-few : (v : View) (c : Content) (slot : ℕ) (region : Option ℕ) → IsFew (fork_into v c slot region)
into-few v c slot None = omega arith
into-few v c slot (Some to) = forked-few v slot to (fork_of c v.process.region to).after (fork_of c v.process.region to).answer

at-few : (v : View) (c : Content) (slot : Option ℕ) → IsFew (fork_at v c slot)
at-few v c None = omega arith
at-few v c (Some slot) = into-few v c slot v.free_region

fork-few : (v : View) (c : Content) → IsFew (row_fork v c)
unfolding row_fork
fork-few v c = at-few v c v.free_slot

zombie-few : (v : View) (c : Content) (child : Option Ended) → IsFew (wait_for v c child)
zombie-few v c None = omega arith
zombie-few v c (Some child) = omega arith

wait-few : (v : View) (c : Content) → IsFew (row_wait v c)
unfolding row_wait
wait-few v c = either-few v.children.some (wait_for v c v.children.ended) _ (zombie-few v c v.children.ended) (omega arith)

tested-few : (v : View) (c : Content) (access : Access) (may : Bool) (transfer : Effect) → IsFew transfer → IsFew (tested v c access may transfer)
tested-few v c access may transfer few = by (not may) (nat_eq (count_of_call v) 0) (is_fault v.process c access (count_of_call v))
  where
    by : (a b d : Bool) → IsFew (cond a (refuses v c Ebadf) (cond b (answers v c [] (Gives 0)) (cond d (refuses v c Efault) transfer)))
    by true b d = omega arith
    by false true d = omega arith
    by false false true = omega arith
    by false false false = few

taken-few : (v : View) (size : ℕ) (c : Content) (r : Result (List Note) NoFrame) → ((notes : List Note) → ◌≡◌ {A = Result (List Note) NoFrame} (Ok notes) r → length notes ≤ 2) → IsFew (taken v size c r)
unfolding ends
taken-few v size c (Ok notes) few = few notes refl
taken-few v size c (Err lack) few = omega arith

input-few : (v : View) (c : Content) → IsFew (console_read v c)
unfolding console_read
input-few v c = by (nat_eq (length v.input) 0)
  where
    o : CallOutcome (Result (List Note) NoFrame)
    o = prepare_of c v.process.region (place_of v.process) (read_size v) Write

    by : (b : Bool) → IsFew (cond b (answers v c [] (Gives 0)) (taken v (read_size v) o.after o.answer))
    by true = omega arith
    by false = taken-few v (read_size v) o.after o.answer (prepared-few c v.process.region (place_of v.process) (read_size v) Write)

read-few : (v : View) (c : Content) → IsFew (row_read v c)
unfolding row_read
read-few v c = tested-few v c Write (is_for_reading (target v.table (integer v.process first_argument))) (console_read v c) (input-few v c)

sent-few : (v : View) (c : Content) (notes : List Note) (piece : List ℕ) (done : ℕ) → length notes ≤ 2 → IsFew (sent v c notes piece done)
sent-few v c notes piece done few = by (nat_eq done (count_of_call v))
  where
    by : (b : Bool) → IsFew (cond b (answers v c notes (Gives done)) (waits v c notes (InWrite done)))
    by true = few
    by false = few

printed-few : (v : View) (done size : ℕ) (c : Content) (r : Result (List Note) NoFrame) → ((notes : List Note) → ◌≡◌ {A = Result (List Note) NoFrame} (Ok notes) r → length notes ≤ 2) → IsFew (printed v done size c r)
unfolding ends
printed-few v done size c (Ok notes) few = sent-few v c notes (read_bytes_of c v.process.region (place_of v.process + done) size) (done + size) (few notes refl)
printed-few v done size c (Err lack) few = omega arith

output-few : (v : View) (c : Content) (done : ℕ) → IsFew (console_write v c done)
unfolding console_write
output-few v c done = printed-few v done size o.after o.answer (prepared-few c v.process.region (place_of v.process + done) size Read)
  where
    size : ℕ
    size = min (count_of_call v - done) most_transfer

    o : CallOutcome (Result (List Note) NoFrame)
    o = prepare_of c v.process.region (place_of v.process + done) size Read

write-few : (v : View) (c : Content) → IsFew (row_write v c)
unfolding row_write
write-few v c = tested-few v c Read (is_for_writing (target v.table (integer v.process first_argument))) (console_write v c (done_of v.process.state)) (output-few v c (done_of v.process.state))

row-few : (call : Call) (v : View) (c : Content) → IsFew (row call v c)
row-few Exit v c = exit-few v c
row-few Fork v c = fork-few v c
row-few Wait v c = wait-few v c
row-few Getpid v c = omega arith
row-few Getppid v c = omega arith
row-few ReadCall v c = read-few v c
row-few WriteCall v c = write-few v c
row-few Yield v c = omega arith
row-few Other v c = omega arith

pub few-touches : (v : View) (c : Content) → length (called v c).touches ≤ 2
few-touches v c = row-few (call_of (integer v.process number_register)) v c

-- Few touches are all told.
pub made-two : (first : Note) (notes : List Note) → length notes ≤ 2 → three_notes (made (first ∷ two_notes notes)) ≡ three_notes (made (first ∷ notes))
made-two first [] few = refl
made-two first (a ∷ []) few = refl
made-two first (a ∷ b ∷ []) few = refl
made-two first (a ∷ b ∷ c ∷ notes) few = absurd (omega arith)
