-- Under `full` only a fork lacks a frame.
use Rattle.std.proofs.Common.{◌≡◌, sym, refl, ℕ, ◌+◌, ◌-◌, ◌%◌, ◌<◌, nat_eq, not, Option, Some, None, Result, Ok, Err, List, [], ◌∷◌, length, cond, true, false, Bool, subst, min, arith}
use Rattle.machine_types.specs.declared.config.Rule.TheVariants.{Full}
use Rattle.machine_types.specs.declared.errno.Errno.TheVariants.{Ebadf, Echild, Eagain, Enomem, Efault, Enosys}
use Rattle.machine_types.specs.declared.touches.Access.{Access}
use Rattle.machine_types.specs.declared.touches.Access.TheVariants.{Read, Write}
use Rattle.machine_types.specs.declared.touches.NoFrame.{NoFrame}
use Rattle.machine_types.specs.declared.touches.Note.{Note}
use Rattle.contents.specs.Numbers.{most_transfer}
use Rattle.contents.specs.Content.{Content, CallOutcome, free_frames}
use Rattle.contents.specs.Accesses.{untouched}
use Rattle.contents.specs.Regions.{no_frame, numbers_in, fork_of}
use Rattle.contents.specs.Transfers.{prepare_of}
use Rattle.contents.specs.Laws.{ForkCopiesTheStore}
use Rattle.contents.specs.Touching.{PreparedTouchesAreNamed}
use Rattle.machine.specs.declared.process.State.TheVariants.{InWrite}
use Rattle.machine.specs.declared.report.WorkEnd.TheVariants.{Ended}
use Rattle.machine.specs.Numbers.{first_argument}
use Rattle.machine.specs.Processes.{integer}
use Rattle.machine.specs.Processes as processes
use Rattle.machine.specs.Pipes.{target}
use Rattle.machine.specs.Machines.{View}
use Rattle.machine.specs.Effects.{Effect, Answer, Gives, Refuses, answers, waits, ends}
use Rattle.machine.specs.Calls.{count_of_call, place_of, is_fault, tested, read_size, taken, console_read, is_for_reading, row_read, done_of, sent, printed, console_write, is_for_writing, row_write, forked, fork_at, row_fork, wait_for, row_wait, Call, Exit, Fork, Wait, Getpid, Getppid, ReadCall, WriteCall, Yield, Other, row}
use Rattle.machine.proofs.RefusedForks.{lack-is-no_frame}

-- the laws of contents that this needs
pub record FrameLaws : Type 0 where
  pub forks : ForkCopiesTheStore
  pub named : PreparedTouchesAreNamed

-- fewer frames are free than the process has pages
abbrev pub HasFewFrames : View → Content → Type 0
HasFewFrames v c = free_frames c < length (numbers_in (c.stores v.process.region))

-- The effect lacks a frame only where the call is a fork and too few are free, and does not end for want of one.
pub record LacksAtFork (v : View) (c : Content) (call : Call) (e : Effect) : Type 0 where
  pub fork : e.lacks ≡ true → (call ≡ Fork) × HasFewFrames v c
  pub lives : e.end ≡ Ended 268 → ⊥

-- an answer lacks none
answers-lack : (v : View) (c d : Content) (call : Call) (notes : List Note) (a : Answer) → LacksAtFork v c call (answers v d notes a)
answers-lack v c d call notes a = record { fork = λ e. absurd (cc); lives = λ e. absurd (cc) }

-- exit gives a status below 256
exit-lacks : (v : View) (c : Content) → LacksAtFork v c Exit (row Exit v c)
unfolding ends
exit-lacks v c = record {
  fork = λ e. absurd (cc);
  lives = λ e. let same : integer v.process first_argument % 256 ≡ 268 = cc in absurd (omega arith);
}

-- A fork lacks a frame where the stores refuse it, and there too few are free.
fork-lacks : FrameLaws → (v : View) (c : Content) → c.rule ≡ Full → LacksAtFork v c Fork (row_fork v c)
unfolding row_fork
fork-lacks laws v c full = by v.free_slot v.free_region
  where
    by-answer : (s to : ℕ) (a : Result (Unit {0}) NoFrame) → (fork_of c v.process.region to).answer ≡ a → LacksAtFork v c Fork (forked v s to (fork_of c v.process.region to).after a)
    by-answer s to (Ok done) f = record { fork = λ e. absurd (cc); lives = λ e. absurd (cc) }
    by-answer s to (Err lack) f =
        let is : lack ≡ no_frame = lack-is-no_frame c v.process.region to lack f in
        let refused : (fork_of c v.process.region to).answer ≡ Err no_frame = cc in
        record { fork = λ e. (refl, (laws.forks.refused c v.process.region to full).0 refused); lives = λ e. absurd (cc) }

    by : (at region : Option ℕ) → LacksAtFork v c Fork (fork_at (record v { free_region = region }) c at)
    by None region = answers-lack v c c Fork [] (Refuses Eagain)
    by (Some s) None = answers-lack v c c Fork [] (Refuses Enomem)
    by (Some s) (Some to) = by-answer s to (fork_of c v.process.region to).answer refl

-- A wait lacks none.
wait-lacks : (v : View) (c : Content) → LacksAtFork v c Wait (row_wait v c)
unfolding row_wait
wait-lacks v c = by v.children.some v.children.ended
  where
    by : (b : Bool) (o : Option processes.Ended) → LacksAtFork v c Wait (cond b (wait_for v c o) (answers v c [] (Refuses Echild)))
    by false o = answers-lack v c c Wait [] (Refuses Echild)
    by true None = record { fork = λ e. absurd (cc); lives = λ e. absurd (cc) }
    by true (Some child) = record { fork = λ e. absurd (cc); lives = λ e. absurd (cc) }

-- A transfer, after its tests.
tested-lacks : (v : View) (c : Content) (call : Call) (access : Access) (may : Bool) (e : Effect) → LacksAtFork v c call e → LacksAtFork v c call (tested v c access may e)
tested-lacks v c call access may e transfer = by may (nat_eq (count_of_call v) 0) (is_fault v.process c access (count_of_call v))
  where
    by : (may none fault : Bool) → LacksAtFork v c call (cond (not may) (answers v c [] (Refuses Ebadf)) (cond none (answers v c [] (Gives 0)) (cond fault (answers v c [] (Refuses Efault)) e)))
    by false none fault = answers-lack v c c call [] (Refuses Ebadf)
    by true true fault = answers-lack v c c call [] (Gives 0)
    by true false true = answers-lack v c c call [] (Refuses Efault)
    by true false false = transfer

-- A read. Under `full` its touches are there.
console_read-lacks : FrameLaws → (v : View) (c : Content) → c.rule ≡ Full → LacksAtFork v c ReadCall (console_read v c)
unfolding console_read
console_read-lacks laws v c full = by (nat_eq (length v.input) 0)
  where
    o : CallOutcome (Result (List Note) NoFrame)
    o = prepare_of c v.process.region (place_of v.process) (read_size v) Write

    made : LacksAtFork v c ReadCall (taken v (read_size v) o.after o.answer)
    made = subst (λ (answer : Result (List Note) NoFrame). LacksAtFork v c ReadCall (taken v (read_size v) o.after answer)) (sym (laws.named.full c v.process.region (place_of v.process) (read_size v) Write full))
        (record { fork = λ e. absurd (cc); lives = λ e. absurd (cc) })

    by : (b : Bool) → LacksAtFork v c ReadCall (cond b (answers v c [] (Gives 0)) (taken v (read_size v) o.after o.answer))
    by true = answers-lack v c c ReadCall [] (Gives 0)
    by false = made

-- the row
read-lacks : FrameLaws → (v : View) (c : Content) → c.rule ≡ Full → LacksAtFork v c ReadCall (row_read v c)
unfolding row_read
read-lacks laws v c full = tested-lacks v c ReadCall Write (is_for_reading (target v.table (integer v.process first_argument))) (console_read v c) (console_read-lacks laws v c full)

-- A write.
sent-lacks : (v : View) (c d : Content) (notes : List Note) (piece : List ℕ) (done : ℕ) → LacksAtFork v c WriteCall (sent v d notes piece done)
sent-lacks v c d notes piece done = by (nat_eq done (count_of_call v))
  where
    by : (b : Bool) → LacksAtFork v c WriteCall (record (cond b (answers v d notes (Gives done)) (waits v d notes (InWrite done))) { printed = piece })
    by true = record { fork = λ e. absurd (cc); lives = λ e. absurd (cc) }
    by false = record { fork = λ e. absurd (cc); lives = λ e. absurd (cc) }

-- Under `full` its touches are there too.
console_write-lacks : FrameLaws → (v : View) (c : Content) (done : ℕ) → c.rule ≡ Full → LacksAtFork v c WriteCall (console_write v c done)
unfolding console_write
console_write-lacks laws v c done full =
    let at : ℕ = place_of v.process + done in
    let size : ℕ = min (count_of_call v - done) most_transfer in
    subst (λ (answer : Result (List Note) NoFrame). LacksAtFork v c WriteCall (printed v done size (prepare_of c v.process.region at size Read).after answer)) (sym (laws.named.full c v.process.region at size Read full))
    (sent-lacks v c (prepare_of c v.process.region at size Read).after (untouched ∷ untouched ∷ []) _ (done + size))

-- the row
write-lacks : FrameLaws → (v : View) (c : Content) → c.rule ≡ Full → LacksAtFork v c WriteCall (row_write v c)
unfolding row_write
write-lacks laws v c full =
    let done : ℕ = done_of v.process.state in
    tested-lacks v c WriteCall Read (is_for_writing (target v.table (integer v.process first_argument))) (console_write v c done) (console_write-lacks laws v c done full)

-- each row
pub row-lacks : FrameLaws → (call : Call) (v : View) (c : Content) → c.rule ≡ Full → LacksAtFork v c call (row call v c)
row-lacks laws Exit v c full = exit-lacks v c
row-lacks laws Fork v c full = fork-lacks laws v c full
row-lacks laws Wait v c full = wait-lacks v c
row-lacks laws Getpid v c full = answers-lack v c c Getpid [] (Gives v.process.id)
row-lacks laws Getppid v c full = answers-lack v c c Getppid [] (Gives v.process.parent)
row-lacks laws ReadCall v c full = read-lacks laws v c full
row-lacks laws WriteCall v c full = write-lacks laws v c full
row-lacks laws Yield v c full = answers-lack v c c Yield [] (Gives 0)
row-lacks laws Other v c full = answers-lack v c c Other [] (Refuses Enosys)
