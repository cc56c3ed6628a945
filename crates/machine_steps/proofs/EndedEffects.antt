-- A work is reported as ended exactly where its deed ends the process.
use Rattle.std.proofs.Common.{◌≡◌, refl, ℕ, ◌+◌, ◌==◌, not, Option, Some, None, Result, Ok, Err, List, true, false, cond, Bool, length}
use Rattle.machine_types.specs.declared.touches.Access.{Access}
use Rattle.machine_types.specs.declared.touches.Access.TheVariants.{Read, Write}
use Rattle.machine_types.specs.declared.touches.Note.{Note}
use Rattle.machine_types.specs.declared.touches.NoFrame.{NoFrame}
use Rattle.contents.specs.Content.{Content}
use Rattle.contents.specs.Regions.{fork_of}
use Rattle.contents.specs.Transfers.{prepare_of}
use Rattle.cheri_step.specs.declared.step.StepEnd.{StepEnd}
use Rattle.cheri_step.specs.declared.step.StepEnd.TheVariants.{Next, Call, Fault}
use Rattle.cheri_step.specs.Effect as instruction
use Rattle.machine.specs.declared.process.State.{State}
use Rattle.machine.specs.declared.process.State.TheVariants.{Ready, InRead, InWrite, InWait, Zombie}
use Rattle.machine.specs.declared.report.WorkEnd.{WorkEnd}
use Rattle.machine.specs.declared.report.WorkEnd.TheVariants.{Plain, Answered, Waiting, Forked, Ended}
use Rattle.machine.specs.Numbers.{number_register, first_argument}
use Rattle.machine.specs.Processes.{integer}
use Rattle.machine.specs.Processes as process
use Rattle.machine.specs.Pipes.{target}
use Rattle.machine.specs.Machines.{View}
use Rattle.machine.specs.Effects.{Effect, ends}
use Rattle.machine.specs.Calls as call
use Rattle.machine.specs.Calls.{row_fork, forked, fork_into, fork_at, row_wait, wait_for, count_of_call, is_fault, tested, read_size, taken, console_read, is_for_reading, row_read, done_of, sent, printed, console_write, is_for_writing, row_write, call_of, row}
use Rattle.machine.specs.Isolation.{is_end}
use Rattle.machine_steps.specs.Works.{instruction_of, instructed, effect_as, effect_of}

-- it is reported as ended
abbrev pub is_ended : WorkEnd → Bool
is_ended Plain = false
is_ended (Answered n answer) = false
is_ended (Waiting n) = false
is_ended (Forked answer child slot region) = false
is_ended (Ended status) = true

-- report and deed say the same of the end
abbrev EndsAsSaid : Effect → Type 0
EndsAsSaid e = is_ended e.end ≡ is_end e.deed

-- by a test
either : (b : Bool) (e f : Effect) → EndsAsSaid e → EndsAsSaid f → EndsAsSaid (cond b e f)
either true e f here there = here
either false e f here there = there

-- a fork
fork-said : (v : View) (c : Content) → EndsAsSaid (row_fork v c)
unfolding row_fork
fork-said v c = by v.free_slot
  where
    by-answer : (slot to : ℕ) (d : Content) (answer : Result (Unit {0}) NoFrame) → EndsAsSaid (forked v slot to d answer)
    by-answer slot to d (Ok done) = refl
    by-answer slot to d (Err lack) = refl

    by-region : (slot : ℕ) (o : Option ℕ) → EndsAsSaid (fork_into v c slot o)
    by-region slot None = refl
    by-region slot (Some to) = by-answer slot to (fork_of c v.process.region to).after (fork_of c v.process.region to).answer

    by : (o : Option ℕ) → EndsAsSaid (fork_at v c o)
    by None = refl
    by (Some slot) = by-region slot v.free_region

-- a wait
wait-said : (v : View) (c : Content) → EndsAsSaid (row_wait v c)
unfolding row_wait
wait-said v c = either v.children.some _ _ (by v.children.ended) refl
  where
    by : (o : Option process.Ended) → EndsAsSaid (wait_for v c o)
    by None = refl
    by (Some child) = refl

-- a transfer after its tests
tested-said : (v : View) (c : Content) (access : Access) (may : Bool) (transfer : Effect) → EndsAsSaid transfer → EndsAsSaid (tested v c access may transfer)
tested-said v c access may transfer said =
    either (not may) _ _ refl (either (count_of_call v == 0) _ _ refl (either (is_fault v.process c access (count_of_call v)) _ _ refl said))

-- a read
read-said : (v : View) (c : Content) → EndsAsSaid (row_read v c)
unfolding row_read console_read ends
read-said v c =
    let o = prepare_of c v.process.region (call.place_of v.process) (read_size v) Write in
    tested-said v c Write (is_for_reading (target v.table (integer v.process first_argument))) (console_read v c) (either (length v.input == 0) _ _ refl (by o.after o.answer))
  where
    by : (d : Content) (answer : Result (List Note) NoFrame) → EndsAsSaid (taken v (read_size v) d answer)
    by d (Ok notes) = refl
    by d (Err lack) = refl

-- a write
write-said : (v : View) (c : Content) → EndsAsSaid (row_write v c)
unfolding row_write console_write ends
write-said v c =
    tested-said v c Read (is_for_writing (target v.table (integer v.process first_argument))) (console_write v c (done_of v.process.state)) (by (done_of v.process.state) _ _ _)
  where
    by : (done size : ℕ) (d : Content) (answer : Result (List Note) NoFrame) → EndsAsSaid (printed v done size d answer)
    by done size d (Ok notes) = either ((done + size) == count_of_call v) _ _ refl refl
    by done size d (Err lack) = refl

-- each call
call-said : (call : call.Call) (v : View) (c : Content) → EndsAsSaid (row call v c)
unfolding ends
call-said call.Exit v c = refl
call-said call.Fork v c = fork-said v c
call-said call.Wait v c = wait-said v c
call-said call.Getpid v c = refl
call-said call.Getppid v c = refl
call-said call.ReadCall v c = read-said v c
call-said call.WriteCall v c = write-said v c
call-said call.Yield v c = refl
call-said call.Other v c = refl

-- each work
pub effect-said : (v : View) (c : Content) → is_ended (effect_of v c).end ≡ is_end (effect_of v c).deed
unfolding effect_of ends
effect-said v c = by v.process.state
  where
    i : instruction.Effect
    i = instruction_of v.process c

    called-said : (d : Content) → EndsAsSaid (row (call_of (integer v.process number_register)) v d)
    called-said d = call-said (call_of (integer v.process number_register)) v d

    by-end : (end : StepEnd) → EndsAsSaid (instructed v i end)
    by-end Next = refl
    by-end Call = called-said i.after.content
    by-end (Fault cause) = refl

    by : (s : State) → EndsAsSaid (effect_as v c s)
    by Ready = by-end i.end
    by InRead = called-said c
    by (InWrite done) = called-said c
    by InWait = called-said c
    by (Zombie status) = called-said c

-- What is reported as ended has a status.
pub ended-status : (end : WorkEnd) → is_ended end ≡ true → (status : ℕ) × (end ≡ Ended status)
ended-status Plain h = absurd (cc)
ended-status (Answered n answer) h = absurd (cc)
ended-status (Waiting n) h = absurd (cc)
ended-status (Forked answer child slot region) h = absurd (cc)
ended-status (Ended status) h = (status, refl)
