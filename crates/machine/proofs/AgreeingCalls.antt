-- What a call makes over contents with the same stores, where it lacks no frame.
use Rattle.std.proofs.Common.{◌≡◌, sym, refl, ℕ, ◌+◌, ◌-◌, ◌%◌, nat_eq, not, Option, Some, None, Result, Ok, Err, List, [], length, cond, true, false, Bool, subst, min, take}
use Rattle.machine_types.specs.declared.errno.Errno.TheVariants.{Ebadf, Echild, Eagain, Enomem, Efault, Enosys}
use Rattle.machine_types.specs.declared.touches.Access.{Access}
use Rattle.machine_types.specs.declared.touches.Access.TheVariants.{Read, Write}
use Rattle.machine_types.specs.declared.touches.NoFrame.{NoFrame}
use Rattle.machine_types.specs.declared.touches.Note.{Note}
use Rattle.contents.specs.Numbers.{most_transfer}
use Rattle.contents.specs.Content.{Content, CallOutcome}
use Rattle.contents.specs.Regions.{fork_of}
use Rattle.contents.specs.Transfers.{prepare_of}
use Rattle.contents.specs.Agreeing.{HaveSameStores, RulesAgree, StoreDecidesLooks}
use Rattle.machine.specs.declared.process.State.TheVariants.{InWrite}
use Rattle.machine.specs.Numbers.{first_argument}
use Rattle.machine.specs.Processes.{integer, Ended}
use Rattle.machine.specs.Pipes.{target}
use Rattle.machine.specs.Machines.{View}
use Rattle.machine.specs.Effects.{Effect, Answer, Gives, Refuses, answers, waits, ends}
use Rattle.machine.specs.Calls.{count_of_call, place_of, is_fault, tested, read_size, taken, console_read, is_for_reading, row_read, done_of, sent, printed, console_write, is_for_writing, row_write, forked, fork_at, row_fork, wait_for, row_wait, Call, Exit, Fork, Wait, Getpid, Getppid, ReadCall, WriteCall, Yield, Other, row}
use Rattle.machine.specs.Isolation.{EffectsAgree}
use Rattle.machine.proofs.AlikeCalls.{fault-same}

-- the laws of contents that this needs
pub record RuleLaws : Type 0 where
  pub rules : RulesAgree
  pub looks : StoreDecidesLooks

-- the content passes through
answers-agree : (v : View) (c d : Content) (notes others : List Note) (a : Answer) → HaveSameStores c d → EffectsAgree (answers v c notes a) (answers v d others a)
answers-agree v c d notes others a h = record { rest = refl; content = h }

-- an end
ends-agree : RulesAgree → (v : View) (c d : Content) (notes others : List Note) (status : ℕ) (lacks : Bool) → HaveSameStores c d → EffectsAgree (ends v c notes status lacks) (ends v d others status lacks)
unfolding ends
ends-agree rules v c d notes others status lacks h = record { rest = refl; content = rules.end c d v.process.region h }

-- A fork, where neither is refused for want of frames.
fork-agree : RulesAgree → (v : View) (c d : Content) → HaveSameStores c d → (row_fork v c).lacks ≡ false → (row_fork v d).lacks ≡ false → EffectsAgree (row_fork v c) (row_fork v d)
unfolding row_fork
fork-agree rules v c d h = by v.free_slot v.free_region
  where
    o : ℕ → Content → CallOutcome (Result (Unit {0}) NoFrame)
    o to x = fork_of x v.process.region to

    by-answers : (s to : ℕ) (a b : Result (Unit {0}) NoFrame) → (o to c).answer ≡ a → (o to d).answer ≡ b
        → (forked v s to (o to c).after a).lacks ≡ false → (forked v s to (o to d).after b).lacks ≡ false → EffectsAgree (forked v s to (o to c).after a) (forked v s to (o to d).after b)
    by-answers s to (Err lack) b e f l k = absurd (cc)
    by-answers s to (Ok done) (Err lack) e f l k = absurd (cc)
    by-answers s to (Ok done) (Ok made) e f l k = record { rest = refl; content = rules.fork c d v.process.region to h (rw e refl) (rw f refl) }

    by : (at region : Option ℕ) → (fork_at (record v { free_region = region }) c at).lacks ≡ false → (fork_at (record v { free_region = region }) d at).lacks ≡ false
        → EffectsAgree (fork_at (record v { free_region = region }) c at) (fork_at (record v { free_region = region }) d at)
    by None region l k = answers-agree v c d [] [] (Refuses Eagain) h
    by (Some s) None l k = answers-agree v c d [] [] (Refuses Enomem) h
    by (Some s) (Some to) l k = by-answers s to (o to c).answer (o to d).answer refl refl l k

-- A wait.
wait-agree : (v : View) (c d : Content) → HaveSameStores c d → EffectsAgree (row_wait v c) (row_wait v d)
unfolding row_wait
wait-agree v c d h = by v.children.some v.children.ended
  where
    by : (b : Bool) (o : Option Ended) → EffectsAgree (cond b (wait_for v c o) (answers v c [] (Refuses Echild))) (cond b (wait_for v d o) (answers v d [] (Refuses Echild)))
    by false o = answers-agree v c d [] [] (Refuses Echild) h
    by true None = record { rest = refl; content = h }
    by true (Some child) = record { rest = refl; content = h }

-- two effects agree where neither lacks a frame
abbrev AgreeIfMade : Effect → Effect → Type 0
AgreeIfMade e f = e.lacks ≡ false → f.lacks ≡ false → EffectsAgree e f

-- A transfer, after its tests.
tested-agree : StoreDecidesLooks → (v : View) (c d : Content) (access : Access) (may : Bool) (e f : Effect) → HaveSameStores c d → AgreeIfMade e f → AgreeIfMade (tested v c access may e) (tested v d access may f)
tested-agree looks v c d access may e f h transfer = subst (λ (fault : Bool). AgreeIfMade (tested v c access may e) (of d f may (nat_eq (count_of_call v) 0) fault)) (sym (fault-same looks v.process c d access (count_of_call v) (h v.process.region)))
    (by may (nat_eq (count_of_call v) 0) (is_fault v.process c access (count_of_call v)))
  where
    of : Content → Effect → Bool → Bool → Bool → Effect
    of x e may none fault = cond (not may) (answers v x [] (Refuses Ebadf)) (cond none (answers v x [] (Gives 0)) (cond fault (answers v x [] (Refuses Efault)) e))

    by : (may none fault : Bool) → AgreeIfMade (of c e may none fault) (of d f may none fault)
    by false none fault l k = answers-agree v c d [] [] (Refuses Ebadf) h
    by true true fault l k = answers-agree v c d [] [] (Gives 0) h
    by true false true l k = answers-agree v c d [] [] (Refuses Efault) h
    by true false false l k = transfer l k

-- A read.

-- what is taken for an answer of the stores
taken-agree : RulesAgree → (v : View) (size : ℕ) (c d : Content) (a b : Result (List Note) NoFrame) → HaveSameStores c d → AgreeIfMade (taken v size c a) (taken v size d b)
unfolding ends
taken-agree rules v size c d (Ok notes) (Ok others) h l k = record { rest = refl; content = rules.write_bytes c d v.process.region (place_of v.process) (take size v.input) h }
taken-agree rules v size c d (Ok notes) (Err lack) h l k = absurd (cc)
taken-agree rules v size c d (Err lack) b h l k = absurd (cc)

-- a read of the console
console_read-agree : RulesAgree → (v : View) (c d : Content) → HaveSameStores c d → AgreeIfMade (console_read v c) (console_read v d)
unfolding console_read
console_read-agree rules v c d h = by (nat_eq (length v.input) 0)
  where
    o : Content → CallOutcome (Result (List Note) NoFrame)
    o x = prepare_of x v.process.region (place_of v.process) (read_size v) Write

    of : Content → Bool → Effect
    of x b = cond b (answers v x [] (Gives 0)) (taken v (read_size v) (o x).after (o x).answer)

    by : (b : Bool) → AgreeIfMade (of c b) (of d b)
    by true l k = answers-agree v c d [] [] (Gives 0) h
    by false l k = taken-agree rules v (read_size v) (o c).after (o d).after (o c).answer (o d).answer (rules.prepare c d v.process.region (place_of v.process) (read_size v) Write h) l k

-- the row
read-agree : RuleLaws → (v : View) (c d : Content) → HaveSameStores c d → AgreeIfMade (row_read v c) (row_read v d)
unfolding row_read
read-agree laws v c d h = tested-agree laws.looks v c d Write (is_for_reading (target v.table (integer v.process first_argument))) (console_read v c) (console_read v d) h (console_read-agree laws.rules v c d h)

-- A write.

-- equal pieces
sent-agree : (v : View) (c d : Content) (notes others : List Note) (a b : List ℕ) (done : ℕ) → b ≡ a → HaveSameStores c d → EffectsAgree (sent v c notes a done) (sent v d others b done)
sent-agree v c d notes others a b done e h = subst (λ (x : List ℕ). EffectsAgree (sent v c notes a done) (sent v d others x done)) (sym e) (by (nat_eq done (count_of_call v)))
  where
    of : Content → List Note → Bool → Effect
    of x made b = record (cond b (answers v x made (Gives done)) (waits v x made (InWrite done))) { printed = a }

    by : (b : Bool) → EffectsAgree (of c notes b) (of d others b)
    by true = record { rest = refl; content = h }
    by false = record { rest = refl; content = h }

-- what is printed for an answer of the stores
printed-agree : StoreDecidesLooks → (v : View) (done size : ℕ) (c d : Content) (a b : Result (List Note) NoFrame) → HaveSameStores c d → AgreeIfMade (printed v done size c a) (printed v done size d b)
unfolding ends
printed-agree looks v done size c d (Ok notes) (Ok others) h l k = sent-agree v c d notes others _ _ (done + size) (looks.read_bytes c d v.process.region (place_of v.process + done) size (h v.process.region)) h
printed-agree looks v done size c d (Ok notes) (Err lack) h l k = absurd (cc)
printed-agree looks v done size c d (Err lack) b h l k = absurd (cc)

-- a write to the console
console_write-agree : RuleLaws → (v : View) (c d : Content) (done : ℕ) → HaveSameStores c d → AgreeIfMade (console_write v c done) (console_write v d done)
unfolding console_write
console_write-agree laws v c d done h =
    let at : ℕ = place_of v.process + done in
    let size : ℕ = min (count_of_call v - done) most_transfer in
    let region : ℕ = v.process.region in
    printed-agree laws.looks v done size (prepare_of c region at size Read).after (prepare_of d region at size Read).after (prepare_of c region at size Read).answer (prepare_of d region at size Read).answer
    (laws.rules.prepare c d region at size Read h)

-- the row
write-agree : RuleLaws → (v : View) (c d : Content) → HaveSameStores c d → AgreeIfMade (row_write v c) (row_write v d)
unfolding row_write
write-agree laws v c d h =
    let done : ℕ = done_of v.process.state in
    tested-agree laws.looks v c d Read (is_for_writing (target v.table (integer v.process first_argument))) (console_write v c done) (console_write v d done) h (console_write-agree laws v c d done h)

-- each row
pub row-agree : RuleLaws → (call : Call) (v : View) (c d : Content) → HaveSameStores c d → AgreeIfMade (row call v c) (row call v d)
row-agree laws Exit v c d h l k = ends-agree laws.rules v c d [] [] (integer v.process first_argument % 256) false h
row-agree laws Fork v c d h l k = fork-agree laws.rules v c d h l k
row-agree laws Wait v c d h l k = wait-agree v c d h
row-agree laws Getpid v c d h l k = answers-agree v c d [] [] (Gives v.process.id) h
row-agree laws Getppid v c d h l k = answers-agree v c d [] [] (Gives v.process.parent) h
row-agree laws ReadCall v c d h l k = read-agree laws v c d h l k
row-agree laws WriteCall v c d h l k = write-agree laws v c d h l k
row-agree laws Yield v c d h l k = answers-agree v c d [] [] (Gives 0) h
row-agree laws Other v c d h l k = answers-agree v c d [] [] (Refuses Enosys) h
