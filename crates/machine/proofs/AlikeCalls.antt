-- What a call makes depends on its view, the own store, the account, the rule and the number of frames alone.
use Rattle.std.proofs.Common.{◌≡◌, sym, ap, refl, ℕ, ◌+◌, ◌-◌, ◌%◌, nat_eq, not, ◌||◌, Option, Some, None, Result, Ok, Err, List, [], ◌∷◌, length, cond, true, false, Bool, subst, min, take}
use Rattle.cap_format.specs.Pattern.{address_of, kind_of}
use Rattle.cap_format.specs.Rights.{allows, holds}
use Rattle.machine_types.specs.declared.errno.Errno.TheVariants.{Ebadf, Echild, Eagain, Enomem, Efault, Enosys}
use Rattle.machine_types.specs.declared.touches.Access.{Access}
use Rattle.machine_types.specs.declared.touches.Access.TheVariants.{Read, Write}
use Rattle.machine_types.specs.declared.touches.NoFrame.{NoFrame}
use Rattle.machine_types.specs.declared.touches.Note.{Note}
use Rattle.contents.specs.Numbers.{most_transfer}
use Rattle.contents.specs.Content.{Content, CallOutcome}
use Rattle.contents.specs.Regions.{fork_of}
use Rattle.contents.specs.Transfers.{prepare_of}
use Rattle.contents.specs.Laws.{AreAlike, GiveAlike, OwnStoreDecides}
use Rattle.contents.specs.Agreeing.{StoreDecidesLooks}
use Rattle.machine.specs.declared.process.Process.{Process}
use Rattle.machine.specs.declared.process.State.TheVariants.{InWrite}
use Rattle.machine.specs.Numbers.{first_argument, second_argument}
use Rattle.machine.specs.Processes.{argument, integer, Ended}
use Rattle.machine.specs.Pipes.{target}
use Rattle.machine.specs.Machines.{View}
use Rattle.machine.specs.Effects.{Effect, Answer, Gives, Refuses, answers, waits, ends}
use Rattle.machine.specs.Calls.{count_of_call, place_of, permission_of, is_fault, tested, read_size, taken, console_read, is_for_reading, row_read, done_of, sent, printed, console_write, is_for_writing, row_write, forked, fork_into, fork_at, row_fork, wait_for, row_wait, Call, Exit, Fork, Wait, Getpid, Getppid, ReadCall, WriteCall, Yield, Other, row}
use Rattle.machine.specs.Isolation.{AreAlikeEffects}

-- the laws of contents that this needs
pub record LookLaws : Type 0 where
  pub own : OwnStoreDecides
  pub looks : StoreDecidesLooks

-- the content passes through
answers-alike : (v : View) (c d : Content) (notes : List Note) (a : Answer) → AreAlike v.process.region c d → AreAlikeEffects v.process.region (answers v c notes a) (answers v d notes a)
answers-alike v c d notes a h = record { rest = refl; content = h }

-- an end
ends-alike : OwnStoreDecides → (v : View) (c d : Content) (touches : List Note) (status : ℕ) (lacks : Bool) → AreAlike v.process.region c d → AreAlikeEffects v.process.region (ends v c touches status lacks) (ends v d touches status lacks)
unfolding ends
ends-alike own v c d touches status lacks h = record { rest = refl; content = own.end c d v.process.region h }

-- What is a fault depends on the own store alone.
pub fault-same : StoreDecidesLooks → (p : Process) (c d : Content) (access : Access) (count : ℕ) → d.stores p.region ≡ c.stores p.region → is_fault p d access count ≡ is_fault p c access count
unfolding is_fault
fault-same looks p c d access count e = ap (λ (b : Bool). by b) (looks.covers c d p.region (place_of p) count access e)
  where
    by : Bool → Bool
    by b = not (argument p second_argument).tag || nat_eq (kind_of (argument p second_argument).bits) 1 || not (allows (argument p second_argument).bits (permission_of access)) || not (holds (argument p second_argument).bits (address_of (argument p second_argument).bits) count) || not b

-- A fork.

-- one answer of the stores
forked-alike : (v : View) (s to : ℕ) (c d : Content) (answer : Result (Unit {0}) NoFrame) → AreAlike v.process.region c d → AreAlikeEffects v.process.region (forked v s to c answer) (forked v s to d answer)
forked-alike v s to c d (Ok done) h = record { rest = refl; content = h }
forked-alike v s to c d (Err lack) h = record { rest = refl; content = h }

-- what is made of an outcome, of equal answers and alike contents
of-outcomes : {A : Type 0} (region : ℕ) (f : Content → A → Effect) (o p : CallOutcome A) → ((c d : Content) (answer : A) → AreAlike region c d → AreAlikeEffects region (f c answer) (f d answer)) → GiveAlike region o p → AreAlikeEffects region (f o.after o.answer) (f p.after p.answer)
of-outcomes {A} region f o p same gives = subst (λ (answer : A). AreAlikeEffects region (f o.after o.answer) (f p.after answer)) (sym gives.answer) (same o.after p.after o.answer gives.after)

-- the row
fork-alike : OwnStoreDecides → (v : View) (c d : Content) → AreAlike v.process.region c d → AreAlikeEffects v.process.region (row_fork v c) (row_fork v d)
unfolding row_fork
fork-alike own v c d h = by v.free_slot
  where
    by-region : (s : ℕ) (o : Option ℕ) → AreAlikeEffects v.process.region (fork_into v c s o) (fork_into v d s o)
    by-region s None = answers-alike v c d [] (Refuses Enomem) h
    by-region s (Some to) = of-outcomes v.process.region (forked v s to) (fork_of c v.process.region to) (fork_of d v.process.region to) (forked-alike v s to) (own.fork_parent c d v.process.region to h)

    by : (o : Option ℕ) → AreAlikeEffects v.process.region (fork_at v c o) (fork_at v d o)
    by None = answers-alike v c d [] (Refuses Eagain) h
    by (Some s) = by-region s v.free_region

-- A wait.
wait-alike : (v : View) (c d : Content) → AreAlike v.process.region c d → AreAlikeEffects v.process.region (row_wait v c) (row_wait v d)
unfolding row_wait
wait-alike v c d h = by v.children.some v.children.ended
  where
    by : (b : Bool) (o : Option Ended) → AreAlikeEffects v.process.region (cond b (wait_for v c o) (answers v c [] (Refuses Echild))) (cond b (wait_for v d o) (answers v d [] (Refuses Echild)))
    by false o = answers-alike v c d [] (Refuses Echild) h
    by true None = record { rest = refl; content = h }
    by true (Some child) = record { rest = refl; content = h }

-- A transfer, after its tests.
tested-alike : StoreDecidesLooks → (v : View) (c d : Content) (access : Access) (may : Bool) (e f : Effect) → AreAlike v.process.region c d → AreAlikeEffects v.process.region e f → AreAlikeEffects v.process.region (tested v c access may e) (tested v d access may f)
tested-alike looks v c d access may e f h transfer = subst (λ (fault : Bool). AreAlikeEffects v.process.region (tested v c access may e) (of d f may (nat_eq (count_of_call v) 0) fault)) (sym (fault-same looks v.process c d access (count_of_call v) h.store))
    (by may (nat_eq (count_of_call v) 0) (is_fault v.process c access (count_of_call v)))
  where
    of : Content → Effect → Bool → Bool → Bool → Effect
    of x e may none fault = cond (not may) (answers v x [] (Refuses Ebadf)) (cond none (answers v x [] (Gives 0)) (cond fault (answers v x [] (Refuses Efault)) e))

    by : (may none fault : Bool) → AreAlikeEffects v.process.region (of c e may none fault) (of d f may none fault)
    by false none fault = answers-alike v c d [] (Refuses Ebadf) h
    by true true fault = answers-alike v c d [] (Gives 0) h
    by true false true = answers-alike v c d [] (Refuses Efault) h
    by true false false = transfer

-- A read.

-- what is taken for one answer of the stores
taken-alike : OwnStoreDecides → (v : View) (size : ℕ) (c d : Content) (answer : Result (List Note) NoFrame) → AreAlike v.process.region c d → AreAlikeEffects v.process.region (taken v size c answer) (taken v size d answer)
taken-alike own v size c d (Ok notes) h = record { rest = refl; content = own.write_bytes c d v.process.region (place_of v.process) (take size v.input) h }
taken-alike own v size c d (Err lack) h = ends-alike own v c d (lack.before ∷ []) 268 true h

-- a read of the console
console_read-alike : OwnStoreDecides → (v : View) (c d : Content) → AreAlike v.process.region c d → AreAlikeEffects v.process.region (console_read v c) (console_read v d)
unfolding console_read
console_read-alike own v c d h = by (nat_eq (length v.input) 0)
  where
    o : Content → CallOutcome (Result (List Note) NoFrame)
    o x = prepare_of x v.process.region (place_of v.process) (read_size v) Write

    by : (b : Bool) → AreAlikeEffects v.process.region (cond b (answers v c [] (Gives 0)) (taken v (read_size v) (o c).after (o c).answer)) (cond b (answers v d [] (Gives 0)) (taken v (read_size v) (o d).after (o d).answer))
    by true = answers-alike v c d [] (Gives 0) h
    by false = of-outcomes v.process.region (taken v (read_size v)) (o c) (o d) (taken-alike own v (read_size v)) (own.prepare c d v.process.region (place_of v.process) (read_size v) Write h)

-- the row
read-alike : LookLaws → (v : View) (c d : Content) → AreAlike v.process.region c d → AreAlikeEffects v.process.region (row_read v c) (row_read v d)
unfolding row_read
read-alike laws v c d h = tested-alike laws.looks v c d Write (is_for_reading (target v.table (integer v.process first_argument))) (console_read v c) (console_read v d) h (console_read-alike laws.own v c d h)

-- A write.

-- equal pieces
sent-alike : (v : View) (c d : Content) (notes : List Note) (a b : List ℕ) (done : ℕ) → b ≡ a → AreAlike v.process.region c d → AreAlikeEffects v.process.region (sent v c notes a done) (sent v d notes b done)
sent-alike v c d notes a b done e h = subst (λ (x : List ℕ). AreAlikeEffects v.process.region (sent v c notes a done) (sent v d notes x done)) (sym e) (by (nat_eq done (count_of_call v)))
  where
    of : Content → Bool → Effect
    of x b = record (cond b (answers v x notes (Gives done)) (waits v x notes (InWrite done))) { printed = a }

    by : (b : Bool) → AreAlikeEffects v.process.region (of c b) (of d b)
    by true = record { rest = refl; content = h }
    by false = record { rest = refl; content = h }

-- what is printed for one answer of the stores
printed-alike : LookLaws → (v : View) (done size : ℕ) (c d : Content) (answer : Result (List Note) NoFrame) → AreAlike v.process.region c d → AreAlikeEffects v.process.region (printed v done size c answer) (printed v done size d answer)
printed-alike laws v done size c d (Ok notes) h = sent-alike v c d notes _ _ (done + size) (laws.looks.read_bytes c d v.process.region (place_of v.process + done) size h.store) h
printed-alike laws v done size c d (Err lack) h = ends-alike laws.own v c d (lack.before ∷ []) 268 true h

-- a write to the console
console_write-alike : LookLaws → (v : View) (c d : Content) (done : ℕ) → AreAlike v.process.region c d → AreAlikeEffects v.process.region (console_write v c done) (console_write v d done)
unfolding console_write
console_write-alike laws v c d done h =
    let at : ℕ = place_of v.process + done in
    let size : ℕ = min (count_of_call v - done) most_transfer in
    of-outcomes v.process.region (printed v done size) (prepare_of c v.process.region at size Read) (prepare_of d v.process.region at size Read) (printed-alike laws v done size) (laws.own.prepare c d v.process.region at size Read h)

-- the row
write-alike : LookLaws → (v : View) (c d : Content) → AreAlike v.process.region c d → AreAlikeEffects v.process.region (row_write v c) (row_write v d)
unfolding row_write
write-alike laws v c d h =
    let done : ℕ = done_of v.process.state in
    tested-alike laws.looks v c d Read (is_for_writing (target v.table (integer v.process first_argument))) (console_write v c done) (console_write v d done) h (console_write-alike laws v c d done h)

-- each row
pub row-alike : LookLaws → (call : Call) (v : View) (c d : Content) → AreAlike v.process.region c d → AreAlikeEffects v.process.region (row call v c) (row call v d)
row-alike laws Exit v c d h = ends-alike laws.own v c d [] (integer v.process first_argument % 256) false h
row-alike laws Fork v c d h = fork-alike laws.own v c d h
row-alike laws Wait v c d h = wait-alike v c d h
row-alike laws Getpid v c d h = answers-alike v c d [] (Gives v.process.id) h
row-alike laws Getppid v c d h = answers-alike v c d [] (Gives v.process.parent) h
row-alike laws ReadCall v c d h = read-alike laws v c d h
row-alike laws WriteCall v c d h = write-alike laws v c d h
row-alike laws Yield v c d h = answers-alike v c d [] (Gives 0) h
row-alike laws Other v c d h = answers-alike v c d [] (Refuses Enosys) h
