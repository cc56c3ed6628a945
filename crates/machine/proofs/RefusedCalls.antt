-- Which calls are refused, and that a refused one changes nothing.
use Rattle.std.proofs.Common.{◌≡◌, ◌≢◌, ◌∙◌, ◌⊎◌, inl, inr, sym, ap, refl, ℕ, ◌+◌, ◌-◌, nat_eq, not, Option, Some, None, Result, Ok, Err, List, [], ◌∷◌, length, cond, true, false, Bool, subst, min}
use Rattle.std.specs.Prelude.{◌↔◌, pos, neg_ℤ}
use Rattle.std.proofs.Math.IntN.{neg_ℤ-neg_ℤ}
use Rattle.std.proofs.lemmas.Bool.{eq-eqb, eqb-true}
use Rattle.machine_types.specs.declared.errno.Errno.{Errno}
use Rattle.machine_types.specs.declared.errno.Errno.TheVariants.{Ebadf, Echild, Eagain, Enomem, Efault, Enfile, Emfile, Epipe, Enosys}
use Rattle.machine_types.specs.Errors.{error_number}
use Rattle.machine_types.specs.declared.touches.Access.{Access}
use Rattle.machine_types.specs.declared.touches.Access.TheVariants.{Read, Write}
use Rattle.machine_types.specs.declared.touches.NoFrame.{NoFrame}
use Rattle.machine_types.specs.declared.touches.Note.{Note}
use Rattle.contents.specs.Numbers.{most_transfer}
use Rattle.contents.specs.Content.{Content, CallOutcome}
use Rattle.contents.specs.Regions.{no_frame, fork_of}
use Rattle.contents.specs.Transfers.{prepare_of, read_bytes_of}
use Rattle.machine.specs.declared.process.State.TheVariants.{InWrite}
use Rattle.machine.specs.declared.process.Target.{Target}
use Rattle.machine.specs.declared.process.Target.TheVariants.{ConsoleIn, ConsoleOut, PipeRead, PipeWrite}
use Rattle.machine.specs.declared.report.WorkEnd.TheVariants.{Answered}
use Rattle.machine.specs.Numbers.{fork_call, wait_call, read_call, write_call, number_register, first_argument}
use Rattle.machine.specs.Processes.{integer, Ended}
use Rattle.machine.specs.Pipes.{target}
use Rattle.machine.specs.Machines.{View}
use Rattle.machine.specs.Effects.{Goes, Effect, Gives, Refuses, answered_process, answers, refuses, waits, ends}
use Rattle.machine.specs.Calls.{count_of_call, place_of, is_fault, tested, read_size, taken, console_read, is_for_reading, row_read, done_of, sent, printed, console_write, is_for_writing, row_write, forked, fork_at, row_fork, wait_for, row_wait, Call, Exit, Fork, Wait, Getpid, Getppid, ReadCall, WriteCall, Yield, Other, call_of, row, called}
use Rattle.machine.specs.CallLaws.{Calls, IsRefused, RefusalsChangeNothing}
use Rattle.machine.proofs.RefusedForks.{lack-is-no_frame, lack-changes-nothing}

-- The numbers of errors.

-- the error of a number
error_of : ℕ → Errno
error_of n =
    cond (nat_eq n 9) Ebadf (cond (nat_eq n 10) Echild (cond (nat_eq n 11) Eagain (cond (nat_eq n 12) Enomem
    (cond (nat_eq n 14) Efault (cond (nat_eq n 23) Enfile (cond (nat_eq n 24) Emfile (cond (nat_eq n 32) Epipe Enosys)))))))

-- It is the one that has the number.
error-of-number : (error : Errno) → error_of (error_number error) ≡ error
unfolding error_of
error-of-number Ebadf = refl
error-of-number Echild = refl
error-of-number Eagain = refl
error-of-number Enomem = refl
error-of-number Efault = refl
error-of-number Enfile = refl
error-of-number Emfile = refl
error-of-number Epipe = refl
error-of-number Enosys = refl

-- Errors of one number are one.
error-is : (error other : Errno) → neg_ℤ (pos (error_number error)) ≡ neg_ℤ (pos (error_number other)) → error ≡ other
error-is error other e =
    let same : pos (error_number error) ≡ pos (error_number other) = sym (neg_ℤ-neg_ℤ (pos (error_number error))) ∙ ap neg_ℤ e ∙ neg_ℤ-neg_ℤ (pos (error_number other)) in
    let numbers : error_number error ≡ error_number other = cc in
    sym (error-of-number error) ∙ ap error_of numbers ∙ error-of-number other

-- A number is no refusal.
no-number : (n : ℕ) (error : Errno) → pos n ≡ neg_ℤ (pos (error_number error)) → ⊥
no-number n Ebadf e = cc
no-number n Echild e = cc
no-number n Eagain e = cc
no-number n Enomem e = cc
no-number n Efault e = cc
no-number n Enfile e = cc
no-number n Emfile e = cc
no-number n Epipe e = cc
no-number n Enosys e = cc

-- Effects of refused calls.

-- the effect ends with this refusal
abbrev EndsRefused : View → Effect → Errno → Type 0
EndsRefused v e error = e.end ≡ Answered (integer v.process number_register) (neg_ℤ (pos (error_number error)))

-- it ends with no refusal
abbrev IsNoRefusal : View → Effect → Type 0
IsNoRefusal v e = (error : Errno) → EndsRefused v e error → ⊥

-- an effect that changes nothing but the answer
record ChangesNothing (v : View) (c : Content) (error : Errno) (e : Effect) : Type 0 where
  pub process : e.process ≡ answered_process v.process (Refuses error)
  pub content : e.content ≡ c
  pub input : e.input ≡ None
  pub deed : e.deed ≡ Goes
  pub touches : e.touches ≡ []
  pub printed : e.printed ≡ []

-- it does, where it is a refusal
abbrev KeepsIfRefused : View → Content → Effect → Type 0
KeepsIfRefused v c e = (error : Errno) → EndsRefused v e error → ChangesNothing v c error e

-- a number that is answered is no refusal
gives-no-refusal : (v : View) (c : Content) (notes : List Note) (n : ℕ) → IsNoRefusal v (answers v c notes (Gives n))
gives-no-refusal v c notes n error e = let same : pos n ≡ neg_ℤ (pos (error_number error)) = cc in no-number n error same

-- nor is an end
ends-no-refusal : (v : View) (c : Content) (notes : List Note) (status : ℕ) (lacks : Bool) → IsNoRefusal v (ends v c notes status lacks)
unfolding ends
ends-no-refusal v c notes status lacks error e = cc

-- a refusal has its own error
refusal-is : (v : View) (c : Content) (error other : Errno) → EndsRefused v (refuses v c error) other → error ≡ other
refusal-is v c error other e =
    let same : neg_ℤ (pos (error_number error)) ≡ neg_ℤ (pos (error_number other)) = cc in
    error-is error other same

-- and changes nothing
refuses-keeps : (v : View) (c : Content) (error : Errno) (lacks : Bool) → KeepsIfRefused v c (record (refuses v c error) { lacks = lacks })
refuses-keeps v c error lacks other e =
    subst (λ (o : Errno). ChangesNothing v c o (record (refuses v c error) { lacks = lacks })) (refusal-is v c error other e)
    (record { process = refl; content = refl; input = refl; deed = refl; touches = refl; printed = refl })

-- A fork.

-- the call of a number is the row of its call
row-of-number : (v : View) (c : Content) (n : ℕ) → Calls v n → called v c ≡ row (call_of n) v c
row-of-number v c n calls = ap (λ (k : ℕ). row (call_of k) v c) calls

-- where a fork is refused for its slot, and where for its region or for frames
record ForkIsRefused (v : View) (c : Content) (e : Effect) : Type 0 where
  pub keeps : KeepsIfRefused v c e
  pub eagain : EndsRefused v e Eagain ↔ (v.free_slot ≡ None)
  pub enomem : EndsRefused v e Enomem
      ↔ ((v.free_slot ≢ None) × ((v.free_region ≡ None) ⊎ ((to : ℕ) × (v.free_region ≡ Some to) × ((fork_of c v.process.region to).answer ≡ Err no_frame))))

-- first the slot, then the region, then the answer of the stores
fork-refused : (v : View) (c : Content) → ForkIsRefused v c (row_fork v c)
unfolding row_fork
fork-refused v c = by v.free_slot v.free_region refl refl
  where
    by-answer : (s to : ℕ) (a : Result (Unit {0}) NoFrame) → v.free_slot ≡ Some s → v.free_region ≡ Some to → (fork_of c v.process.region to).answer ≡ a
        → ForkIsRefused v c (forked v s to (fork_of c v.process.region to).after a)
    by-answer s to (Ok done) at region f = record {
      keeps = λ error e. absurd (cc);
      eagain = (λ e. absurd (cc), λ e. absurd (cc));
      enomem = (λ e. absurd (cc), λ h. absurd (not-refused h.1));
    }
      where
        not-refused : (v.free_region ≡ None) ⊎ ((to : ℕ) × (v.free_region ≡ Some to) × ((fork_of c v.process.region to).answer ≡ Err no_frame)) → ⊥
        not-refused (inl none) = cc
        not-refused (inr w) =
            let same : w.0 ≡ to = let one = w.1 in cc in
            let refused : (fork_of c v.process.region to).answer ≡ Err no_frame = subst (λ (k : ℕ). (fork_of c v.process.region k).answer ≡ Err no_frame) same w.2 in
            cc
    by-answer s to (Err lack) at region f =
        let is : lack ≡ no_frame = lack-is-no_frame c v.process.region to lack f in
        let refused : (fork_of c v.process.region to).answer ≡ Err no_frame = cc in
        record {
          keeps = subst (λ (d : Content). KeepsIfRefused v c (forked v s to d (Err lack))) (sym (lack-changes-nothing c v.process.region to lack f)) (refuses-keeps v c Enomem true);
          eagain = (λ e. let same : Enomem ≡ Eagain = refusal-is v c Enomem Eagain e in absurd (cc), λ e. absurd (cc));
          enomem = (λ e. (λ none. absurd (cc), inr (to, region, refused)), λ h. refl);
        }

    by : (s r : Option ℕ) → v.free_slot ≡ s → v.free_region ≡ r → ForkIsRefused v c (fork_at (record v { free_region = r }) c s)
    by None r at region = record {
      keeps = refuses-keeps v c Eagain false;
      eagain = (λ e. at, λ e. refl);
      enomem = (λ e. let same : Eagain ≡ Enomem = refusal-is v c Eagain Enomem e in absurd (cc), λ h. absurd (h.0 at));
    }
    by (Some s) None at region = record {
      keeps = refuses-keeps v c Enomem false;
      eagain = (λ e. let same : Enomem ≡ Eagain = refusal-is v c Enomem Eagain e in absurd (cc), λ e. absurd (cc));
      enomem = (λ e. (λ none. absurd (cc), inl region), λ h. refl);
    }
    by (Some s) (Some to) at region = by-answer s to (fork_of c v.process.region to).answer at region refl

-- A wait.
record WaitIsRefused (v : View) (c : Content) (e : Effect) : Type 0 where
  pub keeps : KeepsIfRefused v c e
  pub echild : EndsRefused v e Echild ↔ (v.children.some ≡ false)

-- a child, or none
wait-refused : (v : View) (c : Content) → WaitIsRefused v c (row_wait v c)
unfolding row_wait
wait-refused v c = by v.children.some v.children.ended refl
  where
    by : (b : Bool) (o : Option Ended) → v.children.some ≡ b → WaitIsRefused v c (cond b (wait_for v c o) (answers v c [] (Refuses Echild)))
    by false o is = record { keeps = refuses-keeps v c Echild false; echild = (λ e. is, λ e. refl) }
    by true None is = record { keeps = λ error e. absurd (cc); echild = (λ e. absurd (cc), λ e. absurd (cc)) }
    by true (Some child) is = record {
      keeps = λ error e. absurd (gives-no-refusal v c [] child.id error e);
      echild = (λ e. absurd (gives-no-refusal v c [] child.id Echild e), λ e. absurd (cc));
    }

-- A transfer, after its tests.
record TransferIsRefused (v : View) (c : Content) (access : Access) (may : Bool) (e : Effect) : Type 0 where
  pub keeps : KeepsIfRefused v c e
  pub ebadf : EndsRefused v e Ebadf ↔ (may ≡ false)
  pub efault : EndsRefused v e Efault ↔ ((may ≡ true) × (count_of_call v ≢ 0) × (is_fault v.process c access (count_of_call v) ≡ true))

-- A transfer that is never refused itself is refused by its tests alone.
tested-refused : (v : View) (c : Content) (access : Access) (may : Bool) (e : Effect) → IsNoRefusal v e → TransferIsRefused v c access may (tested v c access may e)
tested-refused v c access may transfer none-is = by may (nat_eq (count_of_call v) 0) (is_fault v.process c access (count_of_call v)) refl refl
  where
    by : (m none fault : Bool) → nat_eq (count_of_call v) 0 ≡ none → is_fault v.process c access (count_of_call v) ≡ fault
        → TransferIsRefused v c access m (cond (not m) (answers v c [] (Refuses Ebadf)) (cond none (answers v c [] (Gives 0)) (cond fault (answers v c [] (Refuses Efault)) transfer)))
    by false none fault is f = record {
      keeps = refuses-keeps v c Ebadf false;
      ebadf = (λ e. refl, λ e. refl);
      efault = (λ e. let same : Ebadf ≡ Efault = refusal-is v c Ebadf Efault e in absurd (cc), λ h. let a = h.0 in absurd (cc));
    }
    by true true fault is f =
        let zero-is : count_of_call v ≡ 0 = eqb-true (count_of_call v) 0 is in
        record {
          keeps = λ error e. absurd (gives-no-refusal v c [] 0 error e);
          ebadf = (λ e. absurd (gives-no-refusal v c [] 0 Ebadf e), λ e. absurd (cc));
          efault = (λ e. absurd (gives-no-refusal v c [] 0 Efault e), λ h. absurd (h.1 zero-is));
        }
    by true false true is f = record {
      keeps = refuses-keeps v c Efault false;
      ebadf = (λ e. let same : Efault ≡ Ebadf = refusal-is v c Efault Ebadf e in absurd (cc), λ e. absurd (cc));
      efault = (λ e. (refl, (λ zero-is. let b : nat_eq (count_of_call v) 0 ≡ true = eq-eqb (count_of_call v) 0 zero-is in absurd (cc)), f), λ h. refl);
    }
    by true false false is f = record {
      keeps = λ error e. absurd (none-is error e);
      ebadf = (λ e. absurd (none-is Ebadf e), λ e. absurd (cc));
      efault = (λ e. absurd (none-is Efault e), λ h. let b = h.2 in absurd (cc));
    }

-- A read that passed its tests is never refused.
console_read-no-refusal : (v : View) (c : Content) → IsNoRefusal v (console_read v c)
unfolding console_read
console_read-no-refusal v c = by (nat_eq (length v.input) 0) o.answer
  where
    o : CallOutcome (Result (List Note) NoFrame)
    o = prepare_of c v.process.region (place_of v.process) (read_size v) Write

    by : (b : Bool) (a : Result (List Note) NoFrame) → IsNoRefusal v (cond b (answers v c [] (Gives 0)) (taken v (read_size v) o.after a))
    by true a error e = gives-no-refusal v c [] 0 error e
    by false (Ok notes) error e = gives-no-refusal v c notes (read_size v) error e
    by false (Err lack) error e = ends-no-refusal v o.after (lack.before ∷ []) 268 true error e

-- Nor is a write.
sent-no-refusal : (v : View) (c : Content) (notes : List Note) (piece : List ℕ) (done : ℕ) → IsNoRefusal v (sent v c notes piece done)
sent-no-refusal v c notes piece done = by (nat_eq done (count_of_call v))
  where
    by : (b : Bool) → IsNoRefusal v (record (cond b (answers v c notes (Gives done)) (waits v c notes (InWrite done))) { printed = piece })
    by true error e = gives-no-refusal v c notes done error e
    by false error e = cc

-- nor where its touches find no frame
console_write-no-refusal : (v : View) (c : Content) (done : ℕ) → IsNoRefusal v (console_write v c done)
unfolding console_write
console_write-no-refusal v c done = by o.answer
  where
    size : ℕ
    size = min (count_of_call v - done) most_transfer

    o : CallOutcome (Result (List Note) NoFrame)
    o = prepare_of c v.process.region (place_of v.process + done) size Read

    by : (a : Result (List Note) NoFrame) → IsNoRefusal v (printed v done size o.after a)
    by (Ok notes) error e = sent-no-refusal v o.after notes (read_bytes_of o.after v.process.region (place_of v.process + done) size) (done + size) error e
    by (Err lack) error e = ends-no-refusal v o.after (lack.before ∷ []) 268 true error e

-- the descriptor of a read is for reading
reading : View → Bool
reading v = is_for_reading (target v.table (integer v.process first_argument))

-- the descriptor of a write is for writing
writing : View → Bool
writing v = is_for_writing (target v.table (integer v.process first_argument))

-- the rows
read-refused : (v : View) (c : Content) → TransferIsRefused v c Write (reading v) (row_read v c)
unfolding row_read reading
read-refused v c = tested-refused v c Write (reading v) (console_read v c) (console_read-no-refusal v c)

write-refused : (v : View) (c : Content) → TransferIsRefused v c Read (writing v) (row_write v c)
unfolding row_write writing
write-refused v c = tested-refused v c Read (writing v) (console_write v c (done_of v.process.state)) (console_write-no-refusal v c (done_of v.process.state))

-- Each row that is refused changes nothing.
row-keeps : (call : Call) (v : View) (c : Content) → KeepsIfRefused v c (row call v c)
row-keeps Exit v c = λ error e. absurd (ends-no-refusal v c [] _ false error e)
row-keeps Fork v c = (fork-refused v c).keeps
row-keeps Wait v c = (wait-refused v c).keeps
row-keeps Getpid v c = λ error e. absurd (gives-no-refusal v c [] v.process.id error e)
row-keeps Getppid v c = λ error e. absurd (gives-no-refusal v c [] v.process.parent error e)
row-keeps ReadCall v c = (read-refused v c).keeps
row-keeps WriteCall v c = (write-refused v c).keeps
row-keeps Yield v c = λ error e. absurd (gives-no-refusal v c [] 0 error e)
row-keeps Other v c = refuses-keeps v c Enosys false

-- The laws.

-- a refused call changes nothing
pub refused-nothing : (v : View) (c : Content) (error : Errno) → IsRefused v c error → RefusalsChangeNothing v c error
refused-nothing v c error e =
    let k = row-keeps (call_of (integer v.process number_register)) v c error e in
    record { process = k.process; content = k.content; input = k.input; deed = k.deed; touches = k.touches; printed = k.printed }

-- a call of this number and its row are refused alike
refused-as : (v : View) (c : Content) (n : ℕ) (error : Errno) (A : Type 0) → Calls v n → EndsRefused v (row (call_of n) v c) error ↔ A → IsRefused v c error ↔ A
refused-as v c n error A calls h = subst (λ (e : Effect). EndsRefused v e error ↔ A) (sym (row-of-number v c n calls)) h

-- a fork without a free slot
pub fork-eagain : (v : View) (c : Content) → Calls v fork_call → IsRefused v c Eagain ↔ (v.free_slot ≡ None)
fork-eagain v c calls = refused-as v c fork_call Eagain _ calls (fork-refused v c).eagain

-- a fork without a free region or without frames
pub fork-enomem : (v : View) (c : Content) → Calls v fork_call → IsRefused v c Enomem
    ↔ ((v.free_slot ≢ None) × ((v.free_region ≡ None) ⊎ ((to : ℕ) × (v.free_region ≡ Some to) × ((fork_of c v.process.region to).answer ≡ Err no_frame))))
fork-enomem v c calls = refused-as v c fork_call Enomem _ calls (fork-refused v c).enomem

-- a wait without a child
pub wait-echild : (v : View) (c : Content) → Calls v wait_call → IsRefused v c Echild ↔ (v.children.some ≡ false)
wait-echild v c calls = refused-as v c wait_call Echild _ calls (wait-refused v c).echild

-- For reading is the console's input, and for writing its output.
for-reading : (t : Option Target) → (is_for_reading t ≡ true) ↔ (t ≡ Some ConsoleIn)
for-reading None = (λ e. absurd (cc), λ e. absurd (cc))
for-reading (Some ConsoleIn) = (λ e. refl, λ e. refl)
for-reading (Some ConsoleOut) = (λ e. absurd (cc), λ e. absurd (cc))
for-reading (Some (PipeRead k)) = (λ e. absurd (cc), λ e. absurd (cc))
for-reading (Some (PipeWrite k)) = (λ e. absurd (cc), λ e. absurd (cc))

for-writing : (t : Option Target) → (is_for_writing t ≡ true) ↔ (t ≡ Some ConsoleOut)
for-writing None = (λ e. absurd (cc), λ e. absurd (cc))
for-writing (Some ConsoleIn) = (λ e. absurd (cc), λ e. absurd (cc))
for-writing (Some ConsoleOut) = (λ e. refl, λ e. refl)
for-writing (Some (PipeRead k)) = (λ e. absurd (cc), λ e. absurd (cc))
for-writing (Some (PipeWrite k)) = (λ e. absurd (cc), λ e. absurd (cc))

-- of a test that says what is so, its failure says that it isn't
fails-where-not : (b : Bool) (A : Type 0) → (b ≡ true) ↔ A → (b ≡ false) ↔ (A → ⊥)
fails-where-not true A h = (λ e. absurd (cc), λ n. absurd (n (h.0 refl)))
fails-where-not false A h = (λ e a. let t = h.1 a in cc, λ n. refl)

-- one after the other
through : (A B C : Type 0) → A ↔ B → B ↔ C → A ↔ C
through A B C f g = (λ a. g.0 (f.0 a), λ c. f.1 (g.1 c))

-- with the first of three parts said otherwise
first-as : (A B C D : Type 0) → A ↔ B → (A × C × D) ↔ (B × C × D)
first-as A B C D f = (λ h. (f.0 h.0, h.1, h.2), λ h. (f.1 h.0, h.1, h.2))

-- a read of what is not the console's input
pub read-ebadf : (v : View) (c : Content) → Calls v read_call → IsRefused v c Ebadf ↔ (target v.table (integer v.process first_argument) ≢ Some ConsoleIn)
unfolding reading
read-ebadf v c calls =
    let t : Option Target = target v.table (integer v.process first_argument) in
    refused-as v c read_call Ebadf _ calls (through _ _ _ (read-refused v c).ebadf (fails-where-not (is_for_reading t) (t ≡ Some ConsoleIn) (for-reading t)))

-- a write to what is not the console's output
pub write-ebadf : (v : View) (c : Content) → Calls v write_call → IsRefused v c Ebadf ↔ (target v.table (integer v.process first_argument) ≢ Some ConsoleOut)
unfolding writing
write-ebadf v c calls =
    let t : Option Target = target v.table (integer v.process first_argument) in
    refused-as v c write_call Ebadf _ calls (through _ _ _ (write-refused v c).ebadf (fails-where-not (is_for_writing t) (t ≡ Some ConsoleOut) (for-writing t)))

-- a read whose bytes may not be written
pub read-efault : (v : View) (c : Content) → Calls v read_call → IsRefused v c Efault
    ↔ ((target v.table (integer v.process first_argument) ≡ Some ConsoleIn) × (count_of_call v ≢ 0) × (is_fault v.process c Write (count_of_call v) ≡ true))
unfolding reading
read-efault v c calls = refused-as v c read_call Efault _ calls (through _ _ _ (read-refused v c).efault (first-as _ _ _ _ (for-reading (target v.table (integer v.process first_argument)))))

-- a write whose bytes may not be read
pub write-efault : (v : View) (c : Content) → Calls v write_call → IsRefused v c Efault
    ↔ ((target v.table (integer v.process first_argument) ≡ Some ConsoleOut) × (count_of_call v ≢ 0) × (is_fault v.process c Read (count_of_call v) ≡ true))
unfolding writing
write-efault v c calls = refused-as v c write_call Efault _ calls (through _ _ _ (write-refused v c).efault (first-as _ _ _ _ (for-writing (target v.table (integer v.process first_argument)))))
