-- What a write prints and answers.
use Rattle.std.proofs.Common.{◌≡◌, ◌≢◌, ◌⊎◌, inl, inr, sym, ap, subst, refl, ℕ, ◌+◌, ◌-◌, ◌≤◌, ◌<◌, nat_eq, Result, Ok, Err, List, [], length, min, cond, true, false, Bool, arith}
use Rattle.std.specs.Prelude.{pos}
use Rattle.std.proofs.lemmas.Bool.Decides.{eqb_tells}
use Rattle.machine_types.specs.declared.touches.Access.TheVariants.{Read}
use Rattle.machine_types.specs.declared.touches.NoFrame.{NoFrame}
use Rattle.machine_types.specs.declared.touches.Note.{Note}
use Rattle.contents.specs.Numbers.{most_transfer}
use Rattle.contents.specs.Content.{Content, CallOutcome}
use Rattle.contents.specs.Transfers.{prepare_of, read_bytes_of}
use Rattle.contents.specs.Laws.{OtherStoresStay}
use Rattle.contents.specs.Agreeing.{StoreDecidesLooks}
use Rattle.contents.specs.Reading.{ReadsAreSeen}
use Rattle.machine.specs.declared.process.State.TheVariants.{InWrite}
use Rattle.machine.specs.declared.report.WorkEnd.TheVariants.{Answered, Waiting}
use Rattle.machine.specs.Numbers.{number_register, first_argument}
use Rattle.machine.specs.Processes.{integer}
use Rattle.machine.specs.Pipes.{target}
use Rattle.machine.specs.Machines.{View}
use Rattle.machine.specs.Effects.{Effect, Gives, answers, waits, ends}
use Rattle.machine.specs.Calls.{count_of_call, place_of, done_of, is_for_writing, sent, printed, console_write, row_write}
use Rattle.machine.proofs.NumberedCalls.{IsOwnDeed, tested-holds}

-- the laws of contents that this needs
pub record WriteLaws : Type 0 where
  pub stay : OtherStoresStay
  pub looks : StoreDecidesLooks
  pub seen : ReadsAreSeen

-- So many bytes were printed, after those that were sent already.
pub record Prints (v : View) (c : Content) (done : ℕ) (e : Effect) (n : ℕ) : Type 0 where
  pub some : 0 < n
  pub fits : n ≤ most_transfer
  pub most : done + n ≤ count_of_call v
  pub piece : e.printed ≡ read_bytes_of c v.process.region (place_of v.process + done) n
  pub last : done + n ≡ count_of_call v → e.end ≡ Answered (integer v.process number_register) (pos (count_of_call v))
  pub between : done + n ≢ count_of_call v → e.end ≡ Waiting (integer v.process number_register)
  pub state : done + n ≢ count_of_call v → e.process.state ≡ InWrite (done + n)

-- where it printed, it is as many as were printed
abbrev pub PrintsIfAny : View → Content → ℕ → Effect → Type 0
PrintsIfAny v c done e = e.printed ≢ [] → Prints v c done e (length e.printed)

-- A piece of this size is the bytes that come next.
sent-prints : (v : View) (c d : Content) (done size : ℕ) (notes : List Note) (piece : List ℕ) → 0 < size → size ≤ most_transfer → done + size ≤ count_of_call v
    → piece ≡ read_bytes_of c v.process.region (place_of v.process + done) size → Prints v c done (sent v d notes piece (done + size)) size
sent-prints v c d done size notes piece some fits most same = by (nat_eq (done + size) (count_of_call v)) (eqb_tells (done + size) (count_of_call v))
  where
    by : (b : Bool) → ((b ≡ true) × (done + size ≡ count_of_call v)) ⊎ ((b ≡ false) × (done + size ≢ count_of_call v))
        → Prints v c done (record (cond b (answers v d notes (Gives (done + size))) (waits v d notes (InWrite (done + size)))) { printed = piece }) size
    by true (inl t) = record {
      some = some;
      fits = fits;
      most = most;
      piece = same;
      last = λ e. ap (λ (k : ℕ). Answered (integer v.process number_register) (pos k)) e;
      between = λ n. absurd (n t.1);
      state = λ n. absurd (n t.1);
    }
    by true (inr f) = absurd (cc)
    by false (inl t) = absurd (cc)
    by false (inr f) = record {
      some = some;
      fits = fits;
      most = most;
      piece = same;
      last = λ e. absurd (f.1 e);
      between = λ n. refl;
      state = λ n. refl;
    }

-- a write to the console that passed its tests
console_write-prints : WriteLaws → (v : View) (c : Content) (done : ℕ) → done < count_of_call v → PrintsIfAny v c done (console_write v c done)
unfolding console_write ends
console_write-prints laws v c done less = by o.answer
  where
    at : ℕ
    at = place_of v.process + done

    size : ℕ
    size = min (count_of_call v - done) most_transfer

    o : CallOutcome (Result (List Note) NoFrame)
    o = prepare_of c v.process.region at size Read

    piece : List ℕ
    piece = read_bytes_of o.after v.process.region at size

    same : piece ≡ read_bytes_of c v.process.region at size
    same = laws.looks.read_bytes c o.after v.process.region at size (ap (λ (f : ℕ → _). f v.process.region) (laws.stay.prepare c v.process.region at size Read))

    by : (a : Result (List Note) NoFrame) → PrintsIfAny v c done (printed v done size o.after a)
    by (Ok notes) some =
        subst (λ (k : ℕ). Prints v c done (sent v o.after notes piece (done + size)) k) (sym (laws.seen.count o.after v.process.region at size))
        (sent-prints v c o.after done size notes piece (omega arith) (omega arith) (omega arith) same)
    by (Err lack) some = absurd (some refl)

-- the row
pub write-prints : WriteLaws → (v : View) (c : Content) → done_of v.process.state < count_of_call v → PrintsIfAny v c (done_of v.process.state) (row_write v c)
unfolding row_write
write-prints laws v c less = tested-holds (λ (e : Effect). PrintsIfAny v c (done_of v.process.state) e) v c Read (is_for_writing (target v.table (integer v.process first_argument))) (console_write v c (done_of v.process.state))
    (λ some. absurd (some refl))
    (λ zero-is some. absurd (some refl))
    (λ some. absurd (some refl))
    (λ fit some. console_write-prints laws v c (done_of v.process.state) less)

-- A write does nothing to other processes, or ends.
pub write-own : (v : View) (c : Content) → IsOwnDeed (row_write v c).deed
unfolding row_write console_write ends
write-own v c = tested-holds (λ (e : Effect). IsOwnDeed e.deed) v c Read (is_for_writing (target v.table (integer v.process first_argument))) (console_write v c (done_of v.process.state))
    tt (λ zero-is. tt) tt (λ fit some. by o.answer)
  where
    done : ℕ
    done = done_of v.process.state

    size : ℕ
    size = min (count_of_call v - done) most_transfer

    o : CallOutcome (Result (List Note) NoFrame)
    o = prepare_of c v.process.region (place_of v.process + done) size Read

    by-sent : (notes : List Note) (b : Bool) → IsOwnDeed (cond b (answers v o.after notes (Gives (done + size))) (waits v o.after notes (InWrite (done + size)))).deed
    by-sent notes true = tt
    by-sent notes false = tt

    by : (a : Result (List Note) NoFrame) → IsOwnDeed (printed v done size o.after a).deed
    by (Ok notes) = by-sent notes (nat_eq (done + size) (count_of_call v))
    by (Err lack) = tt
