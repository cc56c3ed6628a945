-- What a read answers and does.
use Rattle.std.proofs.Common.{◌≡◌, ◌≢◌, ◌∙◌, ◌⊎◌, inl, inr, ap, subst, refl, ℕ, ◌≤◌, ◌<◌, nat_eq, Result, Ok, Err, List, [], length, take, drop, cond, true, false, Bool, arith}
use Rattle.std.specs.Prelude.{pos}
use Rattle.std.proofs.lemmas.Bool.{eqb-true}
use Rattle.std.proofs.lemmas.List.{length-take-le, nil_from_length}
use Rattle.std.proofs.lemmas.List.Elements.{All-take}
use Rattle.machine_types.specs.declared.errno.Errno.TheVariants.{Ebadf, Efault}
use Rattle.machine_types.specs.declared.touches.Access.TheVariants.{Write}
use Rattle.machine_types.specs.declared.touches.NoFrame.{NoFrame}
use Rattle.machine_types.specs.declared.touches.Note.{Note}
use Rattle.machine_types.specs.MemoryLaws.{AreBytes}
use Rattle.contents.specs.Numbers.{most_transfer}
use Rattle.contents.specs.Content.{Content, CallOutcome}
use Rattle.contents.specs.Transfers.{covers_of, prepare_of, read_bytes_of, write_bytes_of}
use Rattle.contents.specs.Conditions.{Covers}
use Rattle.contents.specs.Whole.{IsWhole, CallsKeepWhole}
use Rattle.contents.specs.Laws.{OtherStoresStay, CoversEachByte}
use Rattle.contents.specs.Agreeing.{StoreDecidesLooks}
use Rattle.contents.specs.Writing.{WritesAreRead}
use Rattle.machine.specs.declared.report.WorkEnd.TheVariants.{Answered}
use Rattle.machine.specs.Numbers.{first_argument}
use Rattle.machine.specs.Processes.{integer}
use Rattle.machine.specs.Pipes.{target}
use Rattle.machine.specs.Machines.{View}
use Rattle.machine.specs.Effects.{Effect, Gives, answers, ends}
use Rattle.machine.specs.Calls.{count_of_call, place_of, is_fault, is_for_reading, read_size, taken, console_read, row_read}
use Rattle.machine.specs.Applying.{or_old}
use Rattle.machine.proofs.NumberedCalls.{IsOwnDeed, nonzero, refuses-no-number, tested-holds, fit-covers}

-- the laws of contents that this needs
pub record ReadLaws : Type 0 where
  pub keep : CallsKeepWhole
  pub stay : OtherStoresStay
  pub covered : CoversEachByte
  pub looks : StoreDecidesLooks
  pub written : WritesAreRead

-- So many bytes of the input were taken.
pub record Takes (v : View) (c : Content) (e : Effect) (n : ℕ) : Type 0 where
  pub most : n ≤ count_of_call v
  pub fits : n ≤ most_transfer
  pub there : n ≤ length v.input
  pub left : or_old v.input e.input ≡ drop n v.input
  pub none : n ≡ 0 → (count_of_call v ≡ 0) ⊎ (v.input ≡ [])
  pub stored : IsWhole c → AreBytes v.input → read_bytes_of e.content v.process.region (place_of v.process) n ≡ take n v.input

-- where it answers a number, so many were taken
abbrev pub TakesIfAnswered : View → Content → Effect → Type 0
TakesIfAnswered v c e = (number n : ℕ) → e.end ≡ Answered number (pos n) → Takes v c e n

-- No byte is taken where none is asked for or left.
none-taken : (v : View) (c : Content) → (count_of_call v ≡ 0) ⊎ (v.input ≡ []) → TakesIfAnswered v c (answers v c [] (Gives 0))
unfolding read_bytes_of
none-taken v c why number n e =
    let zero-is : 0 ≡ n = cc in
    subst (λ (k : ℕ). Takes v c (answers v c [] (Gives 0)) k) zero-is
    (record { most = omega arith; fits = omega arith; there = omega arith; left = refl; none = λ same. why; stored = λ whole bytes. refl })

-- The bytes that were stored are there.
taken-stored : ReadLaws → (v : View) (c : Content) → is_fault v.process c Write (count_of_call v) ≡ false → IsWhole c → AreBytes v.input
    → let after : Content = (prepare_of c v.process.region (place_of v.process) (read_size v) Write).after in
    read_bytes_of (write_bytes_of after v.process.region (place_of v.process) (take (read_size v) v.input)) v.process.region (place_of v.process) (read_size v) ≡ take (read_size v) v.input
taken-stored laws v c fit whole bytes =
    let region : ℕ = v.process.region in
    let at : ℕ = place_of v.process in
    let count : ℕ = count_of_call v in
    let size : ℕ = read_size v in
    let piece : List ℕ = take size v.input in
    let after : Content = (prepare_of c region at size Write).after in
    let same : after.stores region ≡ c.stores region = ap (λ (f : ℕ → _). f region) (laws.stay.prepare c region at size Write) in
    let covers : covers_of after region at count Write ≡ true = laws.looks.covers c after region at count Write same ∙ fit-covers v.process c Write count fit in
    let each : Covers region at count Write after = (laws.covered after region at count Write).0 covers in
    let long : length piece ≡ size = length-take-le size v.input (omega arith) in
    subst (λ (k : ℕ). read_bytes_of (write_bytes_of after region at piece) region at k ≡ piece) long
    (laws.written.bytes after region at piece (laws.keep.prepare c region at size Write whole) (All-take (λ (byte : ℕ). byte < 256) size v.input bytes) (λ k less. each k (omega arith)))

-- a read of the console that passed its tests
console_read-takes : ReadLaws → (v : View) (c : Content) → is_fault v.process c Write (count_of_call v) ≡ false → count_of_call v ≢ 0 → TakesIfAnswered v c (console_read v c)
unfolding console_read ends
console_read-takes laws v c fit some = by (nat_eq (length v.input) 0) o.answer refl
  where
    o : CallOutcome (Result (List Note) NoFrame)
    o = prepare_of c v.process.region (place_of v.process) (read_size v) Write

    sized : (notes : List Note) → length v.input ≢ 0 → Takes v c (taken v (read_size v) o.after (Ok notes)) (read_size v)
    sized notes left-over = record {
      most = omega arith;
      fits = omega arith;
      there = omega arith;
      left = refl;
      none = λ same. absurd (omega arith);
      stored = taken-stored laws v c fit;
    }

    by : (b : Bool) (a : Result (List Note) NoFrame) → nat_eq (length v.input) 0 ≡ b → TakesIfAnswered v c (cond b (answers v c [] (Gives 0)) (taken v (read_size v) o.after a))
    by true a is = none-taken v c (inr (nil_from_length v.input (eqb-true (length v.input) 0 is)))
    by false (Ok notes) is =
        λ number n e. let same : read_size v ≡ n = cc in
        subst (λ (k : ℕ). Takes v c (taken v (read_size v) o.after (Ok notes)) k) same (sized notes (nonzero (length v.input) is))
    by false (Err lack) is = λ number n e. absurd (cc)

-- the row
pub read-takes : ReadLaws → (v : View) (c : Content) → TakesIfAnswered v c (row_read v c)
unfolding row_read
read-takes laws v c = tested-holds (λ (e : Effect). TakesIfAnswered v c e) v c Write (is_for_reading (target v.table (integer v.process first_argument))) (console_read v c)
    (λ number n e. absurd (refuses-no-number v c Ebadf number n e))
    (λ zero-is. none-taken v c (inl zero-is))
    (λ number n e. absurd (refuses-no-number v c Efault number n e))
    (console_read-takes laws v c)

-- A read prints nothing, and does nothing to other processes, or ends.
pub read-own : (v : View) (c : Content) → IsOwnDeed (row_read v c).deed × ((row_read v c).printed ≡ [])
unfolding row_read console_read ends
read-own v c = tested-holds (λ (e : Effect). IsOwnDeed e.deed × (e.printed ≡ [])) v c Write (is_for_reading (target v.table (integer v.process first_argument))) (console_read v c)
    (tt, refl) (λ zero-is. (tt, refl)) (tt, refl) (λ fit some. by (nat_eq (length v.input) 0) o.answer)
  where
    o : CallOutcome (Result (List Note) NoFrame)
    o = prepare_of c v.process.region (place_of v.process) (read_size v) Write

    by : (b : Bool) (a : Result (List Note) NoFrame)
        → IsOwnDeed (cond b (answers v c [] (Gives 0)) (taken v (read_size v) o.after a)).deed × ((cond b (answers v c [] (Gives 0)) (taken v (read_size v) o.after a)).printed ≡ [])
    by true a = (tt, refl)
    by false (Ok notes) = (tt, refl)
    by false (Err lack) = (tt, refl)
