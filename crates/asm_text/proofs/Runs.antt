-- How many of the first bytes are of a class.
use Rattle.std.proofs.Common.{◌≡◌, refl, ℕ, zero, suc, ◌<◌, ◌≤◌, Bool, true, false, List, [], ◌∷◌, length, get_or, take, drop, inl, inr, arith, rules}
use Rattle.std.proofs.lemmas.Bool.{cases_Bool}
use Rattle.std.specs.Prelude.{All, IsTrue}
use Rattle.std.proofs.lemmas.List.Recursion.{and_at}
use Rattle.asm_text.specs.Bytes.{are}
use Rattle.asm_text.specs.Scanning.{run_length}

-- they are some of the bytes
pub run-within : (class : ℕ → Bool) (bytes : List ℕ) → run_length class bytes ≤ length bytes
run-within class [] = omega arith
run-within class (byte ∷ bytes) = elim (cases_Bool (class byte)) [
  | inl is ↦ rw is (omega (arith, run-within class bytes))
  | inr other ↦ rw other (omega arith)
]

-- so many bytes, or fewer, are all of the class
pub are-run : (class : ℕ → Bool) (bytes : List ℕ) (count : ℕ) → count ≤ run_length class bytes → are class (take count bytes) ≡ true
are-run class bytes zero within = refl
are-run class [] (suc count) within = absurd (omega arith)
are-run class (byte ∷ bytes) (suc count) within = elim (cases_Bool (class byte)) [
  | inl is ↦ let inner : suc count ≤ suc (run_length class bytes) = rw is at within in rw is (are-run class bytes count (omega arith))
  | inr other ↦ let inner : suc count ≤ 0 = rw other at within in absurd (omega arith)
]

-- and more bytes are not
pub are-no-run : (class : ℕ → Bool) (bytes : List ℕ) (count : ℕ) → run_length class bytes < count → count ≤ length bytes
    → are class (take count bytes) ≡ false
are-no-run class bytes zero past within = absurd (omega arith)
are-no-run class [] (suc count) past within = absurd (omega arith)
are-no-run class (byte ∷ bytes) (suc count) past within = elim (cases_Bool (class byte)) [
  | inl is ↦ let inner : suc (run_length class bytes) < suc count = rw is at past in rw is (are-no-run class bytes count (omega arith) (omega arith))
  | inr other ↦ rw other refl
]

-- The byte behind them isn't of the class.
pub run-other : (class : ℕ → Bool) (bytes : List ℕ) → 0 < length (drop (run_length class bytes) bytes) → class (get_or (drop (run_length class bytes) bytes) 0 0) ≡ false
run-other class [] some = absurd (omega arith)
run-other class (byte ∷ bytes) some = elim (cases_Bool (class byte)) [
  | inl is ↦ let inner = rw is at some in rw is (run-other class bytes inner)
  | inr other ↦ rw other other
]

-- each byte of some that are all of a class is of it
pub are-all : (class : ℕ → Bool) (bytes : List ℕ) → are class bytes ≡ true → All (λ byte. IsTrue (class byte)) bytes
are-all class bytes is = λ k d within. let here : class (get_or bytes k d) ≡ true = and_at (are class) class refl (λ _ _. refl) bytes k d within is in search rules
