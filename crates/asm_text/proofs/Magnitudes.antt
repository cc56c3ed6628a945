-- The longest number at the front of some bytes.
use Rattle.std.proofs.Common.{◌≡◌, ◌∙◌, sym, ap, refl, ℕ, zero, suc, ◌+◌, ◌<◌, ◌≤◌, Bool, true, false, not, eqb, ◌&&◌, ◌||◌, List, [], ◌∷◌, length, get_or, take, drop, inl, inr, arith}
use Rattle.std.proofs.lemmas.Bool.{cases_Bool, eq-eqb, eqb-true, eqb-false, not-true, not-false, and_parts, and_from, or_from, or_left, or_cases, false≢true}
use Rattle.asm_text.specs.Bytes.{is_digit, is_hex_digit, are, are_some}
use Rattle.asm_text.specs.Tokens.{is_hexadecimal, is_magnitude, is_number}
use Rattle.asm_text.specs.Scanning.{run_length, further, magnitude_length, number_length}
use Rattle.asm_text.proofs.Runs.{run-within, are-run, are-no-run}
use Rattle.asm_text.proofs.Longest.{IsLongest}

-- some bytes are all of a class where they are, and there are some
some-are : (class : ℕ → Bool) (bytes : List ℕ) (k : ℕ) → 0 < k → k ≤ length bytes → are_some class (take k bytes) ≡ are class (take k bytes)
some-are class bytes zero some within = absurd (omega arith)
some-are class [] (suc k) some within = absurd (omega arith)
some-are class (byte ∷ bytes) (suc k) some within = refl

-- the longest row of bytes of a class is the run
pub some-longest : (class : ℕ → Bool) (bytes : List ℕ) → IsLongest (are_some class) bytes (run_length class bytes)
some-longest class bytes =
    let within = run-within class bytes in
    record {
      within = within;
      is = λ some. some-are class bytes (run_length class bytes) some within ∙ are-run class bytes (run_length class bytes) (omega arith);
      more = λ k past below. some-are class bytes k (omega arith) below ∙ are-no-run class bytes k past below;
    }

-- so many bytes and two more begin with those two
take-two : (byte next : ℕ) (bytes : List ℕ) (k : ℕ) → take (2 + k) (byte ∷ next ∷ bytes) ≡ byte ∷ next ∷ take k bytes
take-two byte next bytes k = let is : 2 + k ≡ suc (suc k) = omega arith in rw is refl

-- where hexadecimal digits stand behind `0x` the longest number without a sign ends with them
hexadecimal-longest : (bytes : List ℕ) → 0 < run_length is_hex_digit bytes → IsLongest is_magnitude (48 ∷ 120 ∷ bytes) (2 + run_length is_hex_digit bytes)
hexadecimal-longest bytes some =
    let digits = some-longest is_hex_digit bytes in
    record {
      within = omega (arith, digits.within);
      is = λ _. rw (take-two 48 120 bytes (run_length is_hex_digit bytes)) (digits.is some);
      more = λ k past within. more k past within;
    }
  where
    more : (k : ℕ) → 2 + run_length is_hex_digit bytes < k → k ≤ length (48 ∷ 120 ∷ bytes) → is_magnitude (take k (48 ∷ 120 ∷ bytes)) ≡ false
    more zero past within = absurd (omega arith)
    more (suc zero) past within = absurd (omega arith)
    more (suc (suc k)) past within = (some-longest is_hex_digit bytes).more k (omega arith) (omega arith)

-- where none stand there, bytes are no hexadecimal number
no-hexadecimal : (byte next : ℕ) (bytes : List ℕ) (k : ℕ) → ((eqb byte 48) && ((eqb next 120) && not (eqb (run_length is_hex_digit bytes) 0))) ≡ false
    → k ≤ length (byte ∷ next ∷ bytes) → is_hexadecimal (take k (byte ∷ next ∷ bytes)) ≡ false
no-hexadecimal byte next bytes zero none within = refl
no-hexadecimal byte next bytes (suc zero) none within = refl
no-hexadecimal byte next bytes (suc (suc zero)) none within = elim (cases_Bool (eqb byte 48)) [
  | inl first ↦ elim (cases_Bool (eqb next 120)) [ inl second ↦ rw (first, second) refl | inr second ↦ rw (first, second) refl ]
  | inr first ↦ rw first refl
]
no-hexadecimal byte next bytes (suc (suc (suc k))) none within = elim (cases_Bool (eqb byte 48)) [
  | inl first ↦ elim (cases_Bool (eqb next 120)) [
    | inl second ↦
        let empty : not (eqb (run_length is_hex_digit bytes) 0) ≡ false = rw (first, second) at none in
        let zero-run = eqb-true (run_length is_hex_digit bytes) 0 (not-false _ empty) in
        rw (first, second) ((some-longest is_hex_digit bytes).more (suc k) (omega arith) (omega arith))
    | inr second ↦ rw (first, second) refl
  ]
  | inr first ↦ rw first refl
]

-- the longest decimal number is the longest number without a sign, where none is hexadecimal
decimal-longest : (bytes : List ℕ) → ((k : ℕ) → k ≤ length bytes → is_hexadecimal (take k bytes) ≡ false) → IsLongest is_magnitude bytes (run_length is_digit bytes)
decimal-longest bytes none =
    let digits = some-longest is_digit bytes in
    record {
      within = digits.within;
      is = λ some. or_left _ _ (digits.is some);
      more = λ k past within. or_from _ _ (digits.more k past within) (none k within);
    }

-- one byte is no hexadecimal number
one-no-hexadecimal : (byte k : ℕ) → is_hexadecimal (take k (byte ∷ [])) ≡ false
one-no-hexadecimal byte zero = refl
one-no-hexadecimal byte (suc zero) = refl
one-no-hexadecimal byte (suc (suc k)) = refl

-- the longest number without a sign
pub magnitude-longest : (bytes : List ℕ) → IsLongest is_magnitude bytes (magnitude_length bytes)
magnitude-longest [] = record { within = omega arith; is = λ some. absurd (omega arith); more = λ k past within. absurd (omega arith) }
magnitude-longest (byte ∷ []) = decimal-longest (byte ∷ []) (λ k _. one-no-hexadecimal byte k)
magnitude-longest (byte ∷ next ∷ bytes) = elim (cases_Bool ((eqb byte 48) && ((eqb next 120) && not (eqb (run_length is_hex_digit bytes) 0)))) [
  | inl is ↦
      let parts = and_parts _ _ is in
      let inner = and_parts _ _ parts.1 in
      let some : 0 < run_length is_hex_digit bytes = not_zero _ (eqb-false _ 0 (not-true _ inner.1)) in
      rw is (rw (eqb-true byte 48 parts.0, eqb-true next 120 inner.0) (hexadecimal-longest bytes some))
  | inr none ↦ rw none (decimal-longest (byte ∷ next ∷ bytes) (λ k within. no-hexadecimal byte next bytes k none within))
]
  where
    not_zero : (n : ℕ) → (n ≡ 0 → ⊥) → 0 < n
    not_zero n other = omega arith

-- behind a minus sign stands no number without one
minus-no-magnitude : (bytes : List ℕ) → is_magnitude (45 ∷ bytes) ≡ false
minus-no-magnitude [] = refl
minus-no-magnitude (byte ∷ bytes) = refl

-- behind a minus sign a number is one without a sign
pub minus-number : (bytes : List ℕ) → is_number (45 ∷ bytes) ≡ is_magnitude bytes
minus-number bytes = rw (minus-no-magnitude bytes) refl

-- and behind any other byte it is one with it
pub plain-number : (byte : ℕ) (bytes : List ℕ) → eqb byte 45 ≡ false → is_number (byte ∷ bytes) ≡ is_magnitude (byte ∷ bytes)
plain-number byte bytes other = rw other (or-false (is_magnitude (byte ∷ bytes)))
  where
    or-false : (b : Bool) → (b || false) ≡ b
    or-false true = refl
    or-false false = refl

-- the longest number behind a minus sign
minus-longest : (bytes : List ℕ) (count : ℕ) → IsLongest is_magnitude bytes count → IsLongest is_number (45 ∷ bytes) (further 1 count)
minus-longest bytes zero found = record {
  within = omega arith;
  is = λ some. absurd (omega arith);
  more = λ k past within. more k past within;
}
  where
    more : (k : ℕ) → 0 < k → k ≤ length (45 ∷ bytes) → is_number (take k (45 ∷ bytes)) ≡ false
    more zero past within = absurd (omega arith)
    more (suc zero) past within = refl
    more (suc (suc k)) past within = minus-number (take (suc k) bytes) ∙ found.more (suc k) (omega arith) (omega arith)
minus-longest bytes (suc count) found = record {
  within = omega (arith, found.within);
  is = λ some. let is : 1 + suc count ≡ suc (suc count) = omega arith in rw is (minus-number (take (suc count) bytes) ∙ found.is (omega arith));
  more = λ k past within. more k past within;
}
  where
    more : (k : ℕ) → 1 + suc count < k → k ≤ length (45 ∷ bytes) → is_number (take k (45 ∷ bytes)) ≡ false
    more zero past within = absurd (omega arith)
    more (suc k) past within = minus-number (take k bytes) ∙ found.more k (omega arith) (omega arith)

-- and before any other byte
plain-longest : (byte : ℕ) (bytes : List ℕ) (count : ℕ) → eqb byte 45 ≡ false → IsLongest is_magnitude (byte ∷ bytes) count → IsLongest is_number (byte ∷ bytes) count
plain-longest byte bytes count other found = record { within = found.within; is = is; more = more }
  where
    same : (k : ℕ) → 0 < k → is_number (take k (byte ∷ bytes)) ≡ is_magnitude (take k (byte ∷ bytes))
    same zero some = absurd (omega arith)
    same (suc k) some = plain-number byte (take k bytes) other

    is : 0 < count → is_number (take count (byte ∷ bytes)) ≡ true
    is some = same count some ∙ found.is some

    more : (k : ℕ) → count < k → k ≤ length (byte ∷ bytes) → is_number (take k (byte ∷ bytes)) ≡ false
    more k past within = same k (omega arith) ∙ found.more k past within

-- the longest number
pub number-longest : (bytes : List ℕ) → IsLongest is_number bytes (number_length bytes)
number-longest [] = record { within = omega arith; is = λ some. absurd (omega arith); more = λ k past within. absurd (omega arith) }
number-longest (byte ∷ bytes) = elim (cases_Bool (eqb byte 45)) [
  | inl minus ↦ rw minus (rw (eqb-true byte 45 minus) (minus-longest bytes (magnitude_length bytes) (magnitude-longest bytes)))
  | inr other ↦ rw other (plain-longest byte bytes (magnitude_length (byte ∷ bytes)) other (magnitude-longest (byte ∷ bytes)))
]

-- Where no hexadecimal digits stand behind `0x` its length is that of its decimal digits.
pub magnitude-decimal : (bytes : List ℕ) → (2 ≤ length bytes → get_or bytes 0 0 ≡ 48 → get_or bytes 1 0 ≡ 120 → run_length is_hex_digit (drop 2 bytes) ≡ 0)
    → magnitude_length bytes ≡ run_length is_digit bytes
magnitude-decimal [] none = refl
magnitude-decimal (byte ∷ []) none = refl
magnitude-decimal (byte ∷ next ∷ bytes) none = elim (cases_Bool (eqb byte 48)) [
  | inl first ↦ elim (cases_Bool (eqb next 120)) [
    | inl second ↦
        let empty : eqb (run_length is_hex_digit bytes) 0 ≡ true = eq-eqb _ 0 (none (omega arith) (eqb-true byte 48 first) (eqb-true next 120 second)) in
        rw (first, second, empty) refl
    | inr second ↦ rw (first, second) refl
  ]
  | inr first ↦ rw first refl
]

-- some bytes of a class are all of it
some-of : (class : ℕ → Bool) (bytes : List ℕ) → are_some class bytes ≡ true → are class bytes ≡ true
some-of class [] is = absurd (false≢true is)
some-of class (byte ∷ bytes) is = is

-- Behind `0x` a number without a sign is hexadecimal digits.
pub magnitude-behind : (bytes : List ℕ) → 2 ≤ length bytes → get_or bytes 1 0 ≡ 120 → is_magnitude bytes ≡ true → are is_hex_digit (drop 2 bytes) ≡ true
magnitude-behind [] two second is = absurd (omega arith)
magnitude-behind (byte ∷ []) two second is = absurd (omega arith)
magnitude-behind (byte ∷ next ∷ bytes) two second is = elim (or_cases (are_some is_digit (byte ∷ next ∷ bytes)) (is_hexadecimal (byte ∷ next ∷ bytes)) is) [
  | inl digits ↦
      let other : is_digit next ≡ true = (and_parts (is_digit next) (are is_digit bytes) (and_parts (is_digit byte) (are is_digit (next ∷ bytes)) digits).1).0 in
      absurd (false≢true (sym (ap is_digit second) ∙ other))
  | inr hexadecimal ↦
      let inner = (and_parts (eqb byte 48) ((eqb next 120) && are_some is_hex_digit bytes) hexadecimal).1 in
      some-of is_hex_digit bytes (and_parts (eqb next 120) (are_some is_hex_digit bytes) inner).1
]

-- decimal digits are hexadecimal ones too
digits-hexadecimal : (bytes : List ℕ) → are is_digit bytes ≡ true → are is_hex_digit bytes ≡ true
digits-hexadecimal [] is = refl
digits-hexadecimal (byte ∷ bytes) is =
    let parts = and_parts _ _ is in
    and_from _ _ (or_left _ _ parts.0) (digits-hexadecimal bytes parts.1)

-- Any other number without a sign is decimal digits.
pub magnitude-digits : (bytes : List ℕ) → (2 ≤ length bytes → get_or bytes 0 0 ≡ 48 → get_or bytes 1 0 ≡ 120 → ⊥) → is_magnitude bytes ≡ true → are is_hex_digit bytes ≡ true
magnitude-digits [] other is = refl
magnitude-digits (byte ∷ []) other is = elim (or_cases _ _ is) [
  | inl digits ↦ digits-hexadecimal (byte ∷ []) digits
  | inr hexadecimal ↦ absurd (false≢true hexadecimal)
]
magnitude-digits (byte ∷ next ∷ bytes) other is = elim (or_cases _ _ is) [
  | inl digits ↦ digits-hexadecimal (byte ∷ next ∷ bytes) digits
  | inr hexadecimal ↦
      let parts = and_parts _ _ hexadecimal in
      absurd (other (omega arith) (eqb-true byte 48 parts.0) (eqb-true next 120 (and_parts _ _ parts.1).0))
]
