-- The names of registers.
use Rattle.std.proofs.Common.{◌≡◌, ◌≢◌, ◌∙◌, sym, ap, refl, ℕ, ◌+◌, ◌-◌, ◌*◌, ◌/◌, ◌%◌, ◌≤◌, Bool, true, false, not, ◌&&◌, ◌||◌, eqb, leb, List, [], ◌∷◌, ◌++◌, Option, Some, None, inl, inr, arith}
use Rattle.std.specs.Fmt.{digits}
use Rattle.std.specs.Prelude.{decimal}
use Rattle.std.proofs.lemmas.Bool.{cases_Bool, agree_below_at, and_parts, or_cases, eqb-true, leb-true, eqb-false, not-true}
use Rattle.std.proofs.lemmas.Fmt.{decimal_digit, decimal_step}
use Rattle.std.proofs.lemmas.Option.{cond_some}
use Rattle.asm_text.specs.Bytes.{is_digit}
use Rattle.asm_text.specs.Statements.{register_number, register_of}
use Rattle.asm_text.specs.Laws.{register_names}

-- the number that was found is this one
abbrev is-found : Option ℕ → ℕ → Bool
is-found None n = false
is-found (Some found) n = eqb found n

-- a number that was found
found-number : (found : Option ℕ) (n : ℕ) → is-found found n ≡ true → found ≡ Some n
found-number None n is = cc
found-number (Some found) n is = ap Some (eqb-true found n is)

-- up to 31 the text of a number is read as that
number-read : (n : ℕ) → n ≤ 31 → register_number (decimal n) ≡ Some n
unfolding digits
number-read n small = found-number (register_number (decimal n)) n (agree_below_at (λ k. is-found (register_number (decimal k)) k) (λ k. true) 32 n refl (omega arith))

-- so each name of a register is read
pub register-read : (n : ℕ) (name : List ℕ) → n ≤ 31 → register_names n name → register_of name ≡ Some n
register-read n name small names = elim names [
  | inl is ↦ rw is (number-read n small)
  | inr is ↦ rw is (number-read n small)
]

-- a digit is from `0` to `9`
digit-bounds : (byte : ℕ) → is_digit byte ≡ true → (48 ≤ byte) × (byte ≤ 57)
digit-bounds byte is =
    let parts = and_parts (leb 48 byte) (leb byte 57) is in
    (leb-true 48 byte parts.0, leb-true byte 57 parts.1)

-- the text of a number of two digits
two-digits : (n : ℕ) → n ≤ 31 → 10 ≤ n → decimal n ≡ (48 + n / 10) ∷ (48 + n % 10) ∷ []
two-digits n small great =
    decimal_step n great (omega arith) ∙ ap (λ front. front ++ (48 + n % 10) ∷ []) (decimal_digit (n / 10) (omega arith))

-- a text that is read as a number up to 31 is the text of that
number-is : (text : List ℕ) (n : ℕ) → register_number text ≡ Some n → (n ≤ 31) × (text ≡ decimal n)
number-is [] n is = cc
number-is (byte ∷ []) n is =
    let found = cond_some (is_digit byte) (byte - 48) n is in
    let digit = digit-bounds byte found.0 in
    let same : 48 + n ≡ byte = omega (arith, found.1) in
    (omega (arith, found.1), sym (decimal_digit n (omega (arith, found.1)) ∙ ap (λ x. x ∷ []) same))
number-is (byte ∷ next ∷ []) n is =
    let value = (byte - 48) * 10 + (next - 48) in
    let found = cond_some (is_digit byte && (is_digit next && (not (eqb byte 48) && leb value 31))) value n is in
    let first = and_parts (is_digit byte) (is_digit next && (not (eqb byte 48) && leb value 31)) found.0 in
    let second = and_parts (is_digit next) (not (eqb byte 48) && leb value 31) first.1 in
    let third = and_parts (not (eqb byte 48)) (leb value 31) second.1 in
    let tens = digit-bounds byte first.0 in
    let ones = digit-bounds next second.0 in
    let some : byte ≢ 48 = eqb-false byte 48 (not-true (eqb byte 48) third.0) in
    let small : value ≤ 31 = leb-true value 31 third.1 in
    let some-tens : 49 ≤ byte = omega (arith, tens.0, some) in
    let is-number : (byte - 48) * 10 + (next - 48) ≡ n = found.1 in
    let same-tens : 48 + n / 10 ≡ byte = omega (arith, tens.0, ones.0, ones.1, is-number) in
    let same-ones : 48 + n % 10 ≡ next = omega (arith, tens.0, ones.0, ones.1, is-number) in
    let low : n ≤ 31 = omega (arith, small, is-number) in
    (low, sym (two-digits n low (omega (arith, some-tens, is-number)) ∙ rw (same-tens, same-ones) refl))
number-is (byte ∷ next ∷ other ∷ text) n is = cc

-- and a text that is read as a register is one of its names
pub register-is : (name : List ℕ) (n : ℕ) → register_of name ≡ Some n → (n ≤ 31) × register_names n name
register-is [] n is = cc
register-is (byte ∷ text) n is = elim (cases_Bool (eqb byte 120 || eqb byte 99)) [
  | inr other ↦ absurd (let none : None ≡ Some n = rw other at is in cc)
  | inl begins ↦
      let number = number-is text n (rw begins at is) in
      elim (or_cases (eqb byte 120) (eqb byte 99) begins) [
        | inl x ↦ (number.0, inl (rw (eqb-true byte 120 x, number.1) refl))
        | inr other ↦ (number.0, inr (rw (eqb-true byte 99 other, number.1) refl))
      ]
]
