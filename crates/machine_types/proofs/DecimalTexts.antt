-- Which texts are numbers.
use Rattle.std.proofs.Common.{◌≡◌, ◌∙◌, sym, ap, refl, ℕ, ◌^◌, ◌<◌, ◌≤◌, leb, ◌&&◌, List, length, get_or, take, length-take, Option, Some, None, ◌⊎◌, inl, inr, arith}
use Rattle.std.specs.Prelude.{decimal, bytes_eq}
use Rattle.std.specs.Str.Parse.{digits_value, IsNumeral, AllDigits}
use Rattle.std.proofs.lemmas.Bool.{cases_lt, cases_Bool, and_parts, leb-true, le-leb}
use Rattle.std.proofs.lemmas.Slice.Eq.{bytes_eq-Decides}
use Rattle.std.proofs.lemmas.Fmt.{decimal_is_IsNumeral, decimal_digit, first_decimal, length-decimal-le, decimal-digits_value}
use Rattle.std.proofs.lemmas.Str.Parse.{numerals_by_value, tells_digits, IsNumeralModel, digits_value_short}
use Rattle.machine_types.specs.DecimalNumbers.{number_of, kept_in, number_in}

-- decimal digits and their value, as the library knows them
numerals : IsNumeralModel (AllDigits 10) (digits_value 10)
numerals = numerals_by_value (AllDigits 10) tells_digits

-- the value of the digits in front of one of at most 18 is below 10^17
pub front-below : (text : List ℕ) (i : ℕ) → length text ≤ 18 → i < length text → AllDigits 10 (take i text) → digits_value 10 (take i text) < 10 ^ 17
front-below text i short within digits = digits_value_short numerals (take i text) 17 digits (simp length-take (omega arith))

-- a text that is the decimal text of its value is that number
number-of : (text : List ℕ) → decimal (digits_value 10 text) ≡ text → number_of text ≡ Some (digits_value 10 text)
number-of text same = rw ((bytes_eq-Decides text (decimal (digits_value 10 text))).1 (sym same))

-- a number within the range is kept
pub kept : (least most n : ℕ) → least ≤ n → n ≤ most → kept_in least most (Some n) ≡ Some n
kept least most n low high = rw (le-leb least n low, le-leb n most high)

-- what is kept is within the range
kept-within : (least most n : ℕ) (number : Option ℕ) → kept_in least most number ≡ Some n → (number ≡ Some n) × (least ≤ n) × (n ≤ most)
kept-within least most n None same = cc
kept-within least most n (Some m) same = elim (cases_Bool (leb least m && leb m most)) [
  | inl within ↦
      let parts = and_parts (leb least m) (leb m most) within in
      let is-some : Some m ≡ Some n = rw within at same in
      let is : m ≡ n = cc in
      (is-some, rw (← is) (leb-true least m parts.0), rw (← is) (leb-true m most parts.1))
  | inr without ↦ let none : None ≡ Some n = rw without at same in cc
]

-- a text that is a number is its decimal text
number-text : (text : List ℕ) (n : ℕ) → number_of text ≡ Some n → text ≡ decimal n
number-text text n same = elim (cases_Bool (bytes_eq text (decimal (digits_value 10 text)))) [
  | inl equal ↦
      let some : Some (digits_value 10 text) ≡ Some n = rw equal at same in
      let value : digits_value 10 text ≡ n = cc in
      (bytes_eq-Decides text (decimal (digits_value 10 text))).0 equal ∙ ap decimal value
  | inr other ↦ let none : None ≡ Some n = rw other at same in cc
]

-- a text that is a number of a range is its decimal text, and the number is in the range
pub number-in-parts : (least most n : ℕ) (text : List ℕ) → number_in least most text ≡ Some n → (text ≡ decimal n) × (least ≤ n) × (n ≤ most)
unfolding number_in
number-in-parts least most n text same =
    let parts = kept-within least most n (number_of text) same in
    (number-text text n parts.0, parts.1, parts.2)

-- and it is that number
pub number-in-number : (least most n : ℕ) (text : List ℕ) → number_in least most text ≡ Some n → number_of text ≡ Some n
unfolding number_in
number-in-number least most n text same = (kept-within least most n (number_of text) same).0

-- the decimal text of a number of a range is that number
pub number-in-decimal : (least most n : ℕ) → least ≤ n → n ≤ most → n < 2 ^ 64 → number_in least most (decimal n) ≡ Some n
unfolding number_in
number-in-decimal least most n low high small =
    let value = (decimal_is_IsNumeral n small).1 in
    let number : number_of (decimal n) ≡ Some n = number-of (decimal n) (ap decimal value) ∙ ap Some value in
    ap (kept_in least most) number ∙ kept least most n low high

-- what is no number is none
none-from : (number : Option ℕ) → ((n : ℕ) → number ≡ Some n → ⊥) → None ≡ number
none-from None never = refl
none-from (Some n) never = absurd (never n refl)

-- a longer text is no number of a range below a power of ten
pub long-is-none : (least most : ℕ) (text : List ℕ) → most < 10 ^ 18 → 18 < length text → None ≡ number_in least most text
long-is-none least most text small long = none-from (number_in least most text) (λ n same.
    let parts = number-in-parts least most n text same in
    let below : n < 10 ^ 18 = omega arith in
    let short = length-decimal-le 18 n (omega arith) below (omega arith) in
    omega (arith, ap length parts.0, short))

-- the decimal text of a number that begins with a zero is that zero
zero-first : (n : ℕ) → n < 2 ^ 64 → get_or (decimal n) 0 0 ≡ 48 → length (decimal n) ≡ 1
zero-first n small zero = elim (cases_lt 0 n) [
  | inl some ↦ absurd (omega (arith, first_decimal n some small))
  | inr none ↦ let is : n ≡ 0 = omega arith in rw (is, decimal_digit 0 (omega arith))
]

-- a text of several bytes with a leading zero is no number
pub zero-is-none : (least most : ℕ) (text : List ℕ) → most < 10 ^ 18 → 1 < length text → get_or text 0 0 ≡ 48 → None ≡ number_in least most text
zero-is-none least most text small long zero = none-from (number_in least most text) (λ n same.
    let parts = number-in-parts least most n text same in
    let one = zero-first n (omega arith) (sym (ap (λ x. get_or x 0 0) parts.0) ∙ zero) in
    omega (arith, ap length parts.0, one))

-- a text that isn't all digits is no number
pub other-is-none : (least most : ℕ) (text : List ℕ) → most < 10 ^ 18 → ¬ (IsNumeral 10 text) → None ≡ number_in least most text
other-is-none least most text small other = none-from (number_in least most text) (λ n same.
    let parts = number-in-parts least most n text same in
    other (rw parts.0 (decimal_is_IsNumeral n (omega arith)).0))

-- a text of at most 18 digits without a leading zero is the decimal text of its value
digits-text : (text : List ℕ) → IsNumeral 10 text → length text ≤ 18 → (get_or text 0 0 ≡ 48 → length text ≡ 1) → decimal (digits_value 10 text) ≡ text
digits-text text digits short first =
    let small = digits_value_short numerals text 18 digits.1 short in
    decimal-digits_value numerals text digits.1 digits.0 first (omega arith)

-- such a text is its value, where that is within the range
pub digits-are-number : (least most : ℕ) (text : List ℕ) → IsNumeral 10 text → length text ≤ 18 → (get_or text 0 0 ≡ 48 → length text ≡ 1)
    → number_in least most text ≡ kept_in least most (Some (digits_value 10 text))
unfolding number_in
digits-are-number least most text digits short first = ap (kept_in least most) (number-of text (digits-text text digits short first))

-- a number out of the range is none
pub out-is-none : (least most n : ℕ) → ((n < least) ⊎ (most < n)) → None ≡ kept_in least most (Some n)
out-is-none least most n out = none-from (kept_in least most (Some n)) (λ m same.
    let parts = kept-within least most m (Some n) same in
    let is : n ≡ m = cc in
    elim out [ inl low ↦ omega arith | inr high ↦ omega arith ])
