-- The decimal text of a number is that number.
use Rattle.std.proofs.Common.{◌≡◌, ◌∙◌, sym, ap, refl, ℕ, zero, suc, ◌+◌, ◌*◌, ◌/◌, ◌%◌, ◌^◌, ◌<◌, ◌≤◌, true, false, eqb, pos, neg_ℤ, List, [], ◌∷◌, length, Some, None, inl, inr, arith}
use Rattle.std.specs.Prelude.{decimal}
use Rattle.std.specs.Fmt.{digits, digits_onto, digit_glyph}
use Rattle.std.specs.Char.{digit_value}
use Rattle.std.specs.Str.Parse.{digits_value_after}
use Rattle.std.proofs.lemmas.Bool.{cases_Bool, and_parts, and_from, and_left, and_right, or_left, leb-true, le-leb, lt-leb, lt-ltb, ne_eqb, false≢true}
use Rattle.std.proofs.lemmas.Bool.Decides.{nat_tests}
use Rattle.std.proofs.lemmas.Str.{digit_value_digit}
use Rattle.std.proofs.lemmas.Fmt.{decimal_is_IsNumeral_wide}
use Rattle.asm_text.specs.declared.tokens.Token.TheVariants.{Number}
use Rattle.asm_text.specs.Bytes.{is_digit, begins_word, are, are_some}
use Rattle.asm_text.specs.Tokens.{digit_of, digits_behind, is_hexadecimal, is_number, magnitude_of, integer_of, number_token, token_of}
use Rattle.asm_text.proofs.Magnitudes.{minus-number}
use Rattle.asm_text.proofs.Lexemes.{number-is-token}

-- what stands for a decimal digit is one
glyph-digit : (n : ℕ) → is_digit (digit_glyph false (n % 10)) ≡ true
glyph-digit n =
    let low : n % 10 < 10 = omega arith in
    rw (lt-ltb (n % 10) 10 low) (and_from _ _ (le-leb 48 (48 + n % 10) (omega arith)) (le-leb (48 + n % 10) 57 (omega arith)))

-- digits before digits are digits
onto-digits : (k n : ℕ) (behind : List ℕ) → are is_digit behind ≡ true → are is_digit (digits_onto k 10 false n behind) ≡ true
onto-digits zero n behind are-digits = are-digits
onto-digits (suc k) n behind are-digits =
    let more : are is_digit (digit_glyph false (n % 10) ∷ behind) ≡ true = and_from _ _ (glyph-digit n) are-digits in
    elim (cases_Bool (eqb (n / 10) 0)) [
      | inl last ↦ rw last more
      | inr other ↦ rw other (onto-digits k (n / 10) (digit_glyph false (n % 10) ∷ behind) more)
    ]

-- and at least as many
onto-some : (k n : ℕ) (behind : List ℕ) → length behind ≤ length (digits_onto k 10 false n behind)
onto-some zero n behind = omega arith
onto-some (suc k) n behind = elim (cases_Bool (eqb (n / 10) 0)) [
  | inl last ↦ rw last (omega arith)
  | inr other ↦ rw other (omega (arith, onto-some k (n / 10) (digit_glyph false (n % 10) ∷ behind)))
]

-- a decimal text is digits
pub decimal-digits : (n : ℕ) → are is_digit (decimal n) ≡ true
unfolding digits
decimal-digits n = onto-digits 64 n [] refl

-- and there are some
pub decimal-some : (n : ℕ) → 0 < length (decimal n)
unfolding digits
decimal-some n = elim (cases_Bool (eqb (n / 10) 0)) [
  | inl last ↦ rw last (omega arith)
  | inr other ↦ rw other (omega (arith, onto-some 63 (n / 10) (digit_glyph false (n % 10) ∷ [])))
]

-- a digit stands for the number that the library has for it
digit-same : (byte : ℕ) → is_digit byte ≡ true → digit_of byte ≡ digit_value byte
digit-same byte is =
    let parts = and_parts _ _ is in
    let low = leb-true 48 byte parts.0 in
    let high = leb-true byte 57 parts.1 in
    rw parts.1 (omega (arith, digit_value_digit byte (low, high)))

-- and so do digits
digits-same : (number : ℕ) (bytes : List ℕ) → are is_digit bytes ≡ true → digits_behind 10 number bytes ≡ digits_value_after 10 number bytes
digits-same number [] are-digits = refl
digits-same number (byte ∷ bytes) are-digits =
    let parts = and_parts _ _ are-digits in
    ap (λ digit. digits_behind 10 (number * 10 + digit) bytes) (digit-same byte parts.0) ∙ digits-same (number * 10 + digit_value byte) bytes parts.1

-- a decimal text's digits are its number
pub decimal-behind : (n : ℕ) → n < 10 ^ 64 → digits_behind 10 0 (decimal n) ≡ n
decimal-behind n small = digits-same 0 (decimal n) (decimal-digits n) ∙ (decimal_is_IsNumeral_wide n small).1

-- a digit is no other byte
digit-other : (byte other : ℕ) → is_digit byte ≡ true → is_digit other ≡ false → eqb byte other ≡ false
digit-other byte other is not-digit = ne_eqb byte other (λ same. false≢true (sym not-digit ∙ sym (ap is_digit same) ∙ is))

-- and begins no word
digit-no-word : (byte : ℕ) → is_digit byte ≡ true → begins_word byte ≡ false
digit-no-word byte is = grind (arith, nat_tests)

-- digits are no hexadecimal number
digits-no-hexadecimal : (bytes : List ℕ) → are is_digit bytes ≡ true → is_hexadecimal bytes ≡ false
digits-no-hexadecimal [] are-digits = refl
digits-no-hexadecimal (byte ∷ []) are-digits = refl
digits-no-hexadecimal (byte ∷ next ∷ bytes) are-digits =
    let second = (and_parts _ _ (and_parts _ _ are-digits).1).0 in
    and_right _ _ (and_left _ _ (digit-other next 120 second refl))

-- so they are their decimal number
digits-magnitude : (bytes : List ℕ) → are is_digit bytes ≡ true → magnitude_of bytes ≡ digits_behind 10 0 bytes
digits-magnitude bytes are-digits = rw (digits-no-hexadecimal bytes are-digits) refl

-- which is their token
pub digits-token : (bytes : List ℕ) → 0 < length bytes → are is_digit bytes ≡ true → token_of bytes ≡ number_token (pos (digits_behind 10 0 bytes))
digits-token [] some are-digits = absurd (omega arith)
digits-token (byte ∷ bytes) some are-digits =
    let first = (and_parts _ _ are-digits).0 in
    let number : is_number (byte ∷ bytes) ≡ true = or_left _ _ (or_left _ _ are-digits) in
    let plain : integer_of (byte ∷ bytes) ≡ pos (magnitude_of (byte ∷ bytes)) = rw (digit-other byte 45 first refl) refl in
    number-is-token (byte ∷ bytes) some (digit-no-word byte first) number ∙ ap number_token (plain ∙ ap pos (digits-magnitude (byte ∷ bytes) are-digits))

-- and with a minus sign their opposite
pub minus-token : (bytes : List ℕ) → 0 < length bytes → are is_digit bytes ≡ true → token_of (45 ∷ bytes) ≡ number_token (neg_ℤ (pos (digits_behind 10 0 bytes)))
minus-token [] some are-digits = absurd (omega arith)
minus-token (byte ∷ bytes) some are-digits =
    let number : is_number (45 ∷ byte ∷ bytes) ≡ true = minus-number (byte ∷ bytes) ∙ or_left _ _ are-digits in
    number-is-token (45 ∷ byte ∷ bytes) (omega arith) refl number ∙ ap (λ n. number_token (neg_ℤ (pos n))) (digits-magnitude (byte ∷ bytes) are-digits)

-- a number below 2^64 is in the range
pub number-within : (n : ℕ) → n < 2 ^ 64 → number_token (pos n) ≡ Some (Number (pos n))
number-within n low = rw (le-leb n 18446744073709551615 (omega arith)) refl

-- a greater one isn't
pub number-beyond : (n : ℕ) → 2 ^ 64 ≤ n → number_token (pos n) ≡ None
number-beyond n high = rw (lt-leb n 18446744073709551615 (omega arith)) refl

-- the opposite of one up to 2^63 is
pub minus-within : (n : ℕ) → n ≤ 2 ^ 63 → number_token (neg_ℤ (pos n)) ≡ Some (Number (neg_ℤ (pos n)))
minus-within zero low = refl
minus-within (suc n) low = rw (le-leb n 9223372036854775807 (omega arith)) refl

-- the opposite of a greater one isn't
pub minus-beyond : (n : ℕ) → 2 ^ 63 < n → number_token (neg_ℤ (pos n)) ≡ None
minus-beyond zero high = absurd (omega arith)
minus-beyond (suc n) high = rw (lt-leb n 9223372036854775807 (omega arith)) refl

-- a zero before some digits changes nothing
pub zero-before : (bytes : List ℕ) → are_some is_digit bytes ≡ true → token_of (48 ∷ bytes) ≡ token_of bytes
zero-before [] are-digits = cc
zero-before (byte ∷ bytes) are-digits =
    digits-token (48 ∷ byte ∷ bytes) (omega arith) are-digits ∙ sym (digits-token (byte ∷ bytes) (omega arith) are-digits)
