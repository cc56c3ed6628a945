-- Decimal numbers are the longest tokens before bytes that no word has.
use Rattle.std.proofs.Common.{◌≡◌, ◌∙◌, sym, ap, refl, ℕ, zero, suc, ◌<◌, ◌^◌, true, false, ℤ, pos, negsuc, neg_ℤ, ◌-ℤ◌, ◌≤ℤ◌, ◌<ℤ◌, inl, inr, List, [], ◌∷◌, ◌++◌, length, get_or, Some, None, decimal, arith}
use Rattle.std.specs.Fmt.{signed_decimal}
use Rattle.std.proofs.lemmas.Bool.{and_parts, or_right, cases_Bool}
use Rattle.std.proofs.lemmas.Bool.Decides.{nat_tests}
use Rattle.std.proofs.lemmas.Int.{ints}
use Rattle.asm_text.specs.declared.tokens.Token.TheVariants.{Number}
use Rattle.asm_text.specs.Bytes.{is_blank, is_digit, begins_word, is_in_word, are}
use Rattle.asm_text.specs.Tokens.{mark_of, token_of, number_token}
use Rattle.asm_text.specs.Scanning.{run_length, further, magnitude_length, number_length}
use Rattle.asm_text.proofs.Lexemes.{number-is-length}
use Rattle.asm_text.proofs.Magnitudes.{magnitude-decimal}
use Rattle.asm_text.proofs.Decimals.{decimal-digits, decimal-some, decimal-behind, digits-token, minus-token, number-within, minus-within}
use Rattle.trace_tools.proofs.Parts.{IsPart}
use Rattle.trace_tools.proofs.WordParts.{other-byte, other-eqb, class-unbroken, run-through}

-- digits stand in words
digit-in-word : (byte : ℕ) → is_digit byte ≡ true → is_in_word byte ≡ true
digit-in-word byte is = or_right _ _ is

-- where no byte of a word stands first, no digit does
no-digits : (rest : List ℕ) → run_length is_in_word rest ≡ 0 → run_length is_digit rest ≡ 0
no-digits [] none = refl
no-digits (byte ∷ rest) none = elim (cases_Bool (is_digit byte)) [
  | inl is ↦ absurd (let more : suc (run_length is_in_word rest) ≡ 0 = rw (digit-in-word byte is) at none in omega arith)
  | inr other ↦ rw other refl
]

-- and no `x`
no-x : (rest : List ℕ) → run_length is_in_word rest ≡ 0 → get_or rest 0 0 ≡ 120 → ⊥
no-x [] none is = omega arith
no-x (byte ∷ rest) none is = let more : suc (run_length is_in_word rest) ≡ 0 = rw (ap is_in_word is) at none in omega arith

-- nor is an `x` among digits
second-no-x : (bytes rest : List ℕ) → 0 < length bytes → are is_digit bytes ≡ true → run_length is_in_word rest ≡ 0 → get_or (bytes ++ rest) 1 0 ≡ 120 → ⊥
second-no-x [] rest some all none is = absurd (omega arith)
second-no-x (byte ∷ []) rest some all none is = no-x rest none is
second-no-x (byte ∷ next ∷ bytes) rest some all none is =
    let parts = and_parts (is_digit next) (are is_digit bytes) (and_parts (is_digit byte) (are is_digit (next ∷ bytes)) all).1 in
    other-byte is_digit next 120 parts.0 refl is

-- so digits are the longest number without a sign
digits-magnitude : (bytes rest : List ℕ) → 0 < length bytes → are is_digit bytes ≡ true → run_length is_in_word rest ≡ 0 → magnitude_length (bytes ++ rest) ≡ length bytes
digits-magnitude bytes rest some all none =
    magnitude-decimal (bytes ++ rest) (λ _ _ second. absurd (second-no-x bytes rest some all none second))
    ∙ run-through is_digit bytes rest all ∙ omega (arith, no-digits rest none)

-- A digit is no mark,
digit-no-mark : (byte : ℕ) → is_digit byte ≡ true → mark_of byte ≡ None
digit-no-mark byte is = rw (other-eqb is_digit byte 44 is refl, other-eqb is_digit byte 58 is refl, other-eqb is_digit byte 40 is refl, other-eqb is_digit byte 41 is refl) refl

-- begins no word,
digit-no-word : (byte : ℕ) → is_digit byte ≡ true → begins_word byte ≡ false
digit-no-word byte is = grind (arith, nat_tests)

-- and is no blank
digit-no-blank : (byte : ℕ) → is_digit byte ≡ true → is_blank byte ≡ false
digit-no-blank byte is = grind (arith, nat_tests)

-- Digits are a part,
digits-part : (bytes rest : List ℕ) (n : ℤ) → 0 < length bytes → are is_digit bytes ≡ true → run_length is_in_word rest ≡ 0 → token_of bytes ≡ Some (Number n)
    → IsPart bytes (Number n) rest
digits-part [] rest n some all none token = absurd (omega arith)
digits-part (byte ∷ bytes) rest n some all none token =
    let first = (and_parts (is_digit byte) (are is_digit bytes) all).0 in
    let number : number_length (byte ∷ (bytes ++ rest)) ≡ length (byte ∷ bytes) = rw (other-eqb is_digit byte 45 first refl) (digits-magnitude (byte ∷ bytes) rest some all none) in
    record {
      some = some;
      not-blank = digit-no-blank byte first;
      no-comment = other-byte is_digit byte 35 first refl;
      length-is = sym (number-is-length (byte ∷ (bytes ++ rest)) (omega arith) (digit-no-word byte first) (other-byte is_digit byte 34 first refl) (digit-no-mark byte first)) ∙ number;
      token-is = token;
      unbroken = class-unbroken is_digit (byte ∷ bytes) refl all;
    }

-- so many and one more
further-some : (n : ℕ) → 0 < n → further 1 n ≡ suc n
further-some zero some = absurd (omega arith)
further-some (suc n) some = omega arith

-- and so are digits behind a minus sign.
minus-part : (bytes rest : List ℕ) (n : ℤ) → 0 < length bytes → are is_digit bytes ≡ true → run_length is_in_word rest ≡ 0 → token_of (45 ∷ bytes) ≡ Some (Number n)
    → IsPart (45 ∷ bytes) (Number n) rest
minus-part bytes rest n some all none token =
    let number : number_length (45 ∷ (bytes ++ rest)) ≡ length (45 ∷ bytes) = ap (further 1) (digits-magnitude bytes rest some all none) ∙ further-some (length bytes) some in
    record {
      some = omega arith;
      not-blank = refl;
      no-comment = λ same. omega arith;
      length-is = sym (number-is-length (45 ∷ (bytes ++ rest)) (omega arith) refl (λ same. omega arith) refl) ∙ number;
      token-is = token;
      unbroken = class-unbroken is_digit bytes refl all;
    }

-- the text of a number without a sign is a part
pub decimal-part : (n : ℕ) (rest : List ℕ) → n < 2 ^ 64 → run_length is_in_word rest ≡ 0 → IsPart (decimal n) (Number (pos n)) rest
decimal-part n rest small none =
    digits-part (decimal n) rest (pos n) (decimal-some n) (decimal-digits n) none
    (digits-token (decimal n) (decimal-some n) (decimal-digits n) ∙ ap (λ m. number_token (pos m)) (decimal-behind n (omega arith)) ∙ number-within n small)

-- and so is that of one with a sign
pub signed-part : (n : ℤ) (rest : List ℕ) → (pos 0 -ℤ pos (2 ^ 63)) ≤ℤ n → n <ℤ pos (2 ^ 64) → run_length is_in_word rest ≡ 0 → IsPart (signed_decimal n) (Number n) rest
signed-part (pos n) rest least most none = decimal-part n rest (omega (arith, ints)) none
signed-part (negsuc n) rest least most none =
    minus-part (decimal (suc n)) rest (negsuc n) (decimal-some (suc n)) (decimal-digits (suc n)) none
    (minus-token (decimal (suc n)) (decimal-some (suc n)) (decimal-digits (suc n)) ∙ ap (λ m. number_token (neg_ℤ (pos m))) (decimal-behind (suc n) (omega (arith, ints)))
    ∙ minus-within (suc n) (omega (arith, ints)))
