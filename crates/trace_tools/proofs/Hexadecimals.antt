-- The hexadecimal digits of a number behind `0x` are the number's token.
use Rattle.std.proofs.Common.{◌≡◌, ◌∙◌, sym, ap, refl, ℕ, zero, suc, ◌+◌, ◌*◌, ◌/◌, ◌%◌, ◌<◌, ◌^◌, true, false, eqb, pos, List, [], ◌∷◌, ◌++◌, length, arith, pow-suc}
use Rattle.std.proofs.lemmas.Bool.{and_from, or_left, agree_below_at, eqb-true, ne_eqb}
use Rattle.asm_text.specs.declared.tokens.Token.TheVariants.{Number}
use Rattle.asm_text.specs.Bytes.{is_hex_digit, are}
use Rattle.asm_text.specs.Tokens.{digit_of, digits_behind, integer_of, number_token}
use Rattle.asm_text.specs.Scanning.{run_length, number_length}
use Rattle.asm_text.proofs.Lexemes.{number-is-length, number-is-token}
use Rattle.asm_text.proofs.Decimals.{number-within}
use Rattle.text_line.specs.Texts.{hexadecimal_digit, hexadecimal}
use Rattle.text_line.proofs.Hexadecimals.{hexadecimal-length}
use Rattle.trace_tools.proofs.Parts.{are-both, IsPart}
use Rattle.trace_tools.proofs.WordParts.{class-unbroken, run-through}

-- what stands for a digit below 16 is a hexadecimal digit
digit-hex : (n : ℕ) → n < 16 → is_hex_digit (hexadecimal_digit n) ≡ true
digit-hex n small = agree_below_at (λ k. is_hex_digit (hexadecimal_digit k)) (λ k. true) 16 n refl small

-- and stands for it
digit-back : (n : ℕ) → n < 16 → digit_of (hexadecimal_digit n) ≡ n
digit-back n small = eqb-true (digit_of (hexadecimal_digit n)) n (agree_below_at (λ k. eqb (digit_of (hexadecimal_digit k)) k) (λ k. true) 16 n refl small)

-- the digits of a number are hexadecimal digits
hexadecimal-digits : (count n : ℕ) → are is_hex_digit (hexadecimal count n) ≡ true
hexadecimal-digits zero n = refl
hexadecimal-digits (suc count) n =
    are-both is_hex_digit (hexadecimal count (n / 16)) (hexadecimal_digit (n % 16) ∷ []) (hexadecimal-digits count (n / 16)) (and_from _ _ (digit-hex (n % 16) (omega arith)) refl)

-- one digit more at the end
behind-more : (base number : ℕ) (bytes : List ℕ) (byte : ℕ) → digits_behind base number (bytes ++ (byte ∷ [])) ≡ digits_behind base number bytes * base + digit_of byte
behind-more base number [] byte = refl
behind-more base number (first ∷ bytes) byte = behind-more base (number * base + digit_of first) bytes byte

-- and they are the number
hexadecimal-behind : (count n : ℕ) → n < 16 ^ count → digits_behind 16 0 (hexadecimal count n) ≡ n
hexadecimal-behind zero n small = omega arith
hexadecimal-behind (suc count) n small =
    let less : n / 16 < 16 ^ count = omega (arith, pow-suc 16 count) in
    let front = hexadecimal-behind count (n / 16) less in
    let last = digit-back (n % 16) (omega arith) in
    behind-more 16 0 (hexadecimal count (n / 16)) (hexadecimal_digit (n % 16)) ∙ rw (front, last) (omega arith)

-- some hexadecimal digits behind `0x`
digits-part : (digits : List ℕ) (n : ℕ) → 0 < length digits → are is_hex_digit digits ≡ true → digits_behind 16 0 digits ≡ n → n < 2 ^ 64
    → IsPart (48 ∷ 120 ∷ digits) (Number (pos n)) []
digits-part [] n some all is small = absurd (omega arith)
digits-part (digit ∷ digits) n some all is small =
    let bytes = digit ∷ digits in
    let run : run_length is_hex_digit (bytes ++ []) ≡ suc (length digits) = run-through is_hex_digit bytes [] all ∙ omega arith in
    let more : eqb (suc (length digits)) 0 ≡ false = ne_eqb (suc (length digits)) 0 (λ none. omega arith) in
    let number : number_length (48 ∷ 120 ∷ (bytes ++ [])) ≡ length (48 ∷ 120 ∷ bytes) = rw (run, more) (omega arith) in
    let integer : integer_of (48 ∷ 120 ∷ bytes) ≡ pos n = rw all (ap pos is) in
    record {
      some = omega arith;
      not-blank = refl;
      no-comment = λ same. omega arith;
      length-is = sym (number-is-length (48 ∷ 120 ∷ (bytes ++ [])) (omega arith) refl (λ same. omega arith) refl) ∙ number;
      token-is = number-is-token (48 ∷ 120 ∷ bytes) (omega arith) refl (or_left _ _ all) ∙ ap number_token integer ∙ number-within n small;
      unbroken = class-unbroken is_hex_digit bytes refl all;
    }

-- a number's digits behind `0x`
pub hexadecimal-part : (count n : ℕ) → 0 < count → n < 16 ^ count → n < 2 ^ 64 → IsPart (48 ∷ 120 ∷ hexadecimal count n) (Number (pos n)) []
hexadecimal-part count n some within small =
    digits-part (hexadecimal count n) n (omega (arith, hexadecimal-length count n)) (hexadecimal-digits count n) (hexadecimal-behind count n within) small
