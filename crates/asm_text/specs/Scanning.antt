-- How the token at the front of some bytes is found, byte after byte: what the private functions give. What a token is stands in `Tokens`.
use Rattle.std.specs.Prelude.{◌≡◌, ℕ, zero, suc, ◌+◌, ◌^◌, ◌<◌, ◌≤◌, Bool, not, ◌==◌, ◌&&◌, if◌then◌else◌, List, [], ◌∷◌}
use Rattle.asm_text.specs.declared.tokens.Class.{Class}
use Rattle.asm_text.specs.declared.tokens.Class.TheVariants.{InWord, Digit, HexDigit}
use Rattle.asm_text.specs.Bytes.{is_digit, is_hex_digit, is_in_word, is_text, is_escape}

-- a byte is of a class
abbrev pub is_in_class : Class → ℕ → Bool
is_in_class InWord byte = is_in_word byte
is_in_class Digit byte = is_digit byte
is_in_class HexDigit byte = is_hex_digit byte

-- how many of the first bytes are of a class
abbrev pub run_length : (ℕ → Bool) → List ℕ → ℕ
run_length class [] = 0
run_length class (byte ∷ bytes) = if class byte then suc (run_length class bytes) else 0

-- a length, with what stands before it, or none
abbrev pub further : ℕ → ℕ → ℕ
further more zero = 0
further more (suc count) = more + suc count

-- the length of a number without a sign: hexadecimal where there are such digits, and else decimal
abbrev pub magnitude_length : List ℕ → ℕ
magnitude_length [] = 0
magnitude_length (byte ∷ []) = run_length is_digit (byte ∷ [])
magnitude_length (byte ∷ next ∷ bytes) =
    if (byte == 48) && ((next == 120) && not (run_length is_hex_digit bytes == 0)) then 2 + run_length is_hex_digit bytes
    else run_length is_digit (byte ∷ next ∷ bytes)

-- and with it
abbrev pub number_length : List ℕ → ℕ
number_length [] = 0
number_length (byte ∷ bytes) = if byte == 45 then further 1 (magnitude_length bytes) else magnitude_length (byte ∷ bytes)

-- the length of a string behind its first quote, where it ends
abbrev pub closing_length : List ℕ → ℕ
closing_length [] = 0
closing_length (byte ∷ []) = if byte == 34 then 1 else 0
closing_length (byte ∷ next ∷ bytes) =
    if byte == 34 then 1
    else (if byte == 92 then (if is_escape next then further 2 (closing_length bytes) else 0)
    else (if is_text byte then further 1 (closing_length (next ∷ bytes)) else 0))

-- and with it
abbrev pub string_length : List ℕ → ℕ
string_length [] = 0
string_length (byte ∷ bytes) = further 1 (closing_length bytes)

-- a number where it is below 2^64, and else some number from there on
pub record IsCapped (number value : ℕ) : Type 0 where
  pub small : number < 2 ^ 64 → value ≡ number
  pub great : 2 ^ 64 ≤ number → 2 ^ 64 ≤ value
