-- What a token is: a class of byte strings, each with its value. This project's own.
use Rattle.std.specs.Prelude.{ℕ, zero, suc, ◌+◌, ◌-◌, ◌*◌, ◌^◌, ℤ, pos, neg_ℤ, int_le, Bool, false, ◌==◌, ◌&&◌, ◌||◌, nat_le, is_some, if◌then◌else◌, Option, Some, None, List, [], ◌∷◌, take, drop, length}
use Rattle.asm_text.specs.declared.tokens.Token.{Token}
use Rattle.asm_text.specs.declared.tokens.Token.TheVariants.{Word, Number, Text, Comma, Colon, Open, Close}
use Rattle.asm_text.specs.Bytes.{is_text, is_digit, is_hex_digit, begins_word, is_in_word, is_escape, are, are_some}

-- a word
abbrev pub is_word : List ℕ → Bool
is_word [] = false
is_word (byte ∷ bytes) = begins_word byte && are is_in_word bytes

-- the digits of a number: decimal, or `0x` and hexadecimal
abbrev pub is_hexadecimal : List ℕ → Bool
is_hexadecimal [] = false
is_hexadecimal (byte ∷ []) = false
is_hexadecimal (byte ∷ next ∷ bytes) = (byte == 48) && ((next == 120) && are_some is_hex_digit bytes)

abbrev pub is_magnitude : List ℕ → Bool
is_magnitude bytes = are_some is_digit bytes || is_hexadecimal bytes

-- a number, with `-` or without
abbrev pub is_number : List ℕ → Bool
is_number [] = false
is_number (byte ∷ bytes) = is_magnitude (byte ∷ bytes) || ((byte == 45) && is_magnitude bytes)

-- behind the first `"` of a string each byte but the backslash and `"` stands for itself, and the next `"` ends it
abbrev pub closes : List ℕ → Bool
closes [] = false
closes (byte ∷ []) = byte == 34
closes (byte ∷ next ∷ bytes) =
    if byte == 92 then is_escape next && closes bytes
    else (if byte == 34 then false else is_text byte && closes (next ∷ bytes))

-- a string
abbrev pub is_string : List ℕ → Bool
is_string [] = false
is_string (byte ∷ bytes) = (byte == 34) && closes bytes

-- `,`, `:`, `(` and `)`
abbrev pub mark_of : ℕ → Option Token
mark_of byte =
    if byte == 44 then Some Comma else (if byte == 58 then Some Colon else (if byte == 40 then Some Open else (if byte == 41 then Some Close else None)))

-- what stands for a digit, and the number of digits in a base behind a number
abbrev pub digit_of : ℕ → ℕ
digit_of byte = if nat_le byte 57 then byte - 48 else (if nat_le byte 70 then byte - 55 else byte - 87)

abbrev pub digits_behind : ℕ → ℕ → List ℕ → ℕ
digits_behind base number [] = number
digits_behind base number (byte ∷ bytes) = digits_behind base (number * base + digit_of byte) bytes

abbrev pub magnitude_of : List ℕ → ℕ
magnitude_of bytes = if is_hexadecimal bytes then digits_behind 16 0 (drop 2 bytes) else digits_behind 10 0 bytes

-- the integer of a number
abbrev pub integer_of : List ℕ → ℤ
integer_of [] = pos 0
integer_of (byte ∷ bytes) = if byte == 45 then neg_ℤ (pos (magnitude_of bytes)) else pos (magnitude_of (byte ∷ bytes))

-- It is from -2^63 to 2^64 - 1. A number out of that range is no token.
abbrev pub is_in_range : ℤ → Bool
is_in_range n = int_le (neg_ℤ (pos (2 ^ 63))) n && int_le n (pos (2 ^ 64 - 1))

abbrev pub number_token : ℤ → Option Token
number_token n = if is_in_range n then Some (Number n) else None

-- the token of a mark alone
abbrev pub mark_token : List ℕ → Option Token
mark_token [] = None
mark_token (byte ∷ []) = mark_of byte
mark_token (byte ∷ next ∷ bytes) = None

-- the form of a token: a number has it whatever its range
abbrev pub is_lexeme : List ℕ → Bool
is_lexeme bytes = is_word bytes || (is_number bytes || (is_string bytes || is_some (mark_token bytes)))

-- the token that a byte string is
abbrev pub token_of : List ℕ → Option Token
token_of bytes =
    if is_word bytes then Some Word
    else (if is_number bytes then number_token (integer_of bytes)
    else (if is_string bytes then Some Text
    else mark_token bytes))

-- At each place the longest token counts: the most of the first bytes that have its form, or none.
abbrev pub longest : List ℕ → ℕ → ℕ
longest bytes zero = 0
longest bytes (suc count) = if is_lexeme (take (suc count) bytes) then suc count else longest bytes count

unfoldable pub lexeme_length : List ℕ → ℕ
lexeme_length bytes = longest bytes (length bytes)
