-- The classes of the bytes of a source, which is ASCII. This project's own.
use Rattle.std.specs.Prelude.{ℕ, Bool, true, false, ◌==◌, ◌&&◌, ◌||◌, nat_le, List, [], ◌∷◌}

-- from one byte to another
abbrev pub is_from : ℕ → ℕ → ℕ → Bool
is_from least most byte = nat_le least byte && nat_le byte most

-- space, tab and carriage return
abbrev pub is_blank : ℕ → Bool
is_blank byte = (byte == 32) || ((byte == 9) || (byte == 13))

-- what a line may have: what is printable, tab and carriage return
abbrev pub is_text : ℕ → Bool
is_text byte = is_from 32 126 byte || ((byte == 9) || (byte == 13))

-- digits, of either base
abbrev pub is_digit : ℕ → Bool
is_digit = is_from 48 57

abbrev pub is_hex_digit : ℕ → Bool
is_hex_digit byte = is_digit byte || (is_from 65 70 byte || is_from 97 102 byte)

-- a letter, `_` or `.` begins a word, and stands in it as digits do
abbrev pub begins_word : ℕ → Bool
begins_word byte = is_from 65 90 byte || (is_from 97 122 byte || ((byte == 95) || (byte == 46)))

abbrev pub is_in_word : ℕ → Bool
is_in_word byte = begins_word byte || is_digit byte

-- what may stand behind a backslash: `n`, `t`, the backslash, `"` and `0`
abbrev pub is_escape : ℕ → Bool
is_escape byte = (byte == 110) || ((byte == 116) || ((byte == 92) || ((byte == 34) || (byte == 48))))

-- all bytes are of a class
abbrev pub are : (ℕ → Bool) → List ℕ → Bool
are class [] = true
are class (byte ∷ bytes) = class byte && are class bytes

-- there are some, and all are
abbrev pub are_some : (ℕ → Bool) → List ℕ → Bool
are_some class [] = false
are_some class (byte ∷ bytes) = class byte && are class bytes
