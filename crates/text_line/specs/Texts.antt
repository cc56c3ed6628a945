-- The texts of numbers in a line, and how long a line may be.
use Rattle.std.specs.Prelude.{◌≡◌, ℕ, zero, suc, ◌+◌, ◌/◌, ◌%◌, ◌^◌, ◌<◌, nat_lt, if◌then◌else◌, List, [], ◌∷◌, ◌++◌, All, Contains, length, codes}
use Rattle.std.specs.Str.Parse.{digits_value}
use Rattle.text_line.specs.declared.TheConstants as code

-- the most bytes of a line
abbrev pub line_bytes : ℕ
line_bytes = 128

-- the constant of the code is the number
pub record ConstantsAreFixed : Type 0 where
  pub bytes : code.LINE_BYTES ≡ line_bytes

-- a digit below 16: `0` to `9` and `a` to `f`
abbrev pub hexadecimal_digit : ℕ → ℕ
hexadecimal_digit n = if nat_lt n 10 then 48 + n else 87 + n

-- so many hexadecimal digits of a number, the lowest last
abbrev pub hexadecimal : ℕ → ℕ → List ℕ
hexadecimal zero n = []
hexadecimal (suc count) n = hexadecimal count (n / 16) ++ (hexadecimal_digit (n % 16) ∷ [])

-- They are so many digits of lower case, and their value is the number where it has no more than so many.
pub record HexadecimalsAreExact : Type 0 where
  pub count : (count n : ℕ) → length (hexadecimal count n) ≡ count
  pub digits : (count n : ℕ) → All (Contains (codes "0123456789abcdef")) (hexadecimal count n)
  pub value : (count n : ℕ) → n < 16 ^ count → digits_value 16 (hexadecimal count n) ≡ n
