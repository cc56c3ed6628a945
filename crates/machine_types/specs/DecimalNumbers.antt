-- Numbers in text: decimal digits, without a sign or a leading zero. This project's own.
use Rattle.std.specs.Prelude.{ℕ, ◌≡◌, ◌≤◌, ◌<◌, ◌^◌, ◌&&◌, nat_le, if◌then◌else◌, Option, Some, None, List, bytes_eq, decimal}
use Rattle.std.specs.Str.Parse.{digits_value}

-- the number of which a text is the decimal text
abbrev pub number_of : List ℕ → Option ℕ
number_of text = let n = digits_value 10 text in if bytes_eq text (decimal n) then Some n else None

-- where it is from the least to the most
abbrev pub kept_in : ℕ → ℕ → Option ℕ → Option ℕ
kept_in least most None = None
kept_in least most (Some n) = if nat_le least n && nat_le n most then Some n else None

unfoldable pub number_in : ℕ → ℕ → List ℕ → Option ℕ
number_in least most text = kept_in least most (number_of text)

-- A text is a number in a range exactly where it is the decimal text of one, which has one such text.
pub record NumbersAreDecimal : Type 0 where
  pub read : (least most n : ℕ) → least ≤ n → n ≤ most → n < 2 ^ 64 → number_in least most (decimal n) ≡ Some n
  pub text : (least most n : ℕ) (text : List ℕ) → number_in least most text ≡ Some n → text ≡ decimal n
  pub from : (least most n : ℕ) (text : List ℕ) → number_in least most text ≡ Some n → least ≤ n
  pub to : (least most n : ℕ) (text : List ℕ) → number_in least most text ≡ Some n → n ≤ most
