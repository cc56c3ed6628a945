-- The hexadecimal digits of a number: each digit, how a text of them splits, and that it is what `hex` writes.
use Rattle.std.proofs.Common.{◌≡◌, ◌∙◌, sym, ap, subst, refl, ℕ, zero, suc, ◌+◌, ◌-◌, ◌/◌, ◌%◌, ◌^◌, ◌<◌, ◌≤◌, true, eqb, [], ◌∷◌, ◌++◌, length, take, drop, slice_index, codes, arith, add-zero}
use Rattle.std.specs.Char.{digit_value}
use Rattle.std.specs.Int.{byte_at, bytes_high_first}
use Rattle.std.specs.List.{All, Contains}
use Rattle.std.specs.Str.Parse.{digits_value}
use Rattle.std.proofs.Math.Nat.{div-div-eq-div-mul, div-one, pow-suc}
use Rattle.std.proofs.lemmas.Bool.{agree_below_at, eqb-true}
use Rattle.std.proofs.lemmas.Int.Digits.{digits_value_push}
use Rattle.std.proofs.lemmas.List.{append-nil, append_assoc, drop_at, length_push, take_all}
use Rattle.std.proofs.lemmas.List.Elements.{All-nil, All-push, Contains-get_or}
use Rattle.std.proofs.lemmas.Nat.{mul-pow, pow-add}
use Rattle.hex.specs.Hex.{encode_lower, encode_with, lower_digits}
use Rattle.text_line.specs.Texts.{hexadecimal, hexadecimal_digit}

-- a digit is the entry of the table
digit-entry : (digit : ℕ) → digit < 16 → slice_index lower_digits digit ≡ hexadecimal_digit digit
digit-entry digit small =
    eqb-true (slice_index lower_digits digit) (hexadecimal_digit digit) (agree_below_at (λ k. eqb (slice_index lower_digits k) (hexadecimal_digit k)) (λ k. true) 16 digit refl small)

-- the value of a digit is that digit
digit-valued : (digit : ℕ) → digit < 16 → digit_value (hexadecimal_digit digit) ≡ digit
digit-valued digit small =
    eqb-true (digit_value (hexadecimal_digit digit)) digit (agree_below_at (λ k. eqb (digit_value (hexadecimal_digit k)) k) (λ k. true) 16 digit refl small)

-- a digit is one of the table
digit-contained : (digit : ℕ) → digit < 16 → Contains lower_digits (hexadecimal_digit digit)
digit-contained digit small = subst (Contains lower_digits) (digit-entry digit small) (Contains-get_or lower_digits digit 0 small)

-- there are as many digits as asked for
pub hexadecimal-length : (count n : ℕ) → length (hexadecimal count n) ≡ count
hexadecimal-length zero n = refl
hexadecimal-length (suc count) n =
    let front = hexadecimal-length count (n / 16) in
    length_push (hexadecimal count (n / 16)) (hexadecimal_digit (n % 16)) ∙ omega (arith, front)

-- they are digits of lower case
pub hexadecimal-digits : (count n : ℕ) → All (Contains (codes "0123456789abcdef")) (hexadecimal count n)
hexadecimal-digits zero n = All-nil (Contains lower_digits)
hexadecimal-digits (suc count) n =
    All-push (Contains lower_digits) (hexadecimal count (n / 16)) (hexadecimal_digit (n % 16)) (hexadecimal-digits count (n / 16)) (digit-contained (n % 16) (omega arith))

-- their value is the number, where that has no more digits
pub hexadecimal-value : (count n : ℕ) → n < 16 ^ count → digits_value 16 (hexadecimal count n) ≡ n
hexadecimal-value zero n small = omega arith
hexadecimal-value (suc count) n small =
    let front = hexadecimal-value count (n / 16) (omega (arith, pow-suc 16 count)) in
    let last = digit-valued (n % 16) (omega arith) in
    digits_value_push 16 (hexadecimal count (n / 16)) (hexadecimal_digit (n % 16)) ∙ omega (arith, front, last)

-- the digits in front are those of the number without its lowest digits
hexadecimal-split : (front count n : ℕ) → hexadecimal (front + count) n ≡ hexadecimal front (n / 16 ^ count) ++ hexadecimal count n
hexadecimal-split front zero n = rw (add-zero front, append-nil, div-one) refl
hexadecimal-split front (suc count) n =
    let more : front + suc count ≡ suc (front + count) = omega arith in
    let shifted : n / 16 / 16 ^ count ≡ n / 16 ^ suc count = div-div-eq-div-mul n 16 (16 ^ count) ∙ ap (λ d. n / d) (omega (arith, pow-suc 16 count)) in
    let last = hexadecimal_digit (n % 16) ∷ [] in
    ap (λ k. hexadecimal k n) more
    ∙ ap (λ digits. digits ++ last) (hexadecimal-split front count (n / 16) ∙ ap (λ m. hexadecimal front m ++ hexadecimal count (n / 16)) shifted)
    ∙ append_assoc (hexadecimal front (n / 16 ^ suc count)) (hexadecimal count (n / 16)) last

-- the lowest digits stay where those in front are dropped
hexadecimal-dropped : (count whole n : ℕ) → count ≤ whole → drop (whole - count) (hexadecimal whole n) ≡ hexadecimal count n
hexadecimal-dropped count whole n fits =
    let split : whole ≡ whole - count + count = omega arith in
    ap (λ k. drop (whole - count) (hexadecimal k n)) split
    ∙ ap (drop (whole - count)) (hexadecimal-split (whole - count) count n)
    ∙ drop_at (hexadecimal (whole - count) (n / 16 ^ count)) (hexadecimal count n) (whole - count) (hexadecimal-length (whole - count) (n / 16 ^ count))

-- and they are all that is left
pub hexadecimal-lowest : (count whole n : ℕ) → count ≤ whole → take (whole - (whole - count)) (drop (whole - count) (hexadecimal whole n)) ≡ hexadecimal count n
hexadecimal-lowest count whole n fits =
    rw (hexadecimal-dropped count whole n fits) (take_all (whole - (whole - count)) (hexadecimal count n) (omega (arith, hexadecimal-length count n)))

-- a power of 256 is one of 16
power-of-bytes : (count : ℕ) → 256 ^ count ≡ 16 ^ (count + count)
power-of-bytes count = mul-pow 16 16 count ∙ sym (pow-add 16 count count)

-- a byte, by its place among the digits
byte-placed : (at n : ℕ) → byte_at at n ≡ n / 16 ^ (at + at) % 256
byte-placed zero n = ap (λ m. m % 256) (sym (div-one n))
byte-placed (suc at) n = ap (λ d. n / d % 256) (power-of-bytes (suc at))

-- the two digits of a byte
byte-digits : (n : ℕ) → slice_index lower_digits (n % 256 / 16) ∷ slice_index lower_digits (n % 256 % 16) ∷ [] ≡ hexadecimal 2 n
byte-digits n =
    let high : n % 256 / 16 ≡ n / 16 % 16 = omega arith in
    let low : n % 256 % 16 ≡ n % 16 = omega arith in
    rw (high, low, digit-entry (n / 16 % 16) (omega arith), digit-entry (n % 16) (omega arith)) refl

-- what `hex` writes of the bytes of a number, the highest first, are its digits
pub bytes-written : (count n : ℕ) → encode_lower (bytes_high_first count n) ≡ hexadecimal (count + count) n
unfolding encode_with
bytes-written zero n = refl
bytes-written (suc count) n =
    let more : 2 + (count + count) ≡ suc count + suc count = omega arith in
    let rest = encode_lower (bytes_high_first count n) in
    ap (λ byte. slice_index lower_digits (byte / 16) ∷ slice_index lower_digits (byte % 16) ∷ rest) (byte-placed count n)
    ∙ ap (λ digits. digits ++ rest) (byte-digits (n / 16 ^ (count + count)))
    ∙ ap (λ digits. hexadecimal 2 (n / 16 ^ (count + count)) ++ digits) (bytes-written count n)
    ∙ sym (hexadecimal-split 2 (count + count) n)
    ∙ ap (λ k. hexadecimal k n) more
