-- The length of a printed number.
use Rattle.std.proofs.Common.{ℕ, ◌≤◌, ◌<◌, ◌^◌, length, decimal, arith}
use Rattle.std.proofs.lemmas.Fmt.{length-decimal-le}

-- a number of 64 bits has at most 20 digits
pub length-decimal-le20 : (n : ℕ) → n < 2 ^ 64 → length (decimal n) ≤ 20
length-decimal-le20 n h = length-decimal-le 20 n (omega arith) (omega arith) h
