-- The right that an access wants is one bit of the rights.
use Rattle.std.proofs.Common.{◌≡◌, ◌∙◌, inl, inr, ℕ, ◌*◌, ◌/◌, ◌%◌, ◌^◌, ◌<◌, ◌==◌, bit_and, ap, arith}
use Rattle.std.proofs.lemmas.Nat.{pow_pos}
use Rattle.std.proofs.lemmas.Nat.Bits.{and_pow}
use Rattle.std.proofs.lemmas.Bool.{cases_lt}
use Rattle.std.proofs.lemmas.Bool.Decides.{nat_tests}
use Rattle.machine_types.specs.declared.touches.Access.TheVariants.{Read, Write, Fetch}
use Rattle.machine_types.specs.Rights.{is_allowed}

-- a power times a bit is the power just where the bit is one
bit-times : (bit power : ℕ) → bit < 2 → 0 < power → (bit * power == power) ≡ (bit == 1)
bit-times bit power small some = elim (cases_lt bit 1) [
  | inl h ↦ let unset : bit ≡ 0 = omega arith in rw unset (grind (arith, nat_tests))
  | inr h ↦ let set : bit ≡ 1 = omega arith in rw set (grind (arith, nat_tests))
]

-- a number has all of a power of two just where it has that bit
pub has-bit : (n k : ℕ) → (bit_and n (2 ^ k) == 2 ^ k) ≡ (n / 2 ^ k % 2 == 1)
has-bit n k = ap (λ x. x == 2 ^ k) (and_pow n k) ∙ bit-times (n / 2 ^ k % 2) (2 ^ k) (omega arith) (pow_pos k)

-- to read wants the third bit
pub is_allowed-Read : (rights : ℕ) → is_allowed Read rights ≡ (rights / 4 % 2 == 1)
is_allowed-Read rights = has-bit rights 2

-- to write wants the second bit
pub is_allowed-Write : (rights : ℕ) → is_allowed Write rights ≡ (rights / 2 % 2 == 1)
is_allowed-Write rights = has-bit rights 1

-- to fetch wants the lowest bit
pub is_allowed-Fetch : (rights : ℕ) → is_allowed Fetch rights ≡ (rights % 2 == 1)
is_allowed-Fetch rights = has-bit rights 0 ∙ ap (λ x. x % 2 == 1) whole
  where
    whole : rights / 1 ≡ rights
    whole = omega arith
