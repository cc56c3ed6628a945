-- The two halves of a product make the whole product.
use Rattle.std.proofs.Common.{◌≡◌, ℕ, ◌+◌, ◌-◌, ◌*◌, ◌^◌, ◌<◌, ℤ, pos, negsuc, ◌+ℤ◌, ◌*ℤ◌, arith}
use Rattle.std.specs.Prelude.{unsigned_abs}
use Rattle.std.specs.Int.{int_rem_euclid, int_div_euclid}
use Rattle.std.specs.Int.Signed.{mag}
use Rattle.std.proofs.lemmas.Int.{ints, unsigned_abs-mul}
use Rattle.std.proofs.lemmas.Nat.{mul-le, div-add-mod', mod_below}
use Rattle.riscv_decode.specs.Words.{signed}
use Rattle.int_step.specs.Values.{product, high_half}
use Rattle.int_step.specs.Laws.{ProductsAreWhole}
use Rattle.int_step.proofs.Wrapped.{signed-residue, signed-near, mag-near, signed-wrapped}
use Rattle.int_step.proofs.Residues.{residue-product}

-- an integer is its quotient, rounded down, times the divisor, plus what is left
parts-whole : (z : ℤ) (m : ℕ) → 0 < m → (int_div_euclid z (pos m) *ℤ pos m) +ℤ int_rem_euclid z (pos m) ≡ z
parts-whole (pos n) m some = omega (arith, ints, div-add-mod' n m)
parts-whole (negsuc n) m some = omega (arith, ints, div-add-mod' n m, mod_below n m some)

-- the quotient of an integer of 128 bits by 2^64 has 64 bits
high-fits : (z : ℤ) → mag z < 2 ^ 127 → mag (int_div_euclid z (pos (2 ^ 64))) < 2 ^ 63
high-fits (pos n) fits = omega arith
high-fits (negsuc n) fits = omega arith

-- the halves of a product of two integers, where two numbers have their residues
module _ (x y : ℤ) (a b j k : ℕ) (first : x +ℤ pos (j * 2 ^ 64) ≡ pos a) (second : y +ℤ pos (k * 2 ^ 64) ≡ pos b) (fits : mag (x *ℤ y) < 2 ^ 127) where
  halves-whole : (signed 64 (high_half 64 (x *ℤ y)) *ℤ pos (2 ^ 64)) +ℤ pos (product 64 a b) ≡ x *ℤ y
  halves-whole =
      let high = signed-wrapped 64 (int_div_euclid (x *ℤ y) (pos (2 ^ 64))) (omega arith) (high-fits (x *ℤ y) fits) in
      let low = residue-product (2 ^ 64) (omega arith) x y a b j k first second in
      let whole = parts-whole (x *ℤ y) (2 ^ 64) (omega arith) in
      rw (high, ← low) whole

-- two signed integers
signed-product : (a b : ℕ) → a < 2 ^ 64 → b < 2 ^ 64 → (signed 64 (high_half 64 (signed 64 a *ℤ signed 64 b)) *ℤ pos (2 ^ 64)) +ℤ pos (product 64 a b) ≡ signed 64 a *ℤ signed 64 b
signed-product a b fits_a fits_b =
    let first = signed-residue 64 a in
    let second = signed-residue 64 b in
    let size = unsigned_abs-mul (signed 64 a) (signed 64 b) in
    let most = mul-le (unsigned_abs (signed 64 a)) (unsigned_abs (signed 64 b)) (2 ^ 63) (2 ^ 63) (signed-near 64 a (omega arith) fits_a) (signed-near 64 b (omega arith) fits_b) in
    halves-whole (signed 64 a) (signed 64 b) a b first.0 second.0 first.1 second.1 (omega (arith, mag-near (signed 64 a *ℤ signed 64 b)))

-- a signed and an unsigned one
mixed-product : (a b : ℕ) → a < 2 ^ 64 → b < 2 ^ 64 → (signed 64 (high_half 64 (signed 64 a *ℤ pos b)) *ℤ pos (2 ^ 64)) +ℤ pos (product 64 a b) ≡ signed 64 a *ℤ pos b
mixed-product a b fits_a fits_b =
    let first = signed-residue 64 a in
    let size = unsigned_abs-mul (signed 64 a) (pos b) in
    let most = mul-le (unsigned_abs (signed 64 a)) b (2 ^ 63) (2 ^ 64 - 1) (signed-near 64 a (omega arith) fits_a) (omega arith) in
    halves-whole (signed 64 a) (pos b) a b first.0 0 first.1 (omega (arith, ints)) (omega (arith, mag-near (signed 64 a *ℤ pos b)))

-- two unsigned ones
unsigned-product : (a b : ℕ) → a < 2 ^ 64 → b < 2 ^ 64 → high_half 64 (pos a *ℤ pos b) * 2 ^ 64 + product 64 a b ≡ a * b
unsigned-product a b fits_a fits_b =
    let most = mul-le a b (2 ^ 64 - 1) (2 ^ 64 - 1) (omega arith) (omega arith) in
    omega arith

-- the law
pub products-whole : ProductsAreWhole
products-whole = record { unsigned = unsigned-product; both_signed = signed-product; one_signed = mixed-product }
