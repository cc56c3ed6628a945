-- The high halves of products.
use Rattle.std.proofs.Common.{◌≡◌, ◌∙◌, ℕ, ◌/◌, ◌^◌, ◌<◌, ◌≤◌, ℤ, pos, negsuc, ◌*ℤ◌, ap, arith}
use Rattle.std.specs.Prelude.{unsigned_abs}
use Rattle.std.specs.Int.{w64, w128, cast_signed, cast_unsigned}
use Rattle.std.proofs.lemmas.Int.{of_z-to_z, to_z-of_z, fits_signed_from_abs, unsigned_abs-mul}
use Rattle.std.proofs.lemmas.Nat.{mul-le}
use Rattle.riscv_decode.specs.Words.{signed}
use Rattle.int_step.specs.Values.{high_half}
use Rattle.int_step.proofs.Wrapped.{signed-cast, signed-near}

-- the high 64 of the 128 bits of an integer
high-bits : (z : ℤ) → unsigned_abs z < 2 ^ 127 → cast_unsigned w128 z / 2 ^ 64 ≡ high_half 64 z
high-bits (pos n) fits = omega arith
high-bits (negsuc n) fits = omega arith

-- a signed integer of 64 bits, cast to one of 128
widened : (n : ℕ) (x y : ℤ) → n < 2 ^ 64 → x ≡ cast_signed w64 n → y ≡ cast_signed w64 (cast_unsigned w64 x) → cast_signed w128 (cast_unsigned w128 y) ≡ signed 64 n
widened n x y fits at_x at_y =
    let back = of_z-to_z w64 n fits in
    let given = signed-cast w64 n fits in
    let near : unsigned_abs (signed 64 n) ≤ 2 ^ 63 = signed-near 64 n (omega arith) fits in
    let whole = to_z-of_z w128 (signed 64 n) (fits_signed_from_abs w128 (signed 64 n) (omega arith)) in
    cc

-- what the code computes for two signed integers
pub high-code : (a b : ℕ) (x y x' y' : ℤ) (r : ℕ) → a < 2 ^ 64 → b < 2 ^ 64 → x ≡ cast_signed w64 a → y ≡ cast_signed w64 b → x' ≡ cast_signed w64 (cast_unsigned w64 x) → y' ≡ cast_signed w64 (cast_unsigned w64 y)
    → r ≡ cast_unsigned w128 (cast_signed w128 (cast_unsigned w128 (cast_signed w128 (cast_unsigned w128 x') *ℤ cast_signed w128 (cast_unsigned w128 y')))) → r / 2 ^ 64 ≡ high_half 64 (signed 64 a *ℤ signed 64 b)
high-code a b x y x' y' r fits_a fits_b at_x at_y at_x' at_y' at_r =
    let first = widened a x x' fits_a at_x at_x' in
    let second = widened b y y' fits_b at_y at_y' in
    let near_a = signed-near 64 a (omega arith) fits_a in
    let near_b = signed-near 64 b (omega arith) fits_b in
    let size = unsigned_abs-mul (signed 64 a) (signed 64 b) in
    let near : unsigned_abs (signed 64 a *ℤ signed 64 b) < 2 ^ 127 = omega (arith, mul-le (unsigned_abs (signed 64 a)) (unsigned_abs (signed 64 b)) (2 ^ 63) (2 ^ 63) near_a near_b) in
    let whole = to_z-of_z w128 (signed 64 a *ℤ signed 64 b) (fits_signed_from_abs w128 (signed 64 a *ℤ signed 64 b) near) in
    let same : r ≡ cast_unsigned w128 (signed 64 a *ℤ signed 64 b) = cc in
    ap (λ n. n / 2 ^ 64) same ∙ high-bits (signed 64 a *ℤ signed 64 b) near
