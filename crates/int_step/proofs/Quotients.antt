-- Quotients and remainders of signed integers.
use Rattle.std.proofs.Common.{◌≡◌, ◌≢◌, ◌∙◌, ℕ, zero, suc, ◌-◌, ◌/◌, ◌%◌, ◌^◌, ◌<◌, ◌≤◌, ⊎_elim, true, false, eqb, ℤ, pos, negsuc, neg_ℤ, refl, sym, ap, arith}
use Rattle.std.specs.Prelude.{unsigned_abs, int_div, int_rem}
use Rattle.std.specs.Int.Signed.{mag_rem}
use mir.Val.{bits}
use Rattle.std.specs.Int.{Width, cast_signed, cast_unsigned, int_wrapping_div}
use Rattle.std.proofs.lemmas.Bool.{eqb-true, and_parts, cases_Bool}
use Rattle.std.proofs.lemmas.Bool.Decides.{nat_tests}
use Rattle.std.proofs.lemmas.Int.{of_z-to_z}
use Rattle.std.proofs.lemmas.Nat.{pow_pos}
use Rattle.std.proofs.Math.Nat.{div-le_self, mod-eq_of_lt}
use Rattle.riscv_decode.specs.Words.{signed}
use Rattle.int_step.specs.Values.{wrapped, quotient, remainder, overflows, least_integer, all_ones}
use Rattle.int_step.proofs.Wrapped.{signed-cast, wrapped-cast, wrapped-below, signed-negative, signed-near, signed-fits, mag-near, modulus-twice, some-bits}

-- the integer on the other side of 0 is as far from it
abs-neg : (n : ℕ) → unsigned_abs (neg_ℤ (pos n)) ≡ n
abs-neg zero = refl
abs-neg (suc n) = refl

-- a quotient is no farther from 0 than the dividend
quotient-near : (a b : ℤ) → unsigned_abs (int_div a b) ≤ unsigned_abs a
quotient-near (pos a) (pos b) = div-le_self a b
quotient-near (pos a) (negsuc b) = rw (abs-neg (a / suc b)) (div-le_self a (suc b))
quotient-near (negsuc a) (pos b) = rw (abs-neg (suc a / b)) (div-le_self (suc a) b)
quotient-near (negsuc a) (negsuc b) = div-le_self (suc a) (suc b)

-- where a division has no special row
pub quotient-plain : (width a b : ℕ) → b ≢ 0 → overflows width a b ≡ false → quotient width a b ≡ wrapped width (int_div (signed width a) (signed width b))
quotient-plain width a b some none = grind (arith, nat_tests)

-- the same of the remainder
pub remainder-plain : (width a b : ℕ) → b ≢ 0 → overflows width a b ≡ false → remainder width a b ≡ wrapped width (int_rem (signed width a) (signed width b))
remainder-plain width a b some none = grind (arith, nat_tests)

-- in the overflow the quotient is the dividend
pub quotient-full : (width a b : ℕ) → b ≢ 0 → overflows width a b ≡ true → quotient width a b ≡ a
quotient-full width a b some full = grind (arith, nat_tests)

-- there the dividend is the least integer
signed-least : (width a : ℕ) → 0 < width → a ≡ least_integer width → signed width a ≡ negsuc (2 ^ (width - 1) - 1)
signed-least width a some least =
    let twice = modulus-twice width some in
    let half = pow_pos (width - 1) in
    signed-negative width a (omega arith) (omega arith) ∙ ap negsuc (omega arith)

-- and the divisor -1
signed-ones : (width b : ℕ) → 0 < width → b ≡ all_ones width → signed width b ≡ negsuc 0
signed-ones width b some ones =
    let twice = modulus-twice width some in
    let half = pow_pos (width - 1) in
    signed-negative width b (omega arith) (omega arith) ∙ ap negsuc (omega arith)

-- so the quotient is what is left of the quotient of the least integer by -1
quotient-overflow : (width a b : ℕ) → 0 < width → a ≡ least_integer width → b ≡ all_ones width → wrapped width (int_div (signed width a) (signed width b)) ≡ a
quotient-overflow width a b some least ones =
    let twice = modulus-twice width some in
    let half : 0 < 2 ^ (width - 1) = pow_pos (width - 1) in
    let first = signed-least width a some least in
    let second = signed-ones width b some ones in
    let same : suc (2 ^ (width - 1) - 1) / 1 ≡ 2 ^ (width - 1) = omega arith in
    rw (first, second, same, least) (mod-eq_of_lt (omega arith))

-- and the remainder is 0
remainder-full : (width a b : ℕ) → b ≢ 0 → overflows width a b ≡ true → remainder width a b ≡ 0
remainder-full width a b some full = grind (arith, nat_tests)

-- which is what is left of the remainder of the least integer by -1
remainder-overflow : (width a b : ℕ) → 0 < width → a ≡ least_integer width → b ≡ all_ones width → wrapped width (int_rem (signed width a) (signed width b)) ≡ 0
remainder-overflow width a b some least ones =
    let first = signed-least width a some least in
    let second = signed-ones width b some ones in
    let none : suc (2 ^ (width - 1) - 1) % 1 ≡ 0 = omega arith in
    rw (first, second, none) (mod-eq_of_lt (pow_pos width))

module _ (w : Width) (a b : ℕ) (first : a < 2 ^ bits w) (second : b < 2 ^ bits w) (some : b ≢ 0) where
  -- so the quotient is what is left of the integers' quotient, if the divisor is not 0
  quotient-wraps : quotient (bits w) a b ≡ wrapped (bits w) (int_div (signed (bits w) a) (signed (bits w) b))
  quotient-wraps = ⊎_elim
      (λ full. let parts = and_parts (eqb a (least_integer (bits w))) (eqb b (all_ones (bits w))) full in
      quotient-full (bits w) a b some full ∙ sym (quotient-overflow (bits w) a b (some-bits w) (eqb-true _ _ parts.0) (eqb-true _ _ parts.1)))
      (quotient-plain (bits w) a b some)
      (cases_Bool (overflows (bits w) a b))

  -- and what the code's division and casts give
  pub quotient-code : (x y z : ℤ) (r : ℕ) → x ≡ cast_signed w a → y ≡ cast_signed w b
      → z ≡ int_wrapping_div w (cast_signed w (cast_unsigned w x)) (cast_signed w (cast_unsigned w y)) → r ≡ cast_unsigned w (cast_signed w (cast_unsigned w z)) → r ≡ quotient (bits w) a b
  quotient-code x y z r at_x at_y at_z at_r =
      let back_a = of_z-to_z w a first in
      let back_b = of_z-to_z w b second in
      let given_a = signed-cast w a first in
      let given_b = signed-cast w b second in
      let near_a = signed-near (bits w) a (some-bits w) first in
      let no_farther = quotient-near (signed (bits w) a) (signed (bits w) b) in
      let twice = modulus-twice (bits w) (some-bits w) in
      let near : unsigned_abs (int_div (signed (bits w) a) (signed (bits w) b)) < 2 ^ bits w = omega (arith, pow_pos (bits w - 1)) in
      let back = wrapped-cast w (int_div (signed (bits w) a) (signed (bits w) b)) near in
      let back_r = of_z-to_z w (wrapped (bits w) (int_div (signed (bits w) a) (signed (bits w) b))) (wrapped-below (bits w) _) in
      cc quotient-wraps

  -- the same of the remainder
  remainder-wraps : remainder (bits w) a b ≡ wrapped (bits w) (int_rem (signed (bits w) a) (signed (bits w) b))
  remainder-wraps = ⊎_elim
      (λ full. let parts = and_parts (eqb a (least_integer (bits w))) (eqb b (all_ones (bits w))) full in
      remainder-full (bits w) a b some full ∙ sym (remainder-overflow (bits w) a b (some-bits w) (eqb-true _ _ parts.0) (eqb-true _ _ parts.1)))
      (remainder-plain (bits w) a b some)
      (cases_Bool (overflows (bits w) a b))

  -- and of what the code computes
  pub remainder-code : (x y z : ℤ) (r : ℕ) → x ≡ cast_signed w a → y ≡ cast_signed w b
      → z ≡ int_rem (cast_signed w (cast_unsigned w x)) (cast_signed w (cast_unsigned w y)) → r ≡ cast_unsigned w (cast_signed w (cast_unsigned w z)) → r ≡ remainder (bits w) a b
  remainder-code x y z r at_x at_y at_z at_r =
      let back_a = of_z-to_z w a first in
      let back_b = of_z-to_z w b second in
      let given_a = signed-cast w a first in
      let given_b = signed-cast w b second in
      let fits_a = signed-fits (bits w) a (some-bits w) first in
      let no_farther = mag_rem (signed (bits w) a) (signed (bits w) b) in
      let absolute = mag-near (int_rem (signed (bits w) a) (signed (bits w) b)) in
      let twice = modulus-twice (bits w) (some-bits w) in
      let near : unsigned_abs (int_rem (signed (bits w) a) (signed (bits w) b)) < 2 ^ bits w = omega (arith, pow_pos (bits w - 1)) in
      let back = wrapped-cast w (int_rem (signed (bits w) a) (signed (bits w) b)) near in
      let back_r = of_z-to_z w (wrapped (bits w) (int_rem (signed (bits w) a) (signed (bits w) b))) (wrapped-below (bits w) _) in
      cc remainder-wraps
