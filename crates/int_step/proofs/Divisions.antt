-- What divisions give: the dividend is the quotient times the divisor plus the remainder.
use Rattle.std.proofs.Common.{◌≡◌, ◌≢◌, ◌∙◌, ◌⊎◌, inl, inr, ⊎_elim, ℕ, zero, suc, ◌-◌, ◌*◌, ◌/◌, ◌%◌, ◌^◌, ◌<◌, ◌≤◌, true, false, eqb, ℤ, pos, negsuc, neg_ℤ, refl, sym, ap, arith}
use Rattle.std.specs.Prelude.{unsigned_abs, int_div, int_rem}
use Rattle.std.specs.Int.{is_negative}
use Rattle.std.specs.Int.Signed.{mag, mag_rem}
use Rattle.std.proofs.lemmas.Bool.{false≢true, and_from, eq-eqb, ne_eqb, le-ltb, cond-false, cases_lt}
use Rattle.std.proofs.lemmas.Int.{quot-rem, rem_below}
use Rattle.std.proofs.lemmas.Nat.{div-add-mod', mod_below, pow_pos}
use Rattle.std.proofs.Math.Nat.{div-le_self, mul-le-mul_left, mod-eq_of_lt, pos_of_ne-zero}
use Rattle.riscv_decode.specs.Words.{signed}
use Rattle.riscv_decode.specs.declared.instr.RegOp.TheVariants as reg
use Rattle.int_step.specs.Values.{wrapped, quotient, remainder, unsigned_quotient, unsigned_remainder, overflows, reg_value, extended}
use Rattle.int_step.specs.Laws.{Divides, DividesUnsigned, DivisionsAreExact}
use Rattle.int_step.proofs.Wrapped.{modulus-twice, signed-fits, signed-wrapped, wrapped-signed}
use Rattle.int_step.proofs.Quotients.{quotient-plain, remainder-plain}
use Rattle.int_step.proofs.Sizes.{reg_value-low}

-- an integer on the other side of 0
mag-neg : (n : ℕ) → mag (neg_ℤ (pos n)) ≡ n - 1
mag-neg zero = refl
mag-neg (suc n) = omega arith

-- a quotient has the dividend's bits, but for that of the least integer by -1
quotient-fits : (a b : ℤ) (half : ℕ) → mag a < half → (a ≡ negsuc (half - 1) → b ≡ negsuc 0 → ⊥) → mag (int_div a b) < half
quotient-fits (pos n) (pos d) half fits none = omega (arith, div-le_self n d)
quotient-fits (pos n) (negsuc d) half fits none = omega (arith, div-le_self n (suc d), mag-neg (n / suc d))
quotient-fits (negsuc n) (pos d) half fits none = omega (arith, div-le_self (suc n) d, mag-neg (suc n / d))
quotient-fits (negsuc n) (negsuc zero) half fits none = ⊎_elim
    (λ less. omega arith)
    (λ least. absurd (none (ap negsuc (omega arith)) refl))
    (cases_lt (suc n) half)
quotient-fits (negsuc n) (negsuc (suc d)) half fits none =
    let parts = div-add-mod' (suc n) (suc (suc d)) in
    let twice : suc n / suc (suc d) * 2 ≤ suc n / suc (suc d) * suc (suc d) = mul-le-mul_left (suc n / suc (suc d)) (omega arith) in
    omega arith

-- a remainder has the dividend's sign, or is zero
remainder-sign : (a b : ℤ) → (int_rem a b ≡ pos 0) ⊎ (is_negative (int_rem a b) ≡ is_negative a)
remainder-sign (pos n) b = inr (le-ltb (n % unsigned_abs b) 0 (omega arith) ∙ sym (le-ltb n 0 (omega arith)))
remainder-sign (negsuc n) b = negative (suc n % unsigned_abs b)
  where
    negative : (k : ℕ) → (neg_ℤ (pos k) ≡ pos 0) ⊎ (is_negative (neg_ℤ (pos k)) ≡ true)
    negative zero = inl refl
    negative (suc k) = inr refl

-- a number other than 0 is no signed 0
signed-some : (width n : ℕ) → n < 2 ^ width → n ≢ 0 → 0 < unsigned_abs (signed width n)
signed-some width n fits some = by (signed width n) refl
  where
    by : (z : ℤ) → signed width n ≡ z → 0 < unsigned_abs z
    by (pos zero) same = absurd (some (sym (wrapped-signed width n fits) ∙ ap (wrapped width) same ∙ mod-eq_of_lt (pow_pos width)))
    by (pos (suc k)) same = omega arith
    by (negsuc k) same = omega arith

module _ (width a b : ℕ) (bits : 0 < width) (first : a < 2 ^ width) (second : b < 2 ^ width) (some : b ≢ 0) (plain : overflows width a b ≡ false) where
  -- it is not the overflow
  apart : signed width a ≡ negsuc (2 ^ (width - 1) - 1) → signed width b ≡ negsuc 0 → ⊥
  apart least ones =
      let twice = modulus-twice width bits in
      let half = pow_pos (width - 1) in
      let rest : (2 ^ (width - 1) - 1) % 2 ^ width ≡ 2 ^ (width - 1) - 1 = mod-eq_of_lt (omega arith) in
      let none : 0 % 2 ^ width ≡ 0 = mod-eq_of_lt (omega arith) in
      let at_a : a ≡ 2 ^ (width - 1) = sym (wrapped-signed width a first) ∙ ap (wrapped width) least ∙ omega arith in
      let at_b : b ≡ 2 ^ width - 1 = sym (wrapped-signed width b second) ∙ ap (wrapped width) ones ∙ omega arith in
      false≢true (sym plain ∙ and_from _ _ (eq-eqb _ _ at_a) (eq-eqb _ _ at_b))

  -- so the quotient is that of the signed integers
  quotient-signed : signed width (quotient width a b) ≡ int_div (signed width a) (signed width b)
  quotient-signed =
      ap (signed width) (quotient-plain width a b some plain)
      ∙ signed-wrapped width (int_div (signed width a) (signed width b)) bits (quotient-fits (signed width a) (signed width b) (2 ^ (width - 1)) (signed-fits width a bits first) apart)

  -- and the remainder
  remainder-signed : signed width (remainder width a b) ≡ int_rem (signed width a) (signed width b)
  remainder-signed =
      let within = signed-fits width a bits first in
      ap (signed width) (remainder-plain width a b some plain)
      ∙ signed-wrapped width (int_rem (signed width a) (signed width b)) bits (omega (arith, mag_rem (signed width a) (signed width b)))

  -- and the two divide
  pub divides : Divides width a b (quotient width a b) (remainder width a b)
  divides = record {
    whole = rw (quotient-signed, remainder-signed) (sym (quot-rem (signed width a) (signed width b)));
    small = rw remainder-signed (rem_below (signed width a) (signed width b) (signed-some width b second some));
    sign = rw remainder-signed (remainder-sign (signed width a) (signed width b));
  }

-- the same of unsigned integers
pub divides-unsigned : (width a b : ℕ) → b ≢ 0 → DividesUnsigned a b (unsigned_quotient width a b) (unsigned_remainder width a b)
divides-unsigned width a b some =
    let none : eqb b 0 ≡ false = ne_eqb b 0 some in
    let at_q : unsigned_quotient width a b ≡ a / b = cond-false _ _ _ none in
    let at_r : unsigned_remainder width a b ≡ a % b = cond-false _ _ _ none in
    record {
      whole = rw (at_q, at_r) (sym (div-add-mod' a b));
      small = rw at_r (mod_below a b (pos_of_ne-zero some));
    }

-- what a row of 32 bits takes
below-32 : (n : ℕ) → n % 2 ^ 32 < 2 ^ 32
below-32 n = mod_below n (2 ^ 32) (pow_pos 32)

-- so the rows of 32 bits divide
divides-words : (a b : ℕ) → b % 2 ^ 32 ≢ 0 → overflows 32 (a % 2 ^ 32) (b % 2 ^ 32) ≡ false
    → Divides 32 (a % 2 ^ 32) (b % 2 ^ 32) (reg_value reg.Divw a b % 2 ^ 32) (reg_value reg.Remw a b % 2 ^ 32)
divides-words a b some plain =
    let at_q = reg_value-low reg.Divw a b refl in
    let at_r = reg_value-low reg.Remw a b refl in
    rw (at_q, at_r) (divides 32 (a % 2 ^ 32) (b % 2 ^ 32) (omega arith) (below-32 a) (below-32 b) some plain)

-- so do those of unsigned integers
divides-unsigned_words : (a b : ℕ) → b % 2 ^ 32 ≢ 0 → DividesUnsigned (a % 2 ^ 32) (b % 2 ^ 32) (reg_value reg.Divuw a b % 2 ^ 32) (reg_value reg.Remuw a b % 2 ^ 32)
divides-unsigned_words a b some =
    let at_q = reg_value-low reg.Divuw a b refl in
    let at_r = reg_value-low reg.Remuw a b refl in
    rw (at_q, at_r) (divides-unsigned 32 (a % 2 ^ 32) (b % 2 ^ 32) some)

-- by zero
by-zero_words : (a b : ℕ) → b % 2 ^ 32 ≡ 0 → (reg_value reg.Divw a b ≡ 2 ^ 64 - 1) × (reg_value reg.Divuw a b ≡ 2 ^ 64 - 1) × (reg_value reg.Remw a b ≡ extended (a % 2 ^ 32)) × (reg_value reg.Remuw a b ≡ extended (a % 2 ^ 32))
by-zero_words a b none = rw none (refl, refl, refl, refl)

-- the law
pub divisions-exact : DivisionsAreExact
divisions-exact = record {
  signed = λ a b fits_a fits_b. divides 64 a b (omega arith) fits_a fits_b;
  unsigned = λ a b _ _. divides-unsigned 64 a b;
  by_zero = λ a _. (refl, refl, refl, refl);
  overflow = (refl, refl);
  words = divides-words;
  unsigned_words = divides-unsigned_words;
  words_by_zero = by-zero_words;
  words_overflow = (refl, refl);
}
