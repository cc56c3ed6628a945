-- Each value has the bits of its row.
use Rattle.std.proofs.Common.{◌≡◌, ◌∙◌, ℕ, ◌+◌, ◌-◌, ◌*◌, ◌%◌, ◌^◌, ◌<◌, ⊎_elim, Bool, true, false, eqb, pos, negsuc, ◌*ℤ◌, refl, sym, ap, IsTrue, arith}
use Rattle.std.specs.Int.{int_div_euclid}
use Rattle.std.proofs.lemmas.Bool.{false≢true, cond_both, cases_lt}
use Rattle.std.proofs.lemmas.Nat.{mod_below, pow_pos, xor_lt, or_lt, and_le_l, shr_le}
use Rattle.std.proofs.Math.Nat.{div-le_self, mod-le, mod-eq_of_lt}
use Rattle.riscv_decode.specs.Words.{signed}
use Rattle.riscv_decode.specs.declared.instr.RegOp.{RegOp}
use Rattle.riscv_decode.specs.declared.instr.RegOp.TheVariants as reg
use Rattle.int_step.specs.Values.{truth, shifted_right, quotient, remainder, unsigned_quotient, unsigned_remainder, overflows, extended, reg_value}
use Rattle.int_step.specs.Words.{is_word_row, word_value}
use Rattle.int_step.proofs.Wrapped.{wrapped-below, signed-low, signed-negative}

-- what may pass an operand on
module _ (width a b : ℕ) (fits : a < 2 ^ width) where
  -- a shift to the right has so many bits
  shifted_right-below : shifted_right width a b < 2 ^ width
  shifted_right-below = omega (arith, shr_le a (b % width))

  -- a quotient has so many bits
  quotient-below : quotient width a b < 2 ^ width
  quotient-below = cond_both (eqb b 0) _ _ (λ n. n < 2 ^ width)
      (λ _. omega (arith, pow_pos width))
      (λ _. cond_both (overflows width a b) _ _ (λ n. n < 2 ^ width) (λ _. fits) (λ _. wrapped-below width _))

  -- a remainder has so many bits
  remainder-below : remainder width a b < 2 ^ width
  remainder-below = cond_both (eqb b 0) _ _ (λ n. n < 2 ^ width)
      (λ _. fits)
      (λ _. cond_both (overflows width a b) _ _ (λ n. n < 2 ^ width) (λ _. pow_pos width) (λ _. wrapped-below width _))

  -- an unsigned quotient has so many bits
  unsigned_quotient-below : unsigned_quotient width a b < 2 ^ width
  unsigned_quotient-below = cond_both (eqb b 0) _ _ (λ n. n < 2 ^ width) (λ _. omega (arith, pow_pos width)) (λ _. omega (arith, div-le_self a b))

  -- an unsigned remainder has so many bits
  unsigned_remainder-below : unsigned_remainder width a b < 2 ^ width
  unsigned_remainder-below = cond_both (eqb b 0) _ _ (λ n. n < 2 ^ width) (λ _. fits) (λ _. omega (arith, mod-le a b))

-- a truth value is 0 or 1
truth-below : (b : Bool) → truth b < 2 ^ 64
truth-below true = omega arith
truth-below false = omega arith

-- a row of 32 bits gives 32 bits before they are extended
pub word_value-below : (op : RegOp) (a b : ℕ) → a < 2 ^ 32 → word_value op a b < 2 ^ 32
word_value-below reg.Addw a b fits = mod_below (a + b) (2 ^ 32) (pow_pos 32)
word_value-below reg.Subw a b fits = wrapped-below 32 _
word_value-below reg.Sllw a b fits = mod_below (a * 2 ^ (b % 32)) (2 ^ 32) (pow_pos 32)
word_value-below reg.Srlw a b fits = shifted_right-below 32 a b fits
word_value-below reg.Sraw a b fits = wrapped-below 32 _
word_value-below reg.Mulw a b fits = mod_below (a * b) (2 ^ 32) (pow_pos 32)
word_value-below reg.Divw a b fits = quotient-below 32 a b fits
word_value-below reg.Divuw a b fits = unsigned_quotient-below 32 a b fits
word_value-below reg.Remw a b fits = remainder-below 32 a b fits
word_value-below reg.Remuw a b fits = unsigned_remainder-below 32 a b fits
word_value-below _ a b fits = pow_pos 32

-- and each value has 64 bits
pub reg_value-below : (op : RegOp) (a b : ℕ) → a < 2 ^ 64 → b < 2 ^ 64 → reg_value op a b < 2 ^ 64
reg_value-below reg.Add a b fits_a fits_b = mod_below (a + b) (2 ^ 64) (pow_pos 64)
reg_value-below reg.Sub a b fits_a fits_b = wrapped-below 64 _
reg_value-below reg.Sll a b fits_a fits_b = mod_below (a * 2 ^ (b % 64)) (2 ^ 64) (pow_pos 64)
reg_value-below reg.Slt a b fits_a fits_b = truth-below _
reg_value-below reg.Sltu a b fits_a fits_b = truth-below _
reg_value-below reg.Xor a b fits_a fits_b = xor_lt 64 a b fits_a fits_b
reg_value-below reg.Srl a b fits_a fits_b = shifted_right-below 64 a b fits_a
reg_value-below reg.Sra a b fits_a fits_b = wrapped-below 64 _
reg_value-below reg.Or a b fits_a fits_b = or_lt 64 a b fits_a fits_b
reg_value-below reg.And a b fits_a fits_b = omega (arith, and_le_l a b)
reg_value-below reg.Mul a b fits_a fits_b = mod_below (a * b) (2 ^ 64) (pow_pos 64)
reg_value-below reg.Mulh a b fits_a fits_b = wrapped-below 64 _
reg_value-below reg.Mulhsu a b fits_a fits_b = wrapped-below 64 _
reg_value-below reg.Mulhu a b fits_a fits_b = wrapped-below 64 (int_div_euclid (pos a *ℤ pos b) (pos (2 ^ 64)))
reg_value-below reg.Div a b fits_a fits_b = quotient-below 64 a b fits_a
reg_value-below reg.Divu a b fits_a fits_b = unsigned_quotient-below 64 a b fits_a
reg_value-below reg.Rem a b fits_a fits_b = remainder-below 64 a b fits_a
reg_value-below reg.Remu a b fits_a fits_b = unsigned_remainder-below 64 a b fits_a
reg_value-below reg.Addw a b fits_a fits_b = wrapped-below 64 _
reg_value-below reg.Subw a b fits_a fits_b = wrapped-below 64 _
reg_value-below reg.Sllw a b fits_a fits_b = wrapped-below 64 _
reg_value-below reg.Srlw a b fits_a fits_b = wrapped-below 64 _
reg_value-below reg.Sraw a b fits_a fits_b = wrapped-below 64 _
reg_value-below reg.Mulw a b fits_a fits_b = wrapped-below 64 _
reg_value-below reg.Divw a b fits_a fits_b = wrapped-below 64 _
reg_value-below reg.Divuw a b fits_a fits_b = wrapped-below 64 _
reg_value-below reg.Remw a b fits_a fits_b = wrapped-below 64 _
reg_value-below reg.Remuw a b fits_a fits_b = wrapped-below 64 _
reg_value-below _ a b fits_a fits_b = pow_pos 64

-- a row of 32 bits extends what it gives
pub reg_value-word : (op : RegOp) (a b : ℕ) → IsTrue (is_word_row op) → reg_value op a b ≡ extended (word_value op (a % 2 ^ 32) (b % 2 ^ 32))
reg_value-word reg.Addw a b is = refl
reg_value-word reg.Subw a b is = refl
reg_value-word reg.Sllw a b is = refl
reg_value-word reg.Srlw a b is = refl
reg_value-word reg.Sraw a b is = refl
reg_value-word reg.Mulw a b is = refl
reg_value-word reg.Divw a b is = refl
reg_value-word reg.Divuw a b is = refl
reg_value-word reg.Remw a b is = refl
reg_value-word reg.Remuw a b is = refl
reg_value-word _ a b is = absurd (false≢true is)

-- the low 32 bits of an extended number are the number
pub extended-low : (n : ℕ) → n < 2 ^ 32 → extended n % 2 ^ 32 ≡ n
extended-low n fits = ⊎_elim
    (λ low. let same : signed 32 n ≡ pos n = signed-low 32 n low in rw same (omega arith))
    (λ high. let same : signed 32 n ≡ negsuc (2 ^ 32 - 1 - n) = signed-negative 32 n high fits in rw same (omega arith))
    (cases_lt n (2 ^ 31))

-- the low 32 bits of the value of a row of 32 bits are what it extends
pub reg_value-low : (op : RegOp) (a b : ℕ) → IsTrue (is_word_row op) → reg_value op a b % 2 ^ 32 ≡ word_value op (a % 2 ^ 32) (b % 2 ^ 32)
reg_value-low op a b is = ap (λ n. n % 2 ^ 32) (reg_value-word op a b is) ∙ extended-low _ (word_value-below op (a % 2 ^ 32) (b % 2 ^ 32) (mod_below a (2 ^ 32) (pow_pos 32)))

-- so it is extended from them
pub reg_value-extended : (op : RegOp) (a b : ℕ) → IsTrue (is_word_row op) → reg_value op a b ≡ extended (reg_value op a b % 2 ^ 32)
reg_value-extended op a b is = reg_value-word op a b is ∙ sym (ap extended (reg_value-low op a b is))

-- and depends on the low 32 bits of the operands
pub reg_value-of_low : (op : RegOp) (a b : ℕ) → IsTrue (is_word_row op) → reg_value op (a % 2 ^ 32) (b % 2 ^ 32) ≡ reg_value op a b
reg_value-of_low op a b is =
    let first : a % 2 ^ 32 % 2 ^ 32 ≡ a % 2 ^ 32 = mod-eq_of_lt (mod_below a (2 ^ 32) (pow_pos 32)) in
    let second : b % 2 ^ 32 % 2 ^ 32 ≡ b % 2 ^ 32 = mod-eq_of_lt (mod_below b (2 ^ 32) (pow_pos 32)) in
    reg_value-word op (a % 2 ^ 32) (b % 2 ^ 32) is ∙ (λ i. extended (word_value op (first i) (second i))) ∙ sym (reg_value-word op a b is)
