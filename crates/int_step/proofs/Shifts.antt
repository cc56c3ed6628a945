-- Where a shift brings each bit.
use Rattle.std.proofs.Common.{◌≡◌, ◌∙◌, ⊎_elim, ℕ, ◌+◌, ◌-◌, ◌*◌, ◌/◌, ◌%◌, ◌^◌, ◌<◌, ◌≤◌, cond, ltb, pos, negsuc, refl, sym, ap, arith}
use Rattle.std.specs.Int.{w64, bit_at}
use Rattle.std.proofs.lemmas.Bool.{cases_lt, cond_below, cond_above}
use Rattle.std.proofs.lemmas.Nat.{pow_pos, field_of, shr-shr, shr_le}
use Rattle.std.proofs.lemmas.Nat.Bits.{bit_at-zero, bit_at_cat_low, bit_at_cat_high, bit_at_above, bit_at_not, bit_at-lt}
use Rattle.std.proofs.Math.Nat.{mod-eq_of_lt}
use Rattle.std.proofs.Math.Pow.{mod-mod-pow}
use Rattle.riscv_decode.specs.Words.{signed}
use Rattle.int_step.specs.Values.{shifted_left, shifted_right, shifted_signed}
use Rattle.int_step.specs.Laws.{ShiftsMoveBits}
use Rattle.int_step.proofs.Wrapped.{signed-low, signed-negative}

-- the low bits of a number are its bits
bit_at-mod : (n width i : ℕ) → i < width → bit_at (n % 2 ^ width) i ≡ bit_at n i
bit_at-mod n width i below =
    let rest : ℕ = width - 1 - i in
    let places : width ≡ rest + 1 + i = omega arith in
    ap (λ x. n % 2 ^ x / 2 ^ i % 2) places
    ∙ ap (λ x. x % 2) (field_of n (rest + 1) i)
    ∙ mod-mod-pow (n / 2 ^ i) rest 1

-- a shift to the left brings each bit up, and zeros in from below
bit_at-shl : (a k i : ℕ) → bit_at (a * 2 ^ k) i ≡ cond (ltb i k) 0 (bit_at a (i - k))
bit_at-shl a k i =
    let none : a * 2 ^ k + 0 ≡ a * 2 ^ k = omega arith in
    ap (λ x. bit_at x i) (sym none) ∙ ⊎_elim
    (λ low. bit_at_cat_low a k 0 i low ∙ bit_at-zero i ∙ cond_below i k 0 (bit_at a (i - k)) low)
    (λ high. cond_above i k 0 (bit_at a (i - k)) _ high (bit_at_cat_high a k 0 i (pow_pos k) high))
    (cases_lt i k)

-- a shift to the right brings each bit down
bit_at-shr : (a k i : ℕ) → bit_at (a / 2 ^ k) i ≡ bit_at a (i + k)
bit_at-shr a k i = let turned : k + i ≡ i + k = omega arith in ap (λ x. x % 2) (shr-shr a k i) ∙ ap (λ x. a / 2 ^ x % 2) turned

-- what comes in from above are the number's own bits there, or zeros
bit_at-shr_below : (a k i top : ℕ) → a < 2 ^ 64 → (64 ≤ i + k → 0 ≡ top) → bit_at (a / 2 ^ k) i ≡ cond (ltb (i + k) 64) (bit_at a (i + k)) top
bit_at-shr_below a k i top fits above = bit_at-shr a k i ∙ ⊎_elim
    (λ low. cond_below (i + k) 64 _ top low)
    (λ high. cond_above (i + k) 64 _ top _ high (bit_at_above a 64 (i + k) fits high ∙ above high))
    (cases_lt (i + k) 64)

-- a bit that is turned twice
turned-twice : (x y z : ℕ) → x ≡ y → y ≡ 1 - z → z < 2 → 1 - x ≡ z
turned-twice x y z same turned small = omega arith

module _ (a b i : ℕ) (fits : a < 2 ^ 64) (below : i < 64) where
  -- to the left
  moved-left : bit_at (shifted_left 64 a b) i ≡ cond (ltb i (b % 64)) 0 (bit_at a (i - b % 64))
  moved-left = bit_at-mod (a * 2 ^ (b % 64)) 64 i below ∙ bit_at-shl a (b % 64) i

  -- to the right
  moved-right : bit_at (shifted_right 64 a b) i ≡ cond (ltb (i + b % 64) 64) (bit_at a (i + b % 64)) 0
  moved-right = bit_at-shr_below a (b % 64) i 0 fits (λ _. refl)

  -- to the right with the sign: of a number whose highest bit is 0
  moved-positive : a < 2 ^ 63 → bit_at (shifted_signed 64 a b) i ≡ cond (ltb (i + b % 64) 64) (bit_at a (i + b % 64)) (bit_at a 63)
  moved-positive low =
      let same : signed 64 a ≡ pos a = signed-low 64 a low in
      let small : a / 2 ^ (b % 64) % 2 ^ 64 ≡ a / 2 ^ (b % 64) = mod-eq_of_lt (omega (arith, shr_le a (b % 64))) in
      rw (same, small) (bit_at-shr_below a (b % 64) i (bit_at a 63) fits (λ _. sym (bit_at_above a 63 63 low (omega arith))))

  -- and of one whose highest bit is 1
  module _ (high : 2 ^ 63 ≤ a) where
    -- the number turned
    flipped : ℕ
    flipped = 2 ^ 64 - 1 - a

    -- its highest bit is 0
    flipped-below : flipped < 2 ^ 63
    unfolding flipped
    flipped-below = omega arith

    -- and each of its bits is the other one
    bit_at-flipped : (j : ℕ) → j < 64 → bit_at flipped j ≡ 1 - bit_at a j
    unfolding flipped
    bit_at-flipped j within = bit_at_not w64 a j fits within

    -- what the shift gives is it, shifted and turned
    flipped-back : bit_at (shifted_signed 64 a b) i ≡ 1 - bit_at (flipped / 2 ^ (b % 64)) i
    unfolding flipped
    flipped-back =
        let same : signed 64 a ≡ negsuc (2 ^ 64 - 1 - a) = signed-negative 64 a high fits in
        let within : (2 ^ 64 - 1 - a) / 2 ^ (b % 64) < 2 ^ 64 = omega (arith, shr_le (2 ^ 64 - 1 - a) (b % 64)) in
        let small : (2 ^ 64 - 1 - a) / 2 ^ (b % 64) % 2 ^ 64 ≡ (2 ^ 64 - 1 - a) / 2 ^ (b % 64) = mod-eq_of_lt within in
        rw (same, small) (bit_at_not w64 ((2 ^ 64 - 1 - a) / 2 ^ (b % 64)) i within below)

    -- so each bit is the number's there, or its highest
    moved-negative : bit_at (shifted_signed 64 a b) i ≡ cond (ltb (i + b % 64) 64) (bit_at a (i + b % 64)) (bit_at a 63)
    moved-negative =
        let down = bit_at-shr flipped (b % 64) i in
        flipped-back ∙ ⊎_elim
        (λ inside. turned-twice _ _ _ down (bit_at-flipped (i + b % 64) inside) (bit_at-lt a (i + b % 64)) ∙ cond_below (i + b % 64) 64 (bit_at a (i + b % 64)) (bit_at a 63) inside)
        (λ outside. cond_above (i + b % 64) 64 (bit_at a (i + b % 64)) (bit_at a 63) _ outside
        (turned-twice _ _ _ (down ∙ bit_at_above flipped 63 (i + b % 64) flipped-below (omega arith) ∙ sym (bit_at_above flipped 63 63 flipped-below (omega arith))) (bit_at-flipped 63 (omega arith)) (bit_at-lt a 63)))
        (cases_lt (i + b % 64) 64)

  -- of either
  moved-signed : bit_at (shifted_signed 64 a b) i ≡ cond (ltb (i + b % 64) 64) (bit_at a (i + b % 64)) (bit_at a 63)
  moved-signed = ⊎_elim moved-positive moved-negative (cases_lt a (2 ^ 63))

-- the law
pub shifts-move : ShiftsMoveBits
shifts-move = record { left = moved-left; right = moved-right; with_sign = moved-signed }
