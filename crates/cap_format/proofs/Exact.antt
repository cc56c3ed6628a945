-- Whole units of 2^(E+3) bytes from a multiple of the unit on have exact bounds.
use Rattle.std.proofs.Common.{◌≡◌, ℕ, ◌+◌, ◌-◌, ◌/◌, ◌%◌, ◌^◌, ◌<◌, ◌≤◌, ap, sym, subst, ◌∙◌, arith}
use Rattle.std.proofs.lemmas.Nat.{pow_pos, pow_below, div-add-mod'}
use Rattle.std.proofs.Math.Nat.{pow-le-pow_right, zero-mod, add-mod-mod, mul-mod_left}
use Rattle.std.proofs.Math.Pow.{mod-mod-pow}
use Rattle.cap_format.specs.SetBounds.{down_to, up_to, low_end, high_end, bounded_base, bounded_top, exponent_for}
use Rattle.cap_format.proofs.Rounding.{pow-sum, up-above, up-keeps}
use Rattle.cap_format.proofs.Exponents.{exponent-is, least-at}
use Rattle.cap_format.proofs.Ends.{base-rounded, top-rounded}

-- a multiple stays as it is where it is rounded down
pub down-multiple : (n m : ℕ) → n % m ≡ 0 → down_to n m ≡ n
down-multiple n m whole =
    let parts = div-add-mod' n m in
    omega arith

-- and up
up-multiple : (n m : ℕ) → 0 < m → n % m ≡ 0 → up_to n m ≡ n
up-multiple n m some whole =
    let parts = div-add-mod' n m in
    let above = up-above n m some in
    let kept = up-keeps (n / m) 0 n m some (omega arith) in
    omega arith

-- two multiples add up to one
sum-multiple : (n k m : ℕ) → n % m ≡ 0 → k % m ≡ 0 → (n + k) % m ≡ 0
sum-multiple n k m first second =
    let none : n + 0 ≡ n = omega arith in
    sym (add-mod-mod n k m) ∙ ap (λ x. (n + x) % m) second ∙ ap (λ x. x % m) none ∙ first

-- a multiple of a power of two is one of each lesser power
pub multiple-finer : (n k l : ℕ) → k ≤ l → n % 2 ^ l ≡ 0 → n % 2 ^ k ≡ 0
multiple-finer n k l order whole =
    let places : 2 ^ (l - k + k) ≡ 2 ^ l = ap (λ x. 2 ^ x) (omega arith) in
    sym (mod-mod-pow n (l - k) k) ∙ ap (λ x. n % x % 2 ^ k) places ∙ ap (λ x. x % 2 ^ k) whole ∙ zero-mod (2 ^ k)

module _ (k address size : ℕ) (aligned : address % 2 ^ (k + 3) ≡ 0) (whole : size % 2 ^ (k + 3) ≡ 0) where
  -- the ends of whole units from a multiple of the unit on stay as they are
  ends-aligned : (low_end k address ≡ address) × (high_end k address size ≡ address + size)
  ends-aligned = (down-multiple address (2 ^ (k + 3)) aligned, up-multiple (address + size) (2 ^ (k + 3)) (pow_pos (k + 3)) (sum-multiple address size (2 ^ (k + 3)) aligned whole))

  module _ (small : k < 53) (long : 2 ^ (12 + k) ≤ size) (short : size < 2 ^ (k + 13)) where
    -- their exponent is the place of the size's top bit, less 12
    exponent-aligned : exponent_for address size ≡ k
    exponent-aligned =
        let ends = ends-aligned in
        exponent-is k address size small (least-at k address size long (omega (arith, ends.0, ends.1)))

    -- they are 4096 bytes or more
    size-aligned : 4096 ≤ size
    size-aligned = let power : 2 ^ 12 ≤ 2 ^ (12 + k) = pow-le-pow_right {n = 2} (omega arith) {i = 12} {j = 12 + k} (omega arith) in omega arith

    -- their base is the address
    pub base-aligned : bounded_base address size ≡ address
    base-aligned = base-rounded address size size-aligned ∙ ap (λ x. low_end x address) exponent-aligned ∙ ends-aligned.0

    -- and their top is their end
    pub top-aligned : bounded_top address size ≡ address + size
    top-aligned = top-rounded address size size-aligned ∙ ap (λ x. high_end x address size) exponent-aligned ∙ ends-aligned.1

-- the bounds of 2^s bytes from a multiple of 2^(s-9) on are exact, for s from 12 to 64
module _ (s address : ℕ) (least : 12 ≤ s) (most : s ≤ 64) (aligned : address % 2 ^ (s - 9) ≡ 0) where
  -- the start is a multiple of their unit
  power-unit : address % 2 ^ (s - 12 + 3) ≡ 0
  power-unit = let same : s - 9 ≡ s - 12 + 3 = omega arith in subst (λ x. address % 2 ^ x ≡ 0) same aligned

  -- so is their number
  power-whole : 2 ^ s % 2 ^ (s - 12 + 3) ≡ 0
  power-whole = ap (λ x. x % 2 ^ (s - 12 + 3)) (pow-sum s 9 (s - 12 + 3) (omega arith)) ∙ mul-mod_left (2 ^ 9) (2 ^ (s - 12 + 3))

  -- its top bit is its only one
  power-long : 2 ^ (12 + (s - 12)) ≤ 2 ^ s
  power-long = pow-le-pow_right {n = 2} (omega arith) {i = 12 + (s - 12)} {j = s} (omega arith)

  -- so it is short enough
  power-short : 2 ^ s < 2 ^ (s - 12 + 13)
  power-short = pow_below s (s - 12 + 13) (omega arith)

  -- their base is the address
  pub power-base : bounded_base address (2 ^ s) ≡ address
  power-base = base-aligned (s - 12) address (2 ^ s) power-unit power-whole (omega arith) power-long power-short

  -- and their top is their end
  pub power-top : bounded_top address (2 ^ s) ≡ address + 2 ^ s
  power-top = top-aligned (s - 12) address (2 ^ s) power-unit power-whole (omega arith) power-long power-short
