-- Which block of a window a base lies in, over plain numbers: a block has `size` bytes, and a window has eight.
use Rattle.std.proofs.Common.{◌≡◌, ℕ, ◌+◌, ◌*◌, ◌/◌, ◌%◌, ◌<◌, ◌≤◌, refl, ap, sym, ◌∙◌, arith}
use Rattle.std.specs.Prelude.{ℤ, pos, ◌+ℤ◌, ◌-ℤ◌, ◌≤ℤ◌, ◌<ℤ◌}
use Rattle.std.specs.Int.{int_rem_euclid}
use Rattle.std.specs.Int.RustNames.{unsigned_abs}
use Rattle.std.proofs.lemmas.Int.{ints, int_rem_euclid_is}
use Rattle.std.proofs.lemmas.Nat.{mod-mul-add, div-add-mod', mod_below}
use Rattle.std.proofs.Math.Nat.{mul-le-mul_right, le-mul_of_pos_right, lt_of_mul-lt-mul_right}
use Rattle.cap_format.specs.Pattern.{rounded_down}

-- six more than the number of the base's block: the least number from `block` on that is `high + 6` modulo 8
abbrev pub place : ℕ → ℕ → ℕ
place block high = block + (high + 6 + 7 * block) % 8

-- the place is no further than seven blocks on
pub place-near : (block high : ℕ) → (block ≤ place block high) × (place block high ≤ block + 7)
place-near block high = (omega arith, omega arith)

-- the place is `high + 6` up to whole windows
pub place-congruent : (block high : ℕ) → place block high + 8 * ((high + 6 + 7 * block) / 8) ≡ high + 6 + 8 * block
place-congruent block high = omega arith

-- no other number so near is congruent to it
pub place-only : (block high windows n : ℕ) → block + 8 * windows ≤ 8 * n + high + 6 → 8 * n + high ≤ block + 8 * windows + 1 → 8 * n + high + 6 ≡ place block high + 8 * windows
place-only block high windows n p q = omega arith

-- the place is in the next window where the block is its window's last and B's is the first
pub place-after : (block high : ℕ) → high ≡ 0 → block % 8 ≡ 7 → place block high ≡ 8 * (block / 8) + high + 14
place-after block high p q = omega arith

-- it is in the window before where B's block is more than one further on than the address's
pub place-before : (block high : ℕ) → high < 8 → block % 8 + 1 < high → place block high + 2 ≡ 8 * (block / 8) + high
place-before block high p q = omega arith

-- otherwise it is in the address's own window
pub place-same : (block high : ℕ) → high ≤ block % 8 + 1 → block % 8 < high + 7 → place block high ≡ 8 * (block / 8) + high + 6
place-same block high p q = omega arith

-- a number less than whole blocks, with less than a block added, keeps that remainder modulo a block
pub remainder-block : (size offset : ℕ) → offset < size → (base : ℤ) (windows n : ℕ) → base +ℤ pos (windows * (size * 8)) ≡ pos (n * size + offset) → int_rem_euclid base (pos size) ≡ pos offset
remainder-block size offset short base windows n e =
    int_rem_euclid_is base (pos size) size (windows * 8) (n * size + offset) (omega arith) refl (omega (arith, ints, e))
    ∙ ap pos (mod-mul-add n size offset short)

-- high blocks and less than a block lie in a window
pub within-window : (size high offset : ℕ) → offset < size → high < 8 → high * size + offset < size * 8
within-window size high offset short small =
    let most : high * size ≤ 7 * size = mul-le-mul_right {m = high} {n = 7} size (omega arith) in
    omega arith

-- likewise modulo a window
pub remainder-window : (size high offset : ℕ) → offset < size → high < 8 → (base : ℤ) (windows n : ℕ) → base +ℤ pos (windows * (size * 8)) ≡ pos ((8 * n + high) * size + offset) → int_rem_euclid base (pos (size * 8)) ≡ pos (high * size + offset)
remainder-window size high offset short small base windows n e =
    int_rem_euclid_is base (pos (size * 8)) (size * 8) windows (n * (size * 8) + (high * size + offset)) (omega arith) refl (omega (arith, ints, e))
    ∙ ap pos (mod-mul-add n (size * 8) (high * size + offset) (within-window size high offset short small))

-- a natural number is one integer
pos-injective : {m n : ℕ} → pos m ≡ pos n → m ≡ n
pos-injective e = cc

-- an integer plus no less than its size is a natural number
pub natural-above : (z : ℤ) (k : ℕ) → unsigned_abs z ≤ k → (m : ℕ) × (z +ℤ pos k ≡ pos m)
natural-above z k h = (unsigned_abs (z +ℤ pos k), omega (arith, ints))

-- where a number's window begins, and that it holds the address
pub record InWindow (size address : ℕ) (base : ℤ) : Type 0 where
  pub from : (rounded_down base size -ℤ pos size) ≤ℤ pos address
  pub to : pos address <ℤ ((rounded_down base size -ℤ pos size) +ℤ pos (size * 8))

module _ (size high offset address : ℕ) (some : 0 < size) (short : offset < size) (small : high < 8) where
  -- the base that stands at the place
  abbrev pub placed : ℤ
  placed = pos (place (address / size) high * size + offset) -ℤ pos (6 * size)

  -- up to whole windows it lies in the block `high` of a window
  pub placed-congruent : placed +ℤ pos ((high + 6 + 7 * (address / size)) / 8 * (size * 8)) ≡ pos ((8 * (address / size) + high) * size + offset)
  placed-congruent =
      let e = ap (λ x. x * size) (place-congruent (address / size) high) in
      omega (arith, ints, e)

  -- its remainder modulo a window is that of B
  pub placed-remainder : int_rem_euclid placed (pos (size * 8)) ≡ pos (high * size + offset)
  placed-remainder = remainder-window size high offset short small placed _ _ placed-congruent

  -- its window holds the address
  pub placed-window : InWindow size address placed
  placed-window =
      let inside : int_rem_euclid placed (pos size) ≡ pos offset = remainder-block size offset short placed ((high + 6 + 7 * (address / size)) / 8) (8 * (address / size) + high) placed-congruent in
      let parts : address / size * size + address % size ≡ address = div-add-mod' address size in
      let rest : address % size < size = mod_below address size some in
      let least : address / size * size ≤ place (address / size) high * size = mul-le-mul_right size (place-near (address / size) high).0 in
      let most : place (address / size) high * size ≤ (address / size + 7) * size = mul-le-mul_right size (place-near (address / size) high).1 in
      record { from = rw inside (omega (arith, ints)); to = rw inside (omega (arith, ints)) }

  -- a number with these two properties is that base
  pub placed-only : (base : ℤ) → int_rem_euclid base (pos (size * 8)) ≡ pos (high * size + offset) → InWindow size address base → base ≡ placed
  placed-only base congruent window =
      let windows = unsigned_abs base in
      let enough : windows ≤ windows * (size * 8) = le-mul_of_pos_right {m = size * 8} windows (omega arith) in
      let (m, lifted) = natural-above base (windows * (size * 8)) enough in
      let remains : int_rem_euclid base (pos (size * 8)) ≡ pos (m % (size * 8)) = int_rem_euclid_is base (pos (size * 8)) (size * 8) windows m (omega arith) refl lifted in
      let n = m / (size * 8) in
      let parts : n * (size * 8) + m % (size * 8) ≡ m = div-add-mod' m (size * 8) in
      let same : m % (size * 8) ≡ high * size + offset = pos-injective (sym remains ∙ congruent) in
      let split : m ≡ (8 * n + high) * size + offset = omega arith in
      let e : base +ℤ pos (windows * (size * 8)) ≡ pos ((8 * n + high) * size + offset) = lifted ∙ ap pos split in
      let inside : int_rem_euclid base (pos size) ≡ pos offset = remainder-block size offset short base windows (8 * n + high) e in
      let from = rw inside at window.from in
      let to = rw inside at window.to in
      let address_parts : address / size * size + address % size ≡ address = div-add-mod' address size in
      let rest : address % size < size = mod_below address size some in
      let low : (address / size + 8 * windows) * size < (8 * n + high + 7) * size = omega (arith, ints, e, from, to) in
      let high_end : (8 * n + high) * size < (address / size + 8 * windows + 2) * size = omega (arith, ints, e, from, to) in
      let least = lt_of_mul-lt-mul_right size {m = address / size + 8 * windows} {n = 8 * n + high + 7} low in
      let most = lt_of_mul-lt-mul_right size {m = 8 * n + high} {n = address / size + 8 * windows + 2} high_end in
      let only = place-only (address / size) high windows n (omega arith) (omega arith) in
      let scaled = ap (λ x. x * size) only in
      omega (arith, ints, e, scaled)

-- where another address lies no further past the base than six blocks, it has the same base
pub placed-same : (size high offset address : ℕ) (some : 0 < size) (short : offset < size) (small : high < 8) (other reach : ℕ) → reach ≤ 6 * size → placed size high offset address some short small ≤ℤ pos other → pos other ≤ℤ (placed size high offset address some short small +ℤ pos reach) → placed size high offset other some short small ≡ placed size high offset address some short small
placed-same size high offset address some short small other reach near from to =
    let base = placed size high offset address some short small in
    let inside : int_rem_euclid base (pos size) ≡ pos offset = remainder-block size offset short base ((high + 6 + 7 * (address / size)) / 8) (8 * (address / size) + high) (placed-congruent size high offset address some short small) in
    let window : InWindow size other base = record { from = rw inside (omega (arith, ints)); to = rw inside (omega (arith, ints)) } in
    sym (placed-only size high offset other some short small base (placed-remainder size high offset address some short small) window)
