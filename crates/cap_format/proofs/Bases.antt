-- The base of a capability: that it is one, that there is no other, and which addresses keep it.
use Rattle.std.proofs.Common.{◌≡◌, ℕ, ◌==◌, Bool, true, false, cond, ◌+◌, ◌-◌, ◌*◌, ◌/◌, ◌%◌, ◌^◌, ◌<◌, ◌≤◌, refl, ap, sym, ◌∙◌, arith}
use Rattle.std.specs.Prelude.{ℤ, pos, ◌+ℤ◌, ◌-ℤ◌, ◌≤ℤ◌, ◌<ℤ◌}
use Rattle.std.specs.Int.{int_rem_euclid}
use Rattle.std.proofs.lemmas.Int.{ints}
use Rattle.std.proofs.lemmas.Bool.Decides.{nat_tests}
use Rattle.std.proofs.lemmas.Nat.{pow-add, pow_pos, pow_below, one_shl, shl_whole, shl_below, shr-shr, shr_high, mod_low, mod_below}
use Rattle.std.proofs.Math.Nat.{mul-le-mul_right, div-mul-le_self, mul-lt-mul_of_pos_right}
use Rattle.cap_format.specs.Pattern.{address_of, meta_of, exponent_of, bottom_mantissa_of, top_mantissa_of, bottom_field_of, top_field_of, internal_of, length_mantissa_of, span_of, length_of, base_at, base_of, top_of, IsBase, with_address_bits}
use Rattle.cap_format.proofs.Blocks.{place, place-near, place-after, place-before, place-same, placed-remainder, placed-window, placed-only, placed-same, InWindow}

-- a block has 2^11 units
pub block-size : (exponent : ℕ) → 2 ^ (exponent + 11) ≡ 2 ^ exponent * 2048
block-size exponent = pow-add 2 exponent 11

-- a window has eight blocks
pub window-size : (exponent : ℕ) → 2 ^ (exponent + 14) ≡ 2 ^ (exponent + 11) * 8
window-size exponent =
    let whole : 2 ^ (exponent + 14) ≡ 2 ^ exponent * 16384 = pow-add 2 exponent 14 in
    let block = block-size exponent in
    omega arith

-- a window has fewer than 2^78 bytes
pub window-short : (exponent : ℕ) → exponent < 64 → 2 ^ (exponent + 14) < 2 ^ 78
window-short exponent h = pow_below (exponent + 14) 78 (omega arith)

-- so the shift that makes its size loses no bits
pub window-shift : (exponent : ℕ) → exponent < 64 → 1 * 2 ^ (exponent + 14) % 2 ^ 128 ≡ 2 ^ (exponent + 14)
window-shift exponent h = one_shl (exponent + 14) 128 (omega arith)

-- B stands for fewer than 2^78 bytes
pub bottom-short : (exponent bottom : ℕ) → exponent < 64 → bottom < 2 ^ 14 → bottom * 2 ^ exponent < 2 ^ 78
bottom-short exponent bottom h small =
    let below : bottom * 2 ^ exponent < 2 ^ (14 + exponent) = shl_below bottom 14 exponent small in
    let limit : 2 ^ (14 + exponent) < 2 ^ 78 = pow_below (14 + exponent) 78 (omega arith) in
    omega arith

-- so the shift of B loses no bits
pub bottom-shift : (exponent bottom : ℕ) → exponent < 64 → bottom < 2 ^ 14 → bottom * 2 ^ exponent % 2 ^ 128 ≡ bottom * 2 ^ exponent
bottom-shift exponent bottom h small = shl_whole bottom 14 exponent 128 small (omega arith)

-- the number with the address's high bits and B's is below 2^79
pub nearest-short : (address exponent bottom : ℕ) → address < 2 ^ 64 → exponent < 64 → bottom < 2 ^ 14 → address / 2 ^ (exponent + 14) * 2 ^ (exponent + 14) + bottom * 2 ^ exponent < 2 ^ 79
nearest-short address exponent bottom whole h small =
    let most = div-mul-le_self address (2 ^ (exponent + 14)) in
    let offset = bottom-short exponent bottom h small in
    omega arith

-- the low bits of B stand for less than a block
pub offset-short : (exponent bottom : ℕ) → bottom % 2 ^ 11 * 2 ^ exponent < 2 ^ (exponent + 11)
offset-short exponent bottom =
    let below : bottom % 2048 * 2 ^ exponent < 2048 * 2 ^ exponent = mul-lt-mul_of_pos_right {m = bottom % 2048} {n = 2048} (omega arith) (pow_pos exponent) in
    let block = block-size exponent in
    omega arith

-- B stands for as many blocks as its top three bits say, and for its low bits
pub bottom-parts : (exponent bottom : ℕ) → bottom * 2 ^ exponent ≡ bottom / 2 ^ 11 * 2 ^ (exponent + 11) + bottom % 2 ^ 11 * 2 ^ exponent
bottom-parts exponent bottom =
    let parts : bottom ≡ bottom / 2048 * 2048 + bottom % 2048 = omega arith in
    let scaled = ap (λ x. x * 2 ^ exponent) parts in
    let block = ap (λ x. bottom / 2048 * x) (block-size exponent) in
    omega arith

-- the top three bits of B are below 8
pub high-small : (bottom : ℕ) → bottom < 2 ^ 14 → bottom / 2 ^ 11 < 8
high-small bottom h = omega arith

-- the base as a function has B for its remainder modulo a window
pub base_at-congruent : (address exponent bottom : ℕ) → bottom < 2 ^ 14 → int_rem_euclid (base_at address exponent bottom) (pos (2 ^ (exponent + 14))) ≡ pos (bottom * 2 ^ exponent)
base_at-congruent address exponent bottom small =
    rw (window-size exponent, bottom-parts exponent bottom)
    (placed-remainder (2 ^ (exponent + 11)) (bottom / 2 ^ 11) (bottom % 2 ^ 11 * 2 ^ exponent) address (pow_pos (exponent + 11)) (offset-short exponent bottom) (high-small bottom small))

-- the address lies in its window
pub base_at-window : (address exponent bottom : ℕ) → bottom < 2 ^ 14 → InWindow (2 ^ (exponent + 11)) address (base_at address exponent bottom)
base_at-window address exponent bottom small =
    placed-window (2 ^ (exponent + 11)) (bottom / 2 ^ 11) (bottom % 2 ^ 11 * 2 ^ exponent) address (pow_pos (exponent + 11)) (offset-short exponent bottom) (high-small bottom small)

-- and no other number has both
pub base_at-only : (address exponent bottom : ℕ) → bottom < 2 ^ 14 → (base : ℤ) → int_rem_euclid base (pos (2 ^ (exponent + 14))) ≡ pos (bottom * 2 ^ exponent) → InWindow (2 ^ (exponent + 11)) address base → base ≡ base_at address exponent bottom
base_at-only address exponent bottom small base congruent window =
    let by_blocks = rw (window-size exponent, bottom-parts exponent bottom) at congruent in
    placed-only (2 ^ (exponent + 11)) (bottom / 2 ^ 11) (bottom % 2 ^ 11 * 2 ^ exponent) address (pow_pos (exponent + 11)) (offset-short exponent bottom) (high-small bottom small) base by_blocks window

-- an address no further than six blocks past the base has the same base
pub base_at-same : (address exponent bottom : ℕ) → bottom < 2 ^ 14 → (other reach : ℕ) → reach ≤ 6 * 2 ^ (exponent + 11) → base_at address exponent bottom ≤ℤ pos other → pos other ≤ℤ (base_at address exponent bottom +ℤ pos reach) → base_at other exponent bottom ≡ base_at address exponent bottom
base_at-same address exponent bottom small other reach near from to =
    placed-same (2 ^ (exponent + 11)) (bottom / 2 ^ 11) (bottom % 2 ^ 11 * 2 ^ exponent) address (pow_pos (exponent + 11)) (offset-short exponent bottom) (high-small bottom small) other reach near from to

-- in blocks, the number with the address's high bits and B's lies in the block of B in the address's window
nearest-parts : (address exponent bottom : ℕ) → address / 2 ^ (exponent + 14) * 2 ^ (exponent + 14) + bottom * 2 ^ exponent ≡ (8 * (address / 2 ^ (exponent + 11) / 8) + bottom / 2 ^ 11) * 2 ^ (exponent + 11) + bottom % 2 ^ 11 * 2 ^ exponent
nearest-parts address exponent bottom =
    let twice : address / 2 ^ (exponent + 11) / 8 ≡ address / 2 ^ (exponent + 11 + 3) = shr-shr address (exponent + 11) 3 in
    let places : 2 ^ (exponent + 11 + 3) ≡ 2 ^ (exponent + 14) = ap (λ x. 2 ^ x) (omega arith) in
    let quotient : address / 2 ^ (exponent + 14) ≡ address / 2 ^ (exponent + 11) / 8 = sym (twice ∙ ap (λ x. address / x) places) in
    let scaled = ap (λ x. address / 2 ^ (exponent + 11) / 8 * x) (window-size exponent) in
    let bottom_is = bottom-parts exponent bottom in
    rw quotient (omega arith)

-- the base is that number one window on, where the address is in the last block and B in the first
pub base_at-after : (address exponent bottom : ℕ) → bottom / 2 ^ 11 ≡ 0 → address / 2 ^ (exponent + 11) % 8 ≡ 7 → pos (address / 2 ^ (exponent + 14) * 2 ^ (exponent + 14) + bottom * 2 ^ exponent) +ℤ pos (2 ^ (exponent + 14)) ≡ base_at address exponent bottom
base_at-after address exponent bottom first last =
    let parts = nearest-parts address exponent bottom in
    let window = window-size exponent in
    let scaled = ap (λ x. x * 2 ^ (exponent + 11)) (place-after (address / 2 ^ (exponent + 11)) (bottom / 2 ^ 11) first last) in
    omega (arith, ints, parts, window, scaled)

-- it is that number one window before, where B is more than one block past the address
pub base_at-before : (address exponent bottom : ℕ) → bottom < 2 ^ 14 → address / 2 ^ (exponent + 11) % 8 + 1 < bottom / 2 ^ 11 → pos (address / 2 ^ (exponent + 14) * 2 ^ (exponent + 14) + bottom * 2 ^ exponent) -ℤ pos (2 ^ (exponent + 14)) ≡ base_at address exponent bottom
base_at-before address exponent bottom small above =
    let parts = nearest-parts address exponent bottom in
    let window = window-size exponent in
    let scaled = ap (λ x. x * 2 ^ (exponent + 11)) (place-before (address / 2 ^ (exponent + 11)) (bottom / 2 ^ 11) (high-small bottom small) above) in
    omega (arith, ints, parts, window, scaled)

-- otherwise it is that number
pub base_at-nearest : (address exponent bottom : ℕ) → bottom / 2 ^ 11 ≤ address / 2 ^ (exponent + 11) % 8 + 1 → address / 2 ^ (exponent + 11) % 8 < bottom / 2 ^ 11 + 7 → pos (address / 2 ^ (exponent + 14) * 2 ^ (exponent + 14) + bottom * 2 ^ exponent) ≡ base_at address exponent bottom
base_at-nearest address exponent bottom near some =
    let parts = nearest-parts address exponent bottom in
    let scaled = ap (λ x. x * 2 ^ (exponent + 11)) (place-same (address / 2 ^ (exponent + 11)) (bottom / 2 ^ 11) near some) in
    omega (arith, ints, parts, scaled)

-- the base lies from 2^78 below zero on, and below 2^79
pub base_at-range : (address exponent bottom : ℕ) → address < 2 ^ 64 → exponent < 64 → (pos 0 ≤ℤ (base_at address exponent bottom +ℤ pos (2 ^ 78))) × (base_at address exponent bottom <ℤ pos (2 ^ 79))
base_at-range address exponent bottom whole h =
    let size = 2 ^ (exponent + 11) in
    let limit : size < 2 ^ 75 = pow_below (exponent + 11) 75 (omega arith) in
    let offset : bottom % 2 ^ 11 * 2 ^ exponent < size = offset-short exponent bottom in
    let start : address / size * size ≤ address = div-mul-le_self address size in
    let most : place (address / size) (bottom / 2 ^ 11) * size ≤ (address / size + 7) * size = mul-le-mul_right size (place-near (address / size) (bottom / 2 ^ 11)).1 in
    (omega (arith, ints), omega (arith, ints))

-- a field, or a field without its low three bits, is no larger than the field
masked-small : (plain : Bool) (field limit : ℕ) → field < limit → cond plain field (field - field % 8) < limit
masked-small plain field limit h = elim plain as (λ p. cond p field (field - field % 8) < limit) [ true ↦ h | false ↦ omega arith ]

-- B is below 2^14
pub bottom_mantissa-small : (bits : ℕ) → bottom_mantissa_of bits < 2 ^ 14
bottom_mantissa-small bits = masked-small (internal_of bits == 0) (bottom_field_of bits) 16384 (mod_below (meta_of bits / 2 ^ 0) 16384 (omega arith))

-- T is below 2^12
pub top_mantissa-small : (bits : ℕ) → top_mantissa_of bits < 2 ^ 12
top_mantissa-small bits = masked-small (internal_of bits == 0) (top_field_of bits) 4096 (mod_below (meta_of bits / 2 ^ 14) 4096 (omega arith))

-- the exponent is below 64
pub exponent-small : (bits : ℕ) → exponent_of bits < 64
exponent-small bits =
    let limit : (plain : Bool) (high low : ℕ) → cond plain 0 (8 * (high % 8) + low % 8) < 64 = λ plain high low. elim plain as (λ p. cond p 0 (8 * (high % 8) + low % 8) < 64) [ true ↦ omega arith | false ↦ omega arith ] in
    limit (internal_of bits == 0) (top_field_of bits) (bottom_field_of bits)

-- T less B, modulo 2^12, is below 2^12
pub span-small : (top bottom : ℕ) → top < 2 ^ 12 → span_of top bottom < 4096
span-small top bottom h = grind (arith, nat_tests)

-- L is below 2^13
pub length_mantissa-small : (bits : ℕ) → length_mantissa_of bits < 2 ^ 13
length_mantissa-small bits =
    let span = span-small (top_mantissa_of bits) (bottom_mantissa_of bits) (top_mantissa-small bits) in
    let internal : internal_of bits < 2 = mod_below (meta_of bits / 2 ^ 26) 2 (omega arith) in
    sum-small (span_of (top_mantissa_of bits) (bottom_mantissa_of bits)) (internal_of bits) span internal
  where
    sum-small : (span internal : ℕ) → span < 4096 → internal < 2 → span + 4096 * internal < 8192
    sum-small span internal p q = omega arith

-- a length is four blocks or less
scaled-short : (mantissa exponent : ℕ) → mantissa < 2 ^ 13 → mantissa * 2 ^ exponent ≤ 6 * 2 ^ (exponent + 11)
scaled-short mantissa exponent h =
    let most : mantissa * 2 ^ exponent ≤ 8192 * 2 ^ exponent = mul-le-mul_right {m = mantissa} {n = 8192} (2 ^ exponent) (omega arith) in
    let block = block-size exponent in
    omega arith

-- so is the length of a pattern, and six blocks are more
pub length-short : (bits : ℕ) → length_of bits ≤ 6 * 2 ^ (exponent_of bits + 11)
unfolding length_of
length-short bits = scaled-short (length_mantissa_of bits) (exponent_of bits) (length_mantissa-small bits)

-- the base of a pattern is one
pub base_of-is : (bits : ℕ) → IsBase bits (base_of bits)
unfolding base_of
base_of-is bits =
    let window = base_at-window (address_of bits) (exponent_of bits) (bottom_mantissa_of bits) (bottom_mantissa-small bits) in
    record {
      congruent = base_at-congruent (address_of bits) (exponent_of bits) (bottom_mantissa_of bits) (bottom_mantissa-small bits);
      from = window.from;
      to = rw (window-size (exponent_of bits)) window.to;
    }

-- and a pattern has no other
pub base_of-only : (bits : ℕ) (base : ℤ) → IsBase bits base → base ≡ base_of bits
unfolding base_of
base_of-only bits base is =
    base_at-only (address_of bits) (exponent_of bits) (bottom_mantissa_of bits) (bottom_mantissa-small bits) base is.congruent
    record { from = is.from; to = rw (window-size (exponent_of bits)) at is.to }

-- the base of a pattern lies from 2^78 below zero on, and below 2^79
pub base_of-range : (bits : ℕ) → (pos 0 ≤ℤ (base_of bits +ℤ pos (2 ^ 78))) × (base_of bits <ℤ pos (2 ^ 79))
unfolding base_of
base_of-range bits = base_at-range (address_of bits) (exponent_of bits) (bottom_mantissa_of bits) (mod_below bits (2 ^ 64) (omega arith)) (exponent-small bits)

-- a pattern with another address has that address
pub with_address-address : (bits address : ℕ) → address < 2 ^ 64 → address_of (with_address_bits bits address) ≡ address
with_address-address bits address h = mod_low (meta_of bits) 64 address h

-- its meta half is as it was
pub with_address-meta : (bits address : ℕ) → address < 2 ^ 64 → meta_of (with_address_bits bits address) ≡ meta_of bits
with_address-meta bits address h = shr_high (meta_of bits) 64 address h

-- its base is that of the same fields at the new address
pub with_address-base : (bits address : ℕ) → address < 2 ^ 64 → base_of (with_address_bits bits address) ≡ base_at address (exponent_of bits) (bottom_mantissa_of bits)
unfolding base_of
with_address-base bits address h = rw (with_address-meta bits address h, with_address-address bits address h) refl

-- its length is as it was
pub with_address-length : (bits address : ℕ) → address < 2 ^ 64 → length_of (with_address_bits bits address) ≡ length_of bits
unfolding length_of
with_address-length bits address h = rw (with_address-meta bits address h) refl

-- an address from the base to the top keeps the base
pub within-base : (bits address : ℕ) → address < 2 ^ 64 → base_of bits ≤ℤ pos address → pos address ≤ℤ top_of bits → base_of (with_address_bits bits address) ≡ base_of bits
unfolding base_of top_of
within-base bits address h from to =
    with_address-base bits address h
    ∙ base_at-same (address_of bits) (exponent_of bits) (bottom_mantissa_of bits) (bottom_mantissa-small bits) address (length_of bits) (length-short bits) from to

-- it keeps the top too
pub within-top : (bits address : ℕ) → address < 2 ^ 64 → base_of bits ≤ℤ pos address → pos address ≤ℤ top_of bits → top_of (with_address_bits bits address) ≡ top_of bits
unfolding top_of
within-top bits address h from to =
    let base = within-base bits address h from to in
    let length = with_address-length bits address h in
    rw (base, length) refl
