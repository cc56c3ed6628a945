-- The ends of new bounds, and the bits that say them, below 4096 bytes and from there on.
use Rattle.std.proofs.Common.{◌≡◌, ℕ, ◌+◌, ◌/◌, ◌^◌, ◌<◌, ◌≤◌}
use Rattle.std.proofs.lemmas.Bool.{cond-true, cond-false, lt-ltb, le-ltb}
use Rattle.cap_format.specs.SetBounds.{low_end, high_end, exponent_for, bounds_bits, bounds_for, bounded_base, bounded_top}

-- below 4096 bytes the base is the address
pub base-plain : (address size : ℕ) → size < 4096 → bounded_base address size ≡ address
unfolding bounded_base
base-plain address size h = cond-true _ _ _ (lt-ltb size 4096 h)

-- and the top is the end of the bytes
pub top-plain : (address size : ℕ) → size < 4096 → bounded_top address size ≡ address + size
unfolding bounded_top
top-plain address size h = cond-true _ _ _ (lt-ltb size 4096 h)

-- and no exponent stands in the bits
pub bits-plain : (address size : ℕ) → size < 4096 → bounds_for address size ≡ bounds_bits 0 0 (address + size) address
unfolding bounds_for
bits-plain address size h = cond-true _ _ _ (lt-ltb size 4096 h)

-- from 4096 bytes on the base is the low end
pub base-rounded : (address size : ℕ) → 4096 ≤ size → bounded_base address size ≡ low_end (exponent_for address size) address
unfolding bounded_base
base-rounded address size h = cond-false _ _ _ (le-ltb size 4096 h)

-- and the top is the high end
pub top-rounded : (address size : ℕ) → 4096 ≤ size → bounded_top address size ≡ high_end (exponent_for address size) address size
unfolding bounded_top
top-rounded address size h = cond-false _ _ _ (le-ltb size 4096 h)

-- and the exponent stands in the bits
pub bits-rounded : (address size : ℕ) → 4096 ≤ size → bounds_for address size ≡ bounds_bits 1 (exponent_for address size) (high_end (exponent_for address size) address size / 2 ^ exponent_for address size) (low_end (exponent_for address size) address / 2 ^ exponent_for address size)
unfolding bounds_for
bits-rounded address size h = cond-false _ _ _ (le-ltb size 4096 h)
