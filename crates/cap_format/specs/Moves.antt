-- A capability that moves from one region to another, and the laws of moves for regions of 2^s bytes, s from 12 to 24.
use Rattle.std.specs.Prelude.{◌≡◌, ℕ, ◌+◌, ◌*◌, ◌/◌, ◌^◌, ◌<◌, ◌≤◌, true, if◌then◌else◌, IsTrue, ℤ, pos, ◌+ℤ◌, ◌-ℤ◌, ◌*ℤ◌, ◌≤ℤ◌, unsigned_abs}
use Rattle.cap_format.specs.Numbers.{first_region, region_bytes, most_regions}
use Rattle.cap_format.specs.declared.cap.Cap.{Cap}
use Rattle.cap_format.specs.Pattern.{address_of, meta_of, internal_of, exponent_of, length_mantissa_of, length_of, base_of, top_of}
use Rattle.cap_format.specs.SetBounds.{bounds_bits}

-- the distance from one region to another, in bytes
abbrev pub distance : ℕ → ℕ → ℤ
distance from to = (pos to -ℤ pos from) *ℤ pos region_bytes

-- The other pattern has the same bits 63 to 27 of the meta half, the same exponent and the same length, and its address
-- and its base are so much greater.
pub record IsMove (bits : ℕ) (by : ℤ) (moved : ℕ) : Type 0 where
  pub pattern : moved < 2 ^ 128
  pub upper : meta_of moved / 2 ^ 27 ≡ meta_of bits / 2 ^ 27
  pub exponent : exponent_of moved ≡ exponent_of bits
  pub length : length_of moved ≡ length_of bits
  pub address : pos (address_of moved) ≡ (pos (address_of bits) +ℤ by)
  pub base : base_of moved ≡ (base_of bits +ℤ by)

-- the move as a function: B is the new base divided by 2^E, and T is L more
unfoldable pub moved_bits : ℕ → ℤ → ℕ
moved_bits bits by =
    let bottom = unsigned_abs (base_of bits +ℤ by) / 2 ^ exponent_of bits in
    (meta_of bits / 2 ^ 27 * 2 ^ 27 + bounds_bits (internal_of bits) (exponent_of bits) (bottom + length_mantissa_of bits) bottom) * 2 ^ 64
    + unsigned_abs (pos (address_of bits) +ℤ by)

-- an untagged capability moves to itself
abbrev pub moved_by : Cap → ℤ → Cap
moved_by cap by = if cap.tag then record { bits = moved_bits cap.bits by; tag = true } else cap

abbrev pub moved : Cap → ℕ → ℕ → Cap
moved cap from to = moved_by cap (distance from to)

-- The laws hold for regions of 2^s bytes, s from 12 to 24, of which there are up to `most_regions` from `first_region` on.
pub record IsRegionSize (s : ℕ) : Type 0 where
  pub least : 12 ≤ s
  pub most : s ≤ 24

-- the distance from one region of 2^s bytes to another, in bytes
abbrev pub distance_of : ℕ → ℕ → ℕ → ℤ
distance_of s from to = (pos to -ℤ pos from) *ℤ pos (2 ^ s)

-- base and top lie from the start to the end of a region of 2^s bytes
pub record IsInsideOf (s bits region : ℕ) : Type 0 where
  pub region_is : region < most_regions
  pub from : pos (first_region + region * 2 ^ s) ≤ℤ base_of bits
  pub to : top_of bits ≤ℤ pos (first_region + (region + 1) * 2 ^ s)

-- inside, where it is tagged
abbrev pub IsHeldIn : ℕ → Cap → ℕ → Type 0
IsHeldIn s cap region = IsTrue cap.tag → IsInsideOf s cap.bits region

-- the function gives the one pattern that is the move
abbrev pub EachMoveIsOne : Type 0
EachMoveIsOne = (s bits from to : ℕ) → IsRegionSize s → bits < 2 ^ 128 → to < most_regions → IsInsideOf s bits from
    → IsMove bits (distance_of s from to) (moved_bits bits (distance_of s from to))
    × ((moved : ℕ) → IsMove bits (distance_of s from to) moved → moved ≡ moved_bits bits (distance_of s from to))

-- a moved capability is inside the region that it went to
abbrev pub MovesGoInside : Type 0
MovesGoInside = (s bits from to : ℕ) → IsRegionSize s → bits < 2 ^ 128 → to < most_regions → IsInsideOf s bits from → IsInsideOf s (moved_bits bits (distance_of s from to)) to

-- a move to the same region changes nothing
abbrev pub MovesToItselfAreNone : Type 0
MovesToItselfAreNone = (s : ℕ) (cap : Cap) (region : ℕ) → IsRegionSize s → cap.bits < 2 ^ 128 → IsHeldIn s cap region → moved_by cap (distance_of s region region) ≡ cap

-- two moves are one move by the sum
abbrev pub TwoMovesAreOne : Type 0
TwoMovesAreOne = (s : ℕ) (cap : Cap) (from over to : ℕ) → IsRegionSize s → cap.bits < 2 ^ 128 → over < most_regions → to < most_regions → IsHeldIn s cap from
    → moved_by (moved_by cap (distance_of s from over)) (distance_of s over to) ≡ moved_by cap (distance_of s from to)
