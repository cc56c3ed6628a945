-- New bounds for a pattern, from its address on.
-- After CHERI Concentrate (CHERI ISA v9), with rules for the exponent that are this project's own.
use Rattle.std.specs.Prelude.{◌≡◌, ◌↔◌, ℕ, zero, suc, ◌+◌, ◌-◌, ◌*◌, ◌/◌, ◌%◌, ◌^◌, ◌<◌, ◌≤◌, ◌==◌, ◌&&◌, nat_lt, if◌then◌else◌, Bool, false, IsTrue, pos, bit_and}
use Rattle.cap_format.specs.declared.cap.Cap.{Cap}
use Rattle.cap_format.specs.declared.cap.Bounded.{Bounded}
use Rattle.cap_format.specs.Pattern.{address_of, meta_of, kind_of, base_of, top_of}
use Rattle.cap_format.specs.Rights.{holds}

-- a number rounded to a multiple
abbrev pub down_to : ℕ → ℕ → ℕ
down_to n multiple = n / multiple * multiple

abbrev pub up_to : ℕ → ℕ → ℕ
up_to n multiple = (n + (multiple - 1)) / multiple * multiple

-- the ends of the bytes from an address, rounded outwards to multiples of 2^(E+3)
abbrev pub low_end : ℕ → ℕ → ℕ
low_end exponent address = down_to address (2 ^ (exponent + 3))

abbrev pub high_end : ℕ → ℕ → ℕ → ℕ
high_end exponent address size = up_to (address + size) (2 ^ (exponent + 3))

-- The length of the rounded bounds is below 2^(E+13).
abbrev pub is_enough : ℕ → ℕ → ℕ → Bool
is_enough exponent address size = nat_lt (high_end exponent address size - low_end exponent address) (2 ^ (exponent + 13))

-- the first exponent from here on that is enough, among so many
unfoldable pub first_enough : ℕ → ℕ → ℕ → ℕ → ℕ
first_enough zero exponent address size = exponent
first_enough (suc more) exponent address size = if is_enough exponent address size then exponent else first_enough more (exponent + 1) address size

-- the exponent for the bounds of a size of 4096 or more: the least that is enough
abbrev pub exponent_for : ℕ → ℕ → ℕ
exponent_for address size = first_enough 53 0 address size

-- this exponent is enough, and no smaller one is
pub record IsLeastEnough (exponent address size : ℕ) : Type 0 where
  pub enough : high_end exponent address size - low_end exponent address < 2 ^ (exponent + 13)
  pub least : (e : ℕ) → e < exponent → 2 ^ (e + 13) ≤ high_end e address size - low_end e address

-- The bits 26 to 0 of the meta half: IE, T and B. Where IE is 1, the low three bits of T and B, which count as zero,
-- hold the exponent.
abbrev pub bounds_bits : ℕ → ℕ → ℕ → ℕ → ℕ
bounds_bits internal exponent top bottom = internal * 2 ^ 26 + (top % 2 ^ 12 + internal * (exponent / 8)) * 2 ^ 14 + (bottom % 2 ^ 14 + internal * (exponent % 8))

-- IE, T and B for the bytes from an address
unfoldable pub bounds_for : ℕ → ℕ → ℕ
bounds_for address size =
    if nat_lt size 4096 then bounds_bits 0 0 (address + size) address
    else (let exponent = exponent_for address size in
    bounds_bits 1 exponent (high_end exponent address size / 2 ^ exponent) (low_end exponent address / 2 ^ exponent))

-- the ends of those bounds
unfoldable pub bounded_base : ℕ → ℕ → ℕ
bounded_base address size = if nat_lt size 4096 then address else low_end (exponent_for address size) address

unfoldable pub bounded_top : ℕ → ℕ → ℕ
bounded_top address size = if nat_lt size 4096 then address + size else high_end (exponent_for address size) address size

-- the pattern with the address and the bits 63 to 27 of the meta half, and with bounds for the bytes from the address
abbrev pub bounded : ℕ → ℕ → ℕ
bounded bits size = (meta_of bits / 2 ^ 27 * 2 ^ 27 + bounds_for (address_of bits) size) * 2 ^ 64 + address_of bits

-- rounding changed neither end
abbrev pub is_exact : ℕ → ℕ → Bool
is_exact address size = (bounded_base address size == address) && (bounded_top address size == address + size)

-- The tag is kept where it was set, the kind is 0, and the bytes lie within the bounds.
unfoldable pub set_bounds : Cap → ℕ → Bounded
set_bounds cap size = record {
  cap = record { bits = bounded cap.bits size; tag = cap.tag && ((kind_of cap.bits == 0) && holds cap.bits (address_of cap.bits) size) };
  exact = is_exact (address_of cap.bits) size;
}

-- The size, which from 4096 on is rounded up to a multiple of 2^(E+3), with the exponent for so many bytes from 0 on.
abbrev pub exact_length : ℕ → ℕ
exact_length size = if nat_lt size 4096 then size else up_to size (2 ^ (exponent_for 0 size + 3))

-- the same modulo 2^64
abbrev pub rounded_length : ℕ → ℕ
rounded_length size = exact_length size % 2 ^ 64

-- the mask of the multiples of 2^(E+3), and below 4096 of all addresses
abbrev pub align_mask : ℕ → ℕ
align_mask size = if nat_lt size 4096 then 2 ^ 64 - 1 else 2 ^ 64 - 2 ^ (exponent_for 0 size + 3)

-- for each size from 4096 on that has 64 bits there is a least exponent that is enough, and it is below 53
abbrev pub EachHasLeastExponent : Type 0
EachHasLeastExponent = (address size : ℕ) → address < 2 ^ 64 → 4096 ≤ size → size < 2 ^ 64
    → IsLeastEnough (exponent_for address size) address size × (exponent_for address size < 53)

-- the address has no bit that the mask lacks
abbrev pub KeepsMask : ℕ → ℕ → Type 0
KeepsMask address mask = bit_and address mask ≡ address

-- From a pattern's address on the bounds of the exact length are just its bytes, and no shorter length from the size on
-- has exact bounds.
pub record HasExactLength (bits size : ℕ) : Type 0 where
  pub base : base_of (bounded bits (exact_length size)) ≡ pos (address_of bits)
  pub top : top_of (bounded bits (exact_length size)) ≡ pos (address_of bits + exact_length size)
  pub least : (length : ℕ) → size ≤ length → length < exact_length size → is_exact (address_of bits) length ≡ false

-- The rounded length is the exact length modulo 2^64. That is from the size to 2^64, and its bounds are exact just where
-- the address keeps the mask.
pub record RoundsExactly (bits size : ℕ) : Type 0 where
  pub rounded : rounded_length size ≡ exact_length size % 2 ^ 64
  pub from : size ≤ exact_length size
  pub to : exact_length size ≤ 2 ^ 64
  pub exact : IsTrue (is_exact (address_of bits) (exact_length size)) ↔ KeepsMask (address_of bits) (align_mask size)
  pub kept : KeepsMask (address_of bits) (align_mask size) → HasExactLength bits size

-- each size of 64 bits does, at the address of each pattern
abbrev pub RoundedLengthsAreExact : Type 0
RoundedLengthsAreExact = (bits size : ℕ) → size < 2 ^ 64 → RoundsExactly bits size
