-- The fields of a capability of 128 bits and the bounds that they stand for.
-- After CHERI Concentrate (CHERI ISA v9, "Compressed capabilities"), in a layout of this project's own.
use Rattle.std.specs.Prelude.{◌≡◌, ℕ, ◌+◌, ◌-◌, ◌*◌, ◌/◌, ◌%◌, ◌^◌, ◌<◌, ◌==◌, nat_lt, if◌then◌else◌, ℤ, pos, ◌+ℤ◌, ◌-ℤ◌, ◌≤ℤ◌, ◌<ℤ◌}
use Rattle.std.specs.Int.{int_rem_euclid}

-- the address: the low 64 bits
abbrev pub address_of : ℕ → ℕ
address_of bits = bits % 2 ^ 64

-- the meta half: the high 64 bits
abbrev pub meta_of : ℕ → ℕ
meta_of bits = bits / 2 ^ 64

-- so many bits of a number, from this one on
abbrev pub field : ℕ → ℕ → ℕ → ℕ
field n low width = n / 2 ^ low % 2 ^ width

-- the permissions: bits 63 to 48 of the meta half
abbrev pub perms_of : ℕ → ℕ
perms_of bits = field (meta_of bits) 48 16

-- the kind, 0 for a plain capability and 1 for a sealed entry: bits 44 to 27
abbrev pub kind_of : ℕ → ℕ
kind_of bits = field (meta_of bits) 27 18

-- whether the exponent stands in the low bits of T and B: bit 26
abbrev pub internal_of : ℕ → ℕ
internal_of bits = field (meta_of bits) 26 1

-- bits 25 to 14 and bits 13 to 0, as they stand
abbrev pub top_field_of : ℕ → ℕ
top_field_of bits = field (meta_of bits) 14 12

abbrev pub bottom_field_of : ℕ → ℕ
bottom_field_of bits = field (meta_of bits) 0 14

-- E: 0, or 8 times the low three bits of T plus the low three bits of B
abbrev pub exponent_of : ℕ → ℕ
exponent_of bits = if internal_of bits == 0 then 0 else 8 * (top_field_of bits % 8) + bottom_field_of bits % 8

-- T and B, in which the bits of an internal exponent count as zero
abbrev pub top_mantissa_of : ℕ → ℕ
top_mantissa_of bits = if internal_of bits == 0 then top_field_of bits else top_field_of bits - top_field_of bits % 8

abbrev pub bottom_mantissa_of : ℕ → ℕ
bottom_mantissa_of bits = if internal_of bits == 0 then bottom_field_of bits else bottom_field_of bits - bottom_field_of bits % 8

-- T less the low 12 bits of B, plus 4096 if that is negative
abbrev pub span_of : ℕ → ℕ → ℕ
span_of top bottom = if nat_lt top (bottom % 4096) then top + 4096 - bottom % 4096 else top - bottom % 4096

-- L: the span, plus 4096 where the exponent is internal
abbrev pub length_mantissa_of : ℕ → ℕ
length_mantissa_of bits = span_of (top_mantissa_of bits) (bottom_mantissa_of bits) + 4096 * internal_of bits

-- the length in bytes: L * 2^E
unfoldable pub length_of : ℕ → ℕ
length_of bits = length_mantissa_of bits * 2 ^ exponent_of bits

-- a number rounded down to a multiple
abbrev pub rounded_down : ℤ → ℕ → ℤ
rounded_down z multiple = z -ℤ int_rem_euclid z (pos multiple)

-- where the window of a base begins: at the base rounded down to a multiple of 2^(E+11), less 2^(E+11)
abbrev pub window_of : ℕ → ℤ → ℤ
window_of exponent base = rounded_down base (2 ^ (exponent + 11)) -ℤ pos (2 ^ (exponent + 11))

-- The base is congruent to B * 2^E modulo 2^(E+14), and the address lies in its window of 2^(E+14) bytes.
pub record IsBase (bits : ℕ) (base : ℤ) : Type 0 where
  pub congruent : int_rem_euclid base (pos (2 ^ (exponent_of bits + 14))) ≡ pos (bottom_mantissa_of bits * 2 ^ exponent_of bits)
  pub from : window_of (exponent_of bits) base ≤ℤ pos (address_of bits)
  pub to : pos (address_of bits) <ℤ (window_of (exponent_of bits) base +ℤ pos (2 ^ (exponent_of bits + 14)))

-- The base as a function. Of the blocks of 2^(E+11) bytes, from six below that of the address to one above it,
-- one has a number that is congruent to the top three bits of B modulo 8: the base lies in it.
abbrev pub base_at : ℕ → ℕ → ℕ → ℤ
base_at address exponent bottom =
    let size = 2 ^ (exponent + 11) in
    let block = address / size in
    pos ((block + (bottom / 2 ^ 11 + 6 + 7 * block) % 8) * size + bottom % 2 ^ 11 * 2 ^ exponent) -ℤ pos (6 * size)

unfoldable pub base_of : ℕ → ℤ
base_of bits = base_at (address_of bits) (exponent_of bits) (bottom_mantissa_of bits)

-- the top: the base plus the length
unfoldable pub top_of : ℕ → ℤ
top_of bits = base_of bits +ℤ pos (length_of bits)

-- the bits with this address
abbrev pub with_address_bits : ℕ → ℕ → ℕ
with_address_bits bits address = meta_of bits * 2 ^ 64 + address

-- for each pattern there is one base, which the function gives
abbrev pub EachHasOneBase : Type 0
EachHasOneBase = (bits : ℕ) → bits < 2 ^ 128 → IsBase bits (base_of bits) × ((base : ℤ) → IsBase bits base → base ≡ base_of bits)

-- where the new address lies from the base to the top, both bounds stay
abbrev pub KeepsBoundsWithin : Type 0
KeepsBoundsWithin = (bits address : ℕ) → bits < 2 ^ 128 → address < 2 ^ 64 → base_of bits ≤ℤ pos address → pos address ≤ℤ top_of bits
    → (base_of (with_address_bits bits address) ≡ base_of bits) × (top_of (with_address_bits bits address) ≡ top_of bits)
