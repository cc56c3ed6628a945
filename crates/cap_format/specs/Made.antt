-- Capabilities that are made, and those that an operation derives from another.
use Rattle.std.specs.Prelude.{ℕ, ◌+◌, ◌*◌, ◌^◌, ◌==◌, ◌&&◌, true, false}
use Rattle.std.specs.Ordering.{int_eq}
use Rattle.cap_format.specs.declared.cap.Cap.{Cap}
use Rattle.cap_format.specs.Numbers.{region_bytes}
use Rattle.cap_format.specs.Pattern.{kind_of, base_of, top_of, with_address_bits}
use Rattle.cap_format.specs.Region.{region_start}
use Rattle.cap_format.specs.SetBounds.{bounded}

-- all bits are zero, without a tag
abbrev pub null : Cap
null = record { bits = 0; tag = false }

-- an integer: the null capability with this address
abbrev pub from_int : ℕ → Cap
from_int value = record { bits = value; tag = false }

-- a plain capability with these permissions, this address, and bounds of so many bytes from there on
abbrev pub capability_of : ℕ → ℕ → ℕ → Cap
capability_of address size perms = record { bits = bounded (perms * 2 ^ 112 + address) size; tag = true }

-- The whole of a region: plain, with these permissions, and with the region's start as its address.
abbrev pub root : ℕ → ℕ → Cap
root region perms = capability_of (region_start region) region_bytes perms

-- another address: the tag is kept where it was set, the kind is 0, and base and top stay as they were
unfoldable pub with_address : Cap → ℕ → Cap
with_address cap address =
    let bits = with_address_bits cap.bits address in
    record { bits = bits; tag = cap.tag && (kind_of cap.bits == 0) && int_eq (base_of bits) (base_of cap.bits) && int_eq (top_of bits) (top_of cap.bits) }
