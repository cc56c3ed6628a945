-- Sealed entries and fewer permissions. After sealed entry capabilities of the CHERI ISA v9.
use Rattle.std.specs.Prelude.{ℕ, ◌+◌, ◌*◌, ◌/◌, ◌%◌, ◌^◌, ◌==◌, ◌&&◌, bit_and}
use Rattle.cap_format.specs.Numbers.{permit_execute}
use Rattle.cap_format.specs.declared.cap.Cap.{Cap}
use Rattle.cap_format.specs.Pattern.{perms_of, kind_of}
use Rattle.cap_format.specs.Rights.{allows}

-- the bits with other permissions, which are bits 127 to 112
abbrev pub with_perms_bits : ℕ → ℕ → ℕ
with_perms_bits bits perms = perms * 2 ^ 112 + bits % 2 ^ 112

-- the bits with another kind, which are bits 108 to 91
abbrev pub with_kind_bits : ℕ → ℕ → ℕ
with_kind_bits bits kind = bits / 2 ^ 109 * 2 ^ 109 + kind * 2 ^ 91 + bits % 2 ^ 91

-- The permissions that the mask has too. The tag is kept where it was set and the kind is 0.
unfoldable pub and_perms : Cap → ℕ → Cap
and_perms cap mask = record { bits = with_perms_bits cap.bits (bit_and (perms_of cap.bits) mask); tag = cap.tag && (kind_of cap.bits == 0) }

-- A sealed entry: its kind is 1. The tag is kept where it was set, the kind was 0, and it may execute.
unfoldable pub seal_entry : Cap → Cap
seal_entry cap = record { bits = with_kind_bits cap.bits 1; tag = cap.tag && ((kind_of cap.bits == 0) && allows cap.bits permit_execute) }

-- a plain capability again
unfoldable pub unseal_entry : Cap → Cap
unseal_entry cap = record { bits = with_kind_bits cap.bits 0; tag = cap.tag }
