-- What a capability allows.
use Rattle.std.specs.Prelude.{ℕ, ◌+◌, ◌==◌, ◌&&◌, Bool, pos, int_le, bit_and}
use Rattle.cap_format.specs.Pattern.{perms_of, base_of, top_of}

-- it has the permission
abbrev pub allows : ℕ → ℕ → Bool
allows bits permission = bit_and (perms_of bits) permission == permission

-- so many bytes from the address lie within the bounds
abbrev pub holds : ℕ → ℕ → ℕ → Bool
holds bits address size = int_le (base_of bits) (pos address) && int_le (pos (address + size)) (top_of bits)
