-- Granules: 128 bits with a tag each, and the numbers and bytes in them.
-- After tagged memory of the CHERI ISA v9: one tag for each aligned granule of 16 bytes, kept out of band.
use Rattle.std.specs.Prelude.{◌≡◌, ℕ, zero, suc, ◌+◌, ◌*◌, ◌/◌, ◌%◌, ◌^◌, ◌⊎◌, false, Bool, List, [], ◌∷◌, slice_index_or, slice_set}
use Rattle.cap_format.specs.Numbers.{granule_bytes}
use Rattle.cap_format.specs.declared.cap.Cap.{Cap}
use Rattle.cap_format.specs.Made.{null}

-- a granule of a page or of a frame
abbrev pub granule : List Cap → ℕ → Cap
granule granules g = slice_index_or granules g null

-- 1, 2, 4 or 8 bytes
abbrev pub IsSize : ℕ → Type 0
IsSize size = (size ≡ 1) ⊎ ((size ≡ 2) ⊎ ((size ≡ 4) ⊎ (size ≡ 8)))

-- A number of so many bytes at a place, the lowest byte first: bits of the granule there. The place is a
-- multiple of the size, so it lies in one granule. Byte i of a granule is its bits 8*i to 8*i + 7.
abbrev pub number_at : List Cap → ℕ → ℕ → ℕ
number_at granules at size = (granule granules (at / granule_bytes)).bits / 2 ^ (8 * (at % granule_bytes)) % 2 ^ (8 * size)

-- a number with other bits from here on
abbrev pub with_bits : ℕ → ℕ → ℕ → ℕ → ℕ
with_bits n low width bits = n / 2 ^ (low + width) * 2 ^ (low + width) + bits % 2 ^ width * 2 ^ low + n % 2 ^ low

-- The low bytes of a number are stored, and the tag of their granule is cleared.
abbrev pub with_number : List Cap → ℕ → ℕ → ℕ → List Cap
with_number granules at size v =
    let g = at / granule_bytes in
    slice_set granules g (record { bits = with_bits (granule granules g).bits (8 * (at % granule_bytes)) (8 * size) v; tag = false })

-- so many bytes from a place on
abbrev pub bytes_at : List Cap → ℕ → ℕ → List ℕ
bytes_at granules at zero = []
bytes_at granules at (suc count) = number_at granules at 1 ∷ bytes_at granules (at + 1) count

-- bytes are stored from a place on, and the tags of the granules that they overlap are cleared
abbrev pub with_bytes : List Cap → ℕ → List ℕ → List Cap
with_bytes granules at [] = granules
with_bytes granules at (byte ∷ bytes) = with_bytes (with_number granules at 1 byte) (at + 1) bytes

abbrev pub is_tagged : List Cap → ℕ → Bool
is_tagged granules g = (granule granules g).tag
