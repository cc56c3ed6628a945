-- Numbers in a file, the lowest byte first (ELF64, System V ABI). A byte that isn't there counts as zero.
use Rattle.std.specs.Prelude.{ℕ, List, take, drop, get_or}
use Rattle.std.specs.Int.{w16, w32, w64, from_le_bytes}

-- the byte at a place
unfoldable pub byte_at : List ℕ → ℕ → ℕ
byte_at file place = get_or file place 0

-- the numbers of 2, 4 and 8 bytes from a place on
unfoldable pub u16_at : List ℕ → ℕ → ℕ
u16_at file place = from_le_bytes w16 (take 2 (drop place file))

unfoldable pub u32_at : List ℕ → ℕ → ℕ
u32_at file place = from_le_bytes w32 (take 4 (drop place file))

unfoldable pub u64_at : List ℕ → ℕ → ℕ
u64_at file place = from_le_bytes w64 (take 8 (drop place file))
