-- What the code reads of a string.
use Rattle.std.specs.Prelude.{◌≡◌, ℕ, ◌≤◌, List, ◌∷◌, drop, length}
use Rattle.asm_image.specs.Places.{said_by}

-- the first byte that the rest of a string says, and the number of bytes that say it
pub record SaysFirst (bytes : List ℕ) (byte taken : ℕ) : Type 0 where
  pub said : said_by bytes ≡ byte ∷ said_by (drop taken bytes)
  pub some : 1 ≤ taken
  pub within : taken ≤ length bytes
