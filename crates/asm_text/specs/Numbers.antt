-- The limit of a source, as this project fixes it.
use Rattle.std.specs.Prelude.{ℕ, ◌≡◌}
use Rattle.asm_text.specs.declared.TheConstants as code

-- the most bytes of a source
abbrev pub source_bytes : ℕ
source_bytes = 1048576

-- the constant of the code is the number
pub record ConstantsAreFixed : Type 0 where
  pub bytes : code.SOURCE_BYTES ≡ source_bytes
