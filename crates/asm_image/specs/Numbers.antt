-- The numbers of the assembler, as this project fixes them. The code's constants are these.
use Rattle.std.specs.Prelude.{ℕ, ◌≡◌}
use Rattle.asm_image.specs.declared.place.TheConstants as code

-- the most segments of a source
abbrev pub most_segments : ℕ
most_segments = 15

-- the bytes of an instruction
abbrev pub instruction_bytes : ℕ
instruction_bytes = 4

-- the greatest number of `.align`
abbrev pub most_alignment : ℕ
most_alignment = 4096

-- each constant of the code is its number
pub record ConstantsAreFixed : Type 0 where
  pub most_segments_is : code.MOST_SEGMENTS ≡ most_segments
  pub instruction_bytes_is : code.INSTRUCTION_BYTES ≡ instruction_bytes
  pub most_alignment_is : code.MOST_ALIGNMENT ≡ most_alignment
