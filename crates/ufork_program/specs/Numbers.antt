-- The limit of the console's input, as this project fixes it. The code's constant is this.
use Rattle.std.specs.Prelude.{ℕ, ◌≡◌}
use Rattle.ufork_program.specs.declared.input.TheConstants as input

-- the most bytes that the console's input may have
abbrev pub most_input : ℕ
most_input = 1048576

-- the constant of the code is its number
pub record ConstantsAreFixed : Type 0 where
  pub most_bytes : input.MOST_INPUT ≡ most_input
