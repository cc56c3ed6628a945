-- The limit of sharers, as this project fixes it. The code's constant is this.
use Rattle.std.specs.Prelude.{ℕ, ◌≡◌}
use Rattle.frame_owners.specs.declared.TheConstants as code

-- the most sharers of a frame that one more page may join
abbrev pub most_sharers : ℕ
most_sharers = 65535

-- the constant of the code is its number
pub record ConstantsAreFixed : Type 0 where
  pub most_sharers_is : code.MOST_SHARERS ≡ most_sharers
