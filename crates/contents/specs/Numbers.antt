-- The limit of a transfer, as this project fixes it. The code's constant is this.
use Rattle.std.specs.Prelude.{ℕ, ◌≡◌}
use Rattle.contents.specs.declared.TheConstants as code

-- the most bytes of one transfer between the kernel and a store
abbrev pub most_transfer : ℕ
most_transfer = 4096

-- the constant of the code is its number
pub record ConstantsAreFixed : Type 0 where
  pub most_transfer_is : code.MOST_TRANSFER ≡ most_transfer
