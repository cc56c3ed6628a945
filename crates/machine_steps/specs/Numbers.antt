-- The limit of steps, as this project fixes it. The code's constant is this.
use Rattle.std.specs.Prelude.{ℕ, ◌≡◌, ◌^◌}
use Rattle.machine_steps.specs.declared.TheConstants as code

-- A machine steps while it has made fewer steps than this. There are at most as many forks as steps, so that ids stay below 2^63.
abbrev pub step_limit : ℕ
step_limit = 2 ^ 62

-- the constant of the code is its number
pub record ConstantsAreFixed : Type 0 where
  pub limit : code.STEP_LIMIT ≡ step_limit
