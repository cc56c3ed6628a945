-- The limits and defaults of options, as this project fixes them.
use Rattle.std.specs.Prelude.{ℕ, ◌≡◌}
use Rattle.command_words.specs.declared.TheConstants as code

-- the numbers of frames, regions, slots and steps where no option says them
abbrev pub default_frames : ℕ
default_frames = 4096

abbrev pub default_regions : ℕ
default_regions = 16

abbrev pub default_slots : ℕ
default_slots = 16

abbrev pub default_steps : ℕ
default_steps = 20000000

-- each constant of the code is its number
pub record ConstantsAreFixed : Type 0 where
  pub frames : code.DEFAULT_FRAMES ≡ default_frames
  pub regions : code.DEFAULT_REGIONS ≡ default_regions
  pub slots : code.DEFAULT_SLOTS ≡ default_slots
  pub steps : code.DEFAULT_STEPS ≡ default_steps
