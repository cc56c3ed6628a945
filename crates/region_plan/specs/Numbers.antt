-- The numbers of regions, as this project fixes them. The code's constants are these.
use Rattle.std.specs.Prelude.{ℕ, ◌≡◌}
use Rattle.region_plan.specs.declared.TheConstants as code

-- the first address of region 0
abbrev pub first_region : ℕ
first_region = 4294967296

-- the bytes of a region
abbrev pub region_bytes : ℕ
region_bytes = 1048576

-- the most regions
abbrev pub most_regions : ℕ
most_regions = 64

-- each constant of the code is its number
pub record ConstantsAreFixed : Type 0 where
  pub first_region_is : code.FIRST_REGION ≡ first_region
  pub region_bytes_is : code.REGION_BYTES ≡ region_bytes
  pub most_regions_is : code.MOST_REGIONS ≡ most_regions
