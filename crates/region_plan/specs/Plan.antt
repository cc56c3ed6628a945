-- Which regions are taken, and where they lie.
use Rattle.std.specs.Prelude.{◌≡◌, ℕ, ◌<◌, ◌+◌, ◌*◌, Bool, true, false, List, length, slice_index_or, ℤ, pos, ◌-ℤ◌, ◌*ℤ◌}
use Rattle.region_plan.specs.Numbers.{first_region, region_bytes}

-- for each region whether it is taken
abbrev pub is_taken : List Bool → ℕ → Bool
is_taken plan region = slice_index_or plan region false

-- it is free, and each one below it is taken
pub record IsLowestFree (plan : List Bool) (region : ℕ) : Type 0 where
  pub below : region < length plan
  pub free : is_taken plan region ≡ false
  pub lowest : (k : ℕ) → k < region → is_taken plan k ≡ true

-- the first address of a region, and the distance from one to another
abbrev pub start_of : ℕ → ℕ
start_of region = first_region + region * region_bytes

abbrev pub distance_between : ℕ → ℕ → ℤ
distance_between from to = (pos to -ℤ pos from) *ℤ pos region_bytes
