-- The regions of the address space, one for each process.
use Rattle.std.specs.Prelude.{ℕ, ◌+◌, ◌*◌, pos, ◌≤ℤ◌}
use Rattle.cap_format.specs.Numbers.{first_region, region_bytes}
use Rattle.cap_format.specs.Pattern.{base_of, top_of}

-- the first address of a region
abbrev pub region_start : ℕ → ℕ
region_start region = first_region + region * region_bytes

-- the base and the top lie from the region's start to its end, both counted
pub record IsInside (bits region : ℕ) : Type 0 where
  pub from : pos (region_start region) ≤ℤ base_of bits
  pub to : top_of bits ≤ℤ pos (region_start region + region_bytes)
