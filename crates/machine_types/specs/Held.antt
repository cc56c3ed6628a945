-- What memory may hold.
use Rattle.std.specs.Prelude.{ℕ, ◌^◌, ◌<◌, IsTrue, List, All}
use Rattle.cap_format.specs.declared.cap.Cap.{Cap}
use Rattle.cap_format.specs.Region.{IsInside}

-- What may be stored in a frame with this home region, or in a page of a process in this region: a capability that is
-- inside the region where it is tagged.
abbrev pub MayHold : ℕ → Cap → Type 0
MayHold home cap = IsTrue cap.tag → IsInside cap.bits home

-- a granule of such a frame: a pattern, with a tag only where it is inside
pub record IsHeld (home : ℕ) (cap : Cap) : Type 0 where
  pub pattern : cap.bits < 2 ^ 128
  pub inside : MayHold home cap

abbrev pub AreHeld : ℕ → List Cap → Type 0
AreHeld home granules = All (IsHeld home) granules
