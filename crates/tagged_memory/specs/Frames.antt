-- Frames of physical memory: as many granules each as a page has.
use Rattle.std.specs.Prelude.{◌≡◌, ℕ, ◌^◌, ◌<◌, ◌≤◌, true, false, List, [], length, slice_index_or, slice_set, All}
use Rattle.cap_format.specs.Numbers.{page_granules}
use Rattle.cap_format.specs.declared.cap.Cap.{Cap}
use Rattle.machine_types.specs.Granules.{is_tagged}

-- the granules of a frame
abbrev pub frame : List (List Cap) → ℕ → List Cap
frame memory f = slice_index_or memory f []

-- another frame in its place; all others stay
abbrev pub with_frame : List (List Cap) → ℕ → List Cap → List (List Cap)
with_frame memory f granules = slice_set memory f granules

-- a frame has the granules of a page, each of them a pattern of 128 bits with a tag
pub record IsFrame (granules : List Cap) : Type 0 where
  pub whole : length granules ≡ page_granules
  pub patterns : All (λ cap. cap.bits < 2 ^ 128) granules

-- all that a memory has are frames
abbrev pub AreFrames : List (List Cap) → Type 0
AreFrames memory = (f : ℕ) → f < length memory → IsFrame (frame memory f)

-- it is tagged, and none before it is from the first on
pub record IsNextTag (granules : List Cap) (first g : ℕ) : Type 0 where
  pub from : first ≤ g
  pub below : g < page_granules
  pub tagged : is_tagged granules g ≡ true
  pub least : (k : ℕ) → first ≤ k → k < g → is_tagged granules k ≡ false
