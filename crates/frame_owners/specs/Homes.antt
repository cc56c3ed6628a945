-- Who has each frame: the region at which its capabilities point, and how many pages share it.
use Rattle.std.specs.Prelude.{ℕ, List, slice_index_or, slice_set}

pub record Owner : Type 0 where
  pub home : ℕ
  pub sharers : ℕ

-- nobody has the frame
abbrev pub nobody : Owner
nobody = record { home = 0; sharers = 0 }

abbrev pub owner : List Owner → ℕ → Owner
owner owners frame = slice_index_or owners frame nobody

abbrev pub with_owner : List Owner → ℕ → Owner → List Owner
with_owner owners frame o = slice_set owners frame o
