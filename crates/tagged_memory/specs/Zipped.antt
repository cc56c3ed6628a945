-- Granules that are kept as two lists, their bits and their tags.
use Rattle.std.specs.Prelude.{ℕ, Bool, List, [], ◌∷◌}
use Rattle.cap_format.specs.declared.cap.Cap.{Cap}

-- the granules of bits and tags, place by place
abbrev pub zipped : List ℕ → List Bool → List Cap
zipped [] tags = []
zipped (word ∷ words) [] = []
zipped (word ∷ words) (tag ∷ tags) = record { bits = word; tag = tag } ∷ zipped words tags
