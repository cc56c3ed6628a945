-- Granules that are kept as two lists.
use Rattle.std.proofs.Common.{◌≡◌, ℕ, zero, suc, ◌<◌, Bool, false, List, [], ◌∷◌, length, get_or, set, refl, ap, arith}
use Rattle.std.proofs.lemmas.Grind.{common_steps}
use Rattle.cap_format.specs.declared.cap.Cap.{Cap}
use Rattle.machine_types.specs.Granules.{granule}
use Rattle.tagged_memory.specs.Zipped.{zipped}

-- a granule has the bits and the tag at its place
pub granule-zipped : (words : List ℕ) (tags : List Bool) (g : ℕ) → g < length words → g < length tags → granule (zipped words tags) g ≡ record { bits = get_or words g 0; tag = get_or tags g false }
granule-zipped [] tags g in_words in_tags = absurd (grind (arith, common_steps))
granule-zipped (word ∷ words) [] g in_words in_tags = absurd (grind (arith, common_steps))
granule-zipped (word ∷ words) (tag ∷ tags) zero in_words in_tags = refl
granule-zipped (word ∷ words) (tag ∷ tags) (suc g) in_words in_tags = granule-zipped words tags g (omega arith) (omega arith)

-- bits and a tag that are put in one place are a granule that is put there
pub zipped-set : (words : List ℕ) (tags : List Bool) (g : ℕ) (cap : Cap) → zipped (set words g cap.bits) (set tags g cap.tag) ≡ set (zipped words tags) g cap
zipped-set [] tags g cap = refl
zipped-set (word ∷ words) [] zero cap = refl
zipped-set (word ∷ words) [] (suc g) cap = refl
zipped-set (word ∷ words) (tag ∷ tags) zero cap = refl
zipped-set (word ∷ words) (tag ∷ tags) (suc g) cap = ap (λ rest. record { bits = word; tag = tag } ∷ rest) (zipped-set words tags g cap)
