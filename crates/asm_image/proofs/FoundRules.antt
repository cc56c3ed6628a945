-- What is found by rules, one list after another.
use Rattle.std.proofs.Common.{◌≡◌, refl, Option, List, [], ◌∷◌, ◌++◌}
use Rattle.asm_text.specs.declared.source.SourceFault.{SourceFault}
use Rattle.asm_image.specs.Faults.{LineRule, AllMet, noted, found_by}

-- What two lists of rules find is what the second finds behind the first.
pub found-append : (found : Option SourceFault) (a b : List LineRule) → found_by found (a ++ b) ≡ found_by (found_by found a) b
found-append found [] b = refl
found-append found (rule ∷ a) b = found-append (noted found rule) a b

-- Rules that hold find nothing.
pub found-met : (found : Option SourceFault) (rules : List LineRule) → AllMet rules → found_by found rules ≡ found
found-met found [] met = refl
found-met found (rule ∷ rules) (here, there) = rw here (found-met found rules there)
