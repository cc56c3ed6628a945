-- The rules that hold where a source has no fault.
use Rattle.std.proofs.Common.{◌≡◌, refl, Bool, true, false, Option, Some, None, List, [], ◌∷◌, ◌++◌}
use Rattle.asm_text.specs.declared.source.SourceFault.{SourceFault}
use Rattle.asm_image.specs.Faults.{LineRule, AllMet, lesser, fault_by, found_by, least_fault, or_else}

-- a fault stays a fault
stays-found : {P : Type 0} (fault : SourceFault) (rules : List LineRule) → found_by (Some fault) rules ≡ None → P
stays-found fault [] none = absurd (cc)
stays-found {P} fault (rule ∷ rules) none = by rule.holds refl none (λ other. stays-found other rules)
  where
    by : (b : Bool) → rule.holds ≡ b → found_by (Some fault) (rule ∷ rules) ≡ None → ((other : SourceFault) → found_by (Some other) rules ≡ None → P) → P
    by true holds none rest = rest fault (rw holds at none)
    by false fails none rest = rest (lesser (Some fault) (fault_by rule)) (rw fails at none)

-- Where no rule is at fault, all hold.
pub met : (rules : List LineRule) → least_fault rules ≡ None → AllMet rules
met [] none = tt
met (rule ∷ rules) none = by rule.holds refl none (met rules)
  where
    by : (b : Bool) → rule.holds ≡ b → least_fault (rule ∷ rules) ≡ None → (least_fault rules ≡ None → AllMet rules) → AllMet (rule ∷ rules)
    by true holds none rest = (holds, rest (rw holds at none))
    by false fails none rest = stays-found (fault_by rule) rules (rw fails at none)

-- Of two lists of rules each holds.
pub met-left : (a b : List LineRule) → AllMet (a ++ b) → AllMet a
met-left [] b all = tt
met-left (rule ∷ a) b (here, there) = (here, met-left a b there)

pub met-right : (a b : List LineRule) → AllMet (a ++ b) → AllMet b
met-right [] b all = all
met-right (rule ∷ a) b (here, there) = met-right a b there

-- Where passes have no fault, neither the first nor the later ones have.
pub none-first : (first later : Option SourceFault) → or_else first later ≡ None → first ≡ None
none-first None later none = refl
none-first (Some fault) later none = none

pub none-later : (first later : Option SourceFault) → or_else first later ≡ None → later ≡ None
none-later None later none = none
none-later (Some fault) later none = absurd (cc)
