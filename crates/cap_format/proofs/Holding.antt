-- Rules that all hold, and the first one that fails.
use Rattle.std.proofs.Common.{◌≡◌, Bool, true, false, refl, List, [], ◌∷◌, ◌++◌, None, Some}
use Rattle.cap_format.specs.declared.image.ImageFault.{ImageFault}
use Rattle.cap_format.specs.Rules.{Rule, AllHold, fault_by, first_fault}

-- rules that hold are passed
pub holding-behind : (before after : List Rule) → AllHold before → first_fault (before ++ after) ≡ first_fault after
holding-behind [] after h = refl
holding-behind (rule ∷ before) after (here, there) = rw here (holding-behind before after there)

-- and have no fault
pub holding-none : (rules : List Rule) → AllHold rules → first_fault rules ≡ None
holding-none [] h = refl
holding-none (rule ∷ rules) (here, there) = rw here (holding-none rules there)

-- where there is no fault, no rule is broken
pub none-holding : (rules : List Rule) → first_fault rules ≡ None → AllHold rules
none-holding [] e = tt
none-holding (rule ∷ rules) e = by rule.holds refl e (none-holding rules)
  where
    by : (b : Bool) → rule.holds ≡ b → first_fault (rule ∷ rules) ≡ None → (first_fault rules ≡ None → AllHold rules) → AllHold (rule ∷ rules)
    by true h e k = (h, k (rw h at e))
    by false h e k = absurd (let none = rw h at e in cc)

-- the fault of a rule that fails is its own
pub failing-first : (rule : Rule) (after : List Rule) → rule.holds ≡ false → first_fault (rule ∷ after) ≡ Some (fault_by rule)
failing-first rule after h = rw h refl

-- and a fault of the first rules is that of all
pub failing-behind : (before after : List Rule) (fault : ImageFault) → first_fault before ≡ Some fault → first_fault (before ++ after) ≡ Some fault
failing-behind [] after fault e = absurd (cc)
failing-behind (rule ∷ before) after fault e = by rule.holds refl e (failing-behind before after fault)
  where
    by : (b : Bool) → rule.holds ≡ b → first_fault (rule ∷ before) ≡ Some fault → (first_fault before ≡ Some fault → first_fault (before ++ after) ≡ Some fault) → first_fault (rule ∷ (before ++ after)) ≡ Some fault
    by true h e k = rw h (k (rw h at e))
    by false h e k = rw h (rw h at e)

-- of rules that hold, so do those of each part
pub hold-left : (before after : List Rule) → AllHold (before ++ after) → AllHold before
hold-left [] after h = tt
hold-left (rule ∷ before) after (here, there) = (here, hold-left before after there)

pub hold-right : (before after : List Rule) → AllHold (before ++ after) → AllHold after
hold-right [] after h = h
hold-right (rule ∷ before) after (here, there) = hold-right before after there
