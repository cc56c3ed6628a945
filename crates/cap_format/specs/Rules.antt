-- Rules in order. A file is at fault by the first one that fails.
use Rattle.std.specs.Prelude.{◌≡◌, ℕ, Bool, true, false, if◌then◌else◌, Option, Some, None, List, [], ◌∷◌, ◌++◌}
use Rattle.cap_format.specs.declared.image.ImageReason.{ImageReason}
use Rattle.cap_format.specs.declared.image.ImageFault.{ImageFault}

infix 5 want◌else◌at◌
-- what has to hold, and the reason and the place of the fault where it doesn't
pub record Rule : Type 0 where
  pub holds : Bool
  pub reason : ImageReason
  pub place : ℕ

abbrev pub want◌else◌at◌ : Bool → ImageReason → ℕ → Rule
want holds else reason at place = record { holds = holds; reason = reason; place = place }

-- the fault of a rule that fails
abbrev pub fault_by : Rule → ImageFault
fault_by rule = record { reason = rule.reason; place = rule.place }

-- every rule holds
abbrev pub AllHold : List Rule → Type 0
AllHold [] = Unit {0}
AllHold (rule ∷ rules) = (rule.holds ≡ true) × AllHold rules

-- the fault of the first rule that fails, if one does
abbrev pub first_fault : List Rule → Option ImageFault
first_fault [] = None
first_fault (rule ∷ rules) = if rule.holds then first_fault rules else Some (fault_by rule)

-- There is no fault exactly where every rule holds. Behind rules that hold the fault is that of the rules that come after them,
-- and of a rule that fails it is its own, whatever comes after it.
pub record FirstFaultsDecide : Type 0 where
  pub none : (rules : List Rule) → AllHold rules → first_fault rules ≡ None
  pub all : (rules : List Rule) → first_fault rules ≡ None → AllHold rules
  pub behind : (before after : List Rule) → AllHold before → first_fault (before ++ after) ≡ first_fault after
  pub first : (rule : Rule) (after : List Rule) → rule.holds ≡ false → first_fault (rule ∷ after) ≡ Some (fault_by rule)
