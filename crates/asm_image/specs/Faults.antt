-- Faults of a source: the least one by its line and, on one line, by the order of the reasons.
use Rattle.std.specs.Prelude.{◌≡◌, ℕ, Bool, true, false, ◌==◌, ◌&&◌, ◌||◌, nat_lt, nat_le, if◌then◌else◌, Option, Some, None, List, [], ◌∷◌, All, Any}
use Rattle.asm_text.specs.declared.source.SourceReason.{SourceReason}
use Rattle.asm_text.specs.declared.source.SourceReason.TheVariants.{TooLong, BadText, BadStatement, NoSegment, BadSegment, TooMany, BadAlign, AfterBss, Misplaced, TooLarge, Empty, Twice, UnknownLabel, OutOfRange, BadCap, NoEntry}
use Rattle.asm_text.specs.declared.source.SourceFault.{SourceFault}

infix 5 need◌else◌on◌
-- what has to hold, and the reason and the line of the fault where it doesn't
pub record LineRule : Type 0 where
  pub holds : Bool
  pub reason : SourceReason
  pub line : ℕ

abbrev pub need◌else◌on◌ : Bool → SourceReason → ℕ → LineRule
need holds else reason on line = record { holds = holds; reason = reason; line = line }

-- every rule holds
abbrev pub AllMet : List LineRule → Type 0
AllMet [] = Unit {0}
AllMet (rule ∷ rules) = (rule.holds ≡ true) × AllMet rules

-- the order of the reasons on one line
abbrev pub rank : SourceReason → ℕ
rank TooLong = 0
rank BadText = 1
rank BadStatement = 2
rank NoSegment = 3
rank BadSegment = 4
rank TooMany = 5
rank BadAlign = 6
rank AfterBss = 7
rank Misplaced = 8
rank TooLarge = 9
rank Empty = 10
rank Twice = 11
rank UnknownLabel = 12
rank OutOfRange = 13
rank BadCap = 14
rank NoEntry = 15

-- a fault isn't behind another
abbrev pub is_before : SourceFault → SourceFault → Bool
is_before a b = nat_lt a.line b.line || ((a.line == b.line) && nat_le (rank a.reason) (rank b.reason))

-- the lesser of the fault so far, if there is one, and another
abbrev pub lesser : Option SourceFault → SourceFault → SourceFault
lesser None fault = fault
lesser (Some least) fault = if is_before least fault then least else fault

-- the fault of a rule that fails
abbrev pub fault_by : LineRule → SourceFault
fault_by rule = record { line = rule.line; reason = rule.reason }

-- the least fault so far, with that of one more rule, and with those of more
abbrev pub noted : Option SourceFault → LineRule → Option SourceFault
noted found rule = if rule.holds then found else Some (lesser found (fault_by rule))

abbrev pub found_by : Option SourceFault → List LineRule → Option SourceFault
found_by found [] = found
found_by found (rule ∷ rules) = found_by (noted found rule) rules

-- the least fault of the rules that fail, in whatever order they stand
abbrev pub least_fault : List LineRule → Option SourceFault
least_fault rules = found_by None rules

-- a fault of one pass, and where it has none that of the passes behind it
abbrev pub or_else : Option SourceFault → Option SourceFault → Option SourceFault
or_else None later = later
or_else (Some fault) later = Some fault

-- a rule fails with this fault, and no fault of a rule comes before it
pub record IsLeastFault (rules : List LineRule) (fault : SourceFault) : Type 0 where
  pub fails : Any (λ rule. (rule.holds ≡ false) × (fault_by rule ≡ fault)) rules
  pub least : All (λ rule. rule.holds ≡ false → is_before fault (fault_by rule) ≡ true) rules

-- There is no fault exactly where every rule holds, and else the fault is the least one.
pub record LeastFaultsDecide : Type 0 where
  pub none : (rules : List LineRule) → AllMet rules → least_fault rules ≡ None
  pub all : (rules : List LineRule) → least_fault rules ≡ None → AllMet rules
  pub some : (rules : List LineRule) (fault : SourceFault) → least_fault rules ≡ Some fault → IsLeastFault rules fault
