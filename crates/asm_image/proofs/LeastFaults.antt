-- The fault that is found is the least one of the rules that fail.
use Rattle.std.proofs.Common.{◌≡◌, refl, suc, Bool, true, false, Some, None, List, [], ◌∷◌, ◌⊎◌, inl, inr, arith}
use Rattle.std.specs.List.{All, Any}
use Rattle.std.proofs.lemmas.Grind.{common_steps}
use Rattle.std.proofs.lemmas.List.Elements.{All-nil, All-cons}
use Rattle.asm_text.specs.declared.source.SourceFault.{SourceFault}
use Rattle.asm_image.specs.Faults.{LineRule, is_before, lesser, fault_by, found_by, least_fault, IsLeastFault, LeastFaultsDecide}
use Rattle.asm_image.proofs.FoundRules.{found-met}
use Rattle.asm_image.proofs.MetRules.{met}

-- a rule fails with this fault
abbrev FailsWith : SourceFault → LineRule → Type 0
FailsWith fault rule = (rule.holds ≡ false) × (fault_by rule ≡ fault)

-- a fault isn't behind that of a rule that fails
abbrev IsLeast : SourceFault → LineRule → Type 0
IsLeast fault rule = rule.holds ≡ false → is_before fault (fault_by rule) ≡ true

-- each fault isn't behind itself
before-same : (a : SourceFault) → is_before a a ≡ true
before-same a = grind (arith, common_steps)

-- nor behind one behind which another isn't that isn't behind a third
before-through : (a b c : SourceFault) → is_before a b ≡ true → is_before b c ≡ true → is_before a c ≡ true
before-through a b c ab bc = grind (arith, common_steps)

-- of two faults one isn't behind the other
before-else : (a b : SourceFault) → is_before a b ≡ false → is_before b a ≡ true
before-else a b ab = grind (arith, common_steps)

fails-here : (fault : SourceFault) (rule : LineRule) (rules : List LineRule) → FailsWith fault rule → Any (FailsWith fault) (rule ∷ rules)
fails-here fault rule rules fails = (0, rule, omega arith, refl, fails)

fails-there : (fault : SourceFault) (rule : LineRule) (rules : List LineRule) → Any (FailsWith fault) rules → Any (FailsWith fault) (rule ∷ rules)
fails-there fault rule rules (k, other, below, is, fails) = (suc k, other, omega arith, is, fails)

-- what is found behind a fault: that fault, or one of the rules, and no other comes before it
record IsFound (first : SourceFault) (rules : List LineRule) (fault : SourceFault) : Type 0 where
  from : (first ≡ fault) ⊎ Any (FailsWith fault) rules
  first_behind : is_before fault first ≡ true
  least : All (IsLeast fault) rules

-- of one more rule
found-met-rule : (first fault : SourceFault) (rule : LineRule) (rules : List LineRule) → rule.holds ≡ true → IsFound first rules fault → IsFound first (rule ∷ rules) fault
found-met-rule first fault rule rules holds is = record {
  from = elim is.from [ inl same ↦ inl same | inr fails ↦ inr (fails-there fault rule rules fails) ];
  first_behind = is.first_behind;
  least = All-cons (IsLeast fault) rule rules (λ fails. absurd (cc)) is.least;
}

found-failed-rule : (first fault : SourceFault) (rule : LineRule) (rules : List LineRule) → rule.holds ≡ false → IsFound (lesser (Some first) (fault_by rule)) rules fault
    → IsFound first (rule ∷ rules) fault
found-failed-rule first fault rule rules failed is = by (is_before first (fault_by rule)) refl is
  where
    by : (b : Bool) → is_before first (fault_by rule) ≡ b → IsFound (lesser (Some first) (fault_by rule)) rules fault → IsFound first (rule ∷ rules) fault
    by true before is =
        let kept : IsFound first rules fault = rw before at is in
        record {
          from = elim kept.from [ inl same ↦ inl same | inr fails ↦ inr (fails-there fault rule rules fails) ];
          first_behind = kept.first_behind;
          least = All-cons (IsLeast fault) rule rules (λ _. before-through fault first (fault_by rule) kept.first_behind before) kept.least;
        }
    by false behind is =
        let taken : IsFound (fault_by rule) rules fault = rw behind at is in
        record {
          from = inr (elim taken.from [ inl same ↦ fails-here fault rule rules (failed, same) | inr fails ↦ fails-there fault rule rules fails ]);
          first_behind = before-through fault (fault_by rule) first taken.first_behind (before-else first (fault_by rule) behind);
          least = All-cons (IsLeast fault) rule rules (λ _. taken.first_behind) taken.least;
        }

-- of all rules
found-least : (first fault : SourceFault) (rules : List LineRule) → found_by (Some first) rules ≡ Some fault → IsFound first rules fault
found-least first fault [] found =
    let same : first ≡ fault = cc in
    record {
      from = inl same;
      first_behind = rw same (before-same fault);
      least = All-nil (IsLeast fault);
    }
found-least first fault (rule ∷ rules) found = by rule.holds refl found (λ other. found-least other fault rules)
  where
    by : (b : Bool) → rule.holds ≡ b → found_by (Some first) (rule ∷ rules) ≡ Some fault → ((other : SourceFault) → found_by (Some other) rules ≡ Some fault → IsFound other rules fault)
        → IsFound first (rule ∷ rules) fault
    by true holds found rest = found-met-rule first fault rule rules holds (rest first (rw holds at found))
    by false fails found rest = found-failed-rule first fault rule rules fails (rest (lesser (Some first) (fault_by rule)) (rw fails at found))

-- the fault of rules is the least one
is-least : (rules : List LineRule) (fault : SourceFault) → least_fault rules ≡ Some fault → IsLeastFault rules fault
is-least [] fault found = absurd (cc)
is-least (rule ∷ rules) fault found = by rule.holds refl found (is-least rules fault)
  where
    by : (b : Bool) → rule.holds ≡ b → least_fault (rule ∷ rules) ≡ Some fault → (least_fault rules ≡ Some fault → IsLeastFault rules fault) → IsLeastFault (rule ∷ rules) fault
    by true holds found rest =
        let is = rest (rw holds at found) in
        record {
          fails = fails-there fault rule rules is.fails;
          least = All-cons (IsLeast fault) rule rules (λ fails. absurd (cc)) is.least;
        }
    by false fails found rest =
        let is = found-least (fault_by rule) fault rules (rw fails at found) in
        record {
          fails = elim is.from [ inl same ↦ fails-here fault rule rules (fails, same) | inr fails ↦ fails-there fault rule rules fails ];
          least = All-cons (IsLeast fault) rule rules (λ _. is.first_behind) is.least;
        }

-- There is no fault exactly where every rule holds, and else the fault is the least one.
pub least-faults-decide : LeastFaultsDecide
least-faults-decide = record {
  none = found-met None;
  all = met;
  some = is-least;
}
