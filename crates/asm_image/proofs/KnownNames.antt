-- What a map of labels knows behind one more label.
use Rattle.std.proofs.Common.{◌≡◌, refl, sym, subst, ◌∙◌, ℕ, Bool, true, false, Option, Some, None, List, is_some, if◌then◌else◌}
use Rattle.std.specs.Str.{bytes_eq}
use Rattle.std.specs.Ordering.{is_eq, nat_cmp}
use Rattle.std.specs.Cmp.{eq_by_cmp_equiv}
use Rattle.std.specs.Cmp.Lexicographic.{slice_cmp, nat_list_cmp_total, nat_list_eq_equiv}
use Rattle.std.specs.Map.{KeepsOthers}
use Rattle.std.specs.BTreeMap.{UpdatesBy}
use Rattle.std.proofs.lemmas.Slice.Eq.{bytes_eq-Decides}
use Rattle.std.proofs.lemmas.Map.Text.{is_eq-slice_cmp}
use Rattle.asm_image.specs.declared.labels.Labels.{Labels}
use Rattle.asm_image.specs.Layout.{with_label}
use Rattle.asm_image.specs.Known.{known}

-- no bytes are equal to both of two that differ
apart : (name other bytes : List ℕ) → bytes_eq name other ≡ false → is_eq (slice_cmp nat_cmp name bytes) ≡ true → is_eq (slice_cmp nat_cmp other bytes) ≡ false
apart name other bytes differ is =
    is_eq-slice_cmp other bytes
    ∙ nat_list_eq_equiv.symm other bytes
    ∙ sym (nat_list_eq_equiv.congr name bytes other (sym (is_eq-slice_cmp name bytes) ∙ is))
    ∙ differ

-- a change at one name leaves what is known of another
others-known : (before after : Labels) (name other : List ℕ) (offset : Option ℕ) → UpdatesBy (λ a b. slice_cmp nat_cmp a.items b.items) (λ key. slice_cmp nat_cmp name key.items) before.offsets after.offsets offset
    → bytes_eq name other ≡ false → known after other ≡ known before other
unfolding KeepsOthers
others-known before after name other offset updates differ =
    updates.3 _ (λ a b. (eq_by_cmp_equiv nat_list_cmp_total).congr other a.items b.items) (λ key. apart name other key.items differ)

-- what there is where one more counts only where there was none
one-more : (was is : Option ℕ) (same : Bool) (offset : ℕ) → (same ≡ true → (is ≡ Some offset) × (is_some was ≡ false)) → (same ≡ false → is ≡ was)
    → is ≡ (if is_some was then was else (if same then Some offset else None))
one-more None is true offset here there = (here refl).0
one-more None is false offset here there = there refl
one-more (Some old) is true offset here there = let none = (here refl).1 in absurd (cc)
one-more (Some old) is false offset here there = there refl

-- An insertion at a name that isn't known adds its label.
pub label-added : (before after : Labels) (name : List ℕ) (offset : ℕ) → is_some (known before name) ≡ false
    → UpdatesBy (λ a b. slice_cmp nat_cmp a.items b.items) (λ key. slice_cmp nat_cmp name key.items) before.offsets after.offsets (Some offset)
    → (other : List ℕ) → known after other ≡ with_label (known before) name offset other
label-added before after name offset none updates other =
    one-more (known before other) (known after other) (bytes_eq name other) offset
    (λ same. subst (λ name. (known after name ≡ Some offset) × (is_some (known before name) ≡ false)) ((bytes_eq-Decides name other).0 same) (updates.1, none))
    (λ differ. others-known before after name other (Some offset) updates differ)
