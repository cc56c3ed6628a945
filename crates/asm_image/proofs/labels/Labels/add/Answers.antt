-- The insertion adds the label.
use Rattle.std.proofs.Common.{◌≡◌, ◌∙◌, sym, ap, subst, ℕ, false, List, ◌++◌, is_some}
use Rattle.asm_image.specs.Layout.{with_label}
use Rattle.asm_image.specs.Known.{known}
use Rattle.asm_image.proofs.KnownNames.{label-added}
use Rattle.asm_image.proofs.labels.Labels.add.Goals as goal

pub returns-clause-added : goal.returns-clause-added
returns-clause-added c =
    let before = c.args.self.now in
    let after = record before { offsets = c.insert.new.self } in
    let is = c.in_ok-extend_from_slice.ensures.items ∙ ap (λ bytes. bytes ++ c.args.name.now) c.new-owned.ensures.items in
    let none = sym c.contains_key.ensures ∙ c.if-contains_key.false in
    subst (λ (name : List ℕ). is_some (known before name) ≡ false → (other : List ℕ) → known after other ≡ with_label (known before) name c.args.offset other) is
    (λ none. label-added before after _ c.args.offset none c.in_ok-insert.ensures.updates) none
