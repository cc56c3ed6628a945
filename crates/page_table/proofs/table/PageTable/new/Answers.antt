use Rattle.std.proofs.Common.{◌≡◌, ◌∙◌, None, Some, Option, refl, ap}
use Rattle.page_table.specs.Listed.{listed}
use Rattle.page_table.specs.declared.table.Entry.{Entry}
use Rattle.page_table.proofs.Lists.{listed-replicate}
use Rattle.page_table.proofs.table.PageTable.new.Goals as goal

-- a clone of nothing is nothing
none_from_clone : (is_clone : Option Entry → Type 0) → ((entry : Entry) → is_clone (Some entry) → ⊥) → (y : Option Entry) → is_clone y → y ≡ None
none_from_clone is_clone refuted None h = refl
none_from_clone is_clone refuted (Some entry) h = absurd (refuted entry h)

pub returns-in-Ok : goal.returns-in-Ok
returns-in-Ok c = ap listed (c.in-Ok.ensures.items_if_clones_equal (none_from_clone _ (λ _ h. h))) ∙ listed-replicate 16384
