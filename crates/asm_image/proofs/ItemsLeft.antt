-- The items that are left, from one of them on.
use Rattle.std.proofs.Common.{◌≡◌, ◌∙◌, refl, ap, ℕ, suc, ◌+◌, Option, Some, List, ◌∷◌, drop, drop-cons, add-one}
use Rattle.std.specs.Prelude.{slice_get}
use Rattle.std.proofs.lemmas.Option.{slice_get_within, get_or_from_slice_get}
use Rattle.asm_text.specs.declared.listing.Span.{Span}
use Rattle.asm_text.specs.declared.listing.What.{What}
use Rattle.asm_text.specs.declared.listing.What.TheVariants.{Entry}
use Rattle.asm_text.specs.declared.listing.Item.{Item}
use Rattle.asm_image.specs.Labels.{entry_or, entry_span}

-- The item at hand is the first of those that are left.
pub left-at : {X : Type 0} (items : List X) (at : ℕ) (item : X) → slice_get items at ≡ Some item → drop at items ≡ item ∷ drop (at + 1) items
left-at items at item is =
    let within = slice_get_within items at item is in
    rw add-one (drop-cons items at item within ∙ ap (λ first. first ∷ drop (suc at) items) (get_or_from_slice_get items at item item is))

-- The same, by what that item says.
pub left-as : (items : List Item) (at : ℕ) (item : Item) (what : What) → slice_get items at ≡ Some item → item.what ≡ what → drop at items ≡ record { line = item.line; what = what } ∷ drop (at + 1) items
left-as items at item what is says = left-at items at item is ∙ ap (λ what. record { line = item.line; what = what } ∷ drop (at + 1) items) says

-- An `.entry` at hand is the first one of the items that are left.
pub entry-here : (items : List Item) (at : ℕ) (item : Item) (name : Span) → slice_get items at ≡ Some item → item.what ≡ Entry name → entry_span (drop at items) ≡ Some name
entry-here items at item name is here = rw (left-at items at item is, here) refl

-- what is no `.entry` leaves that of the rest
no-entry : (what : What) (rest : Option Span) → ((name : Span) → what ≡ Entry name → ⊥) → entry_or what rest ≡ rest
no-entry (Entry name) rest other = absurd (other name refl)
no-entry what rest other = refl

-- Behind another item the first `.entry` is the same.
pub entry-behind : (items : List Item) (at : ℕ) (item : Item) → slice_get items at ≡ Some item → ((name : Span) → item.what ≡ Entry name → ⊥) → entry_span (drop at items) ≡ entry_span (drop (at + 1) items)
entry-behind items at item is other = rw (left-at items at item is) (no-entry item.what (entry_span (drop (at + 1) items)) other)
