-- A listing that keeps the rules is gone through item by item.
use Rattle.std.proofs.Common.{◌≡◌, ℕ, ◌+◌, Option, Some, None, List, ◌∷◌, drop, arith}
use Rattle.std.specs.Prelude.{IfSome, slice_get}
use Rattle.std.proofs.lemmas.Grind.{common_steps}
use Rattle.std.proofs.lemmas.List.Elements.{All-head, All-tail}
use Rattle.asm_text.specs.declared.listing.Item.{Item}
use Rattle.asm_text.specs.Ranges.{HasRanges}
use Rattle.asm_image.specs.declared.place.OpenSegment.{OpenSegment}
use Rattle.asm_image.specs.Places.{place_in, begun_by, open_by, open_after}
use Rattle.asm_image.specs.Faults.{AllMet}
use Rattle.asm_image.specs.Labels.{Offsets}
use Rattle.asm_image.specs.Rules.{rules_by, count_by, value_rules}
use Rattle.asm_image.specs.Layout.{IsInside, KeepsRules}
use Rattle.asm_image.proofs.MetRules.{met-left, met-right}
use Rattle.asm_image.proofs.OpenSegments.{IsNewOrNone, begun-new, grown-inside}
use Rattle.asm_image.proofs.ItemsLeft.{left-at}

module _ (text : List ℕ) (offsets : Offsets) where
  -- An item keeps the rules on its place and its values.
  pub record KeepsItem (count : ℕ) (current : Option OpenSegment) (item : Item) : Type 0 where
    pub ranges : HasRanges item.what
    pub places : AllMet (rules_by text count item (begun_by item) current)
    pub values : AllMet (value_rules text offsets (place_in current) item.line item.what)

  -- the segment that is open behind an item lies in the region
  inside-next : (count : ℕ) (item : Item) (new current : Option OpenSegment) → IsNewOrNone new → IfSome current IsInside → AllMet (rules_by text count item new current)
      → IfSome (open_by text item.what new current) IsInside
  inside-next count item (Some new) current begins inside (start, m) = grind (arith, common_steps, start, begins.size, begins.bss)
  inside-next count item None None begins inside m = tt
  inside-next count item None (Some current) begins inside m = grown-inside text item.line item.what current inside m

  -- The first item of a listing that keeps the rules does.
  pub first-kept : (count : ℕ) (current : Option OpenSegment) (item : Item) (items : List Item) → KeepsRules text offsets count current (item ∷ items) → KeepsItem count current item
  first-kept count current item items keeps = record {
    ranges = All-head (λ other. HasRanges other.what) item items keeps.ranges;
    places = met-left (rules_by text count item (begun_by item) current) _ keeps.places;
    values = met-left (value_rules text offsets (place_in current) item.line item.what) _ keeps.values;
  }

  -- And so do the others, behind it.
  pub rest-kept : (count : ℕ) (current : Option OpenSegment) (item : Item) (items : List Item) → KeepsRules text offsets count current (item ∷ items)
      → KeepsRules text offsets (count_by count (begun_by item)) (open_after text item current) items
  rest-kept count current item items keeps =
      let first = first-kept count current item items keeps in
      record {
        ranges = All-tail (λ other. HasRanges other.what) item items keeps.ranges;
        inside = inside-next count item (begun_by item) current (begun-new item.line item.what first.ranges) keeps.inside first.places;
        places = met-right (rules_by text count item (begun_by item) current) _ keeps.places;
        values = met-right (value_rules text offsets (place_in current) item.line item.what) _ keeps.values;
      }

  -- A step along a listing that keeps the rules: what its item keeps, and what the rest does.
  pub step-kept : (count : ℕ) (current : Option OpenSegment) (items : List Item) (at : ℕ) (item : Item) → slice_get items at ≡ Some item
      → KeepsRules text offsets count current (drop at items)
      → KeepsItem count current item × KeepsRules text offsets (count_by count (begun_by item)) (open_after text item current) (drop (at + 1) items)
  step-kept count current items at item found keeps =
      let here : KeepsRules text offsets count current (item ∷ drop (at + 1) items) = rw (left-at items at item found) at keeps in
      (first-kept count current item (drop (at + 1) items) here, rest-kept count current item (drop (at + 1) items) here)
