-- Each step tests the rules of its item.
use Rattle.std.proofs.Common.{◌≡◌, ◌+◌, ◌^◌, ◌<◌, ℕ, Option, Some, None, IfSome, List, drop, arith}
use Rattle.std.specs.Prelude.{slice_get}
use Rattle.asm_text.specs.declared.source.SourceFault.{SourceFault}
use Rattle.asm_text.specs.declared.listing.Item.{Item}
use Rattle.asm_image.specs.declared.place.OpenSegment.{OpenSegment}
use Rattle.asm_image.specs.Places.{here, place_in, open_after}
use Rattle.asm_image.specs.Faults.{found_by}
use Rattle.asm_image.specs.Labels.{Offsets}
use Rattle.asm_image.specs.Rules.{value_rules, values_rules}
use Rattle.asm_image.specs.Known.{known}
use Rattle.asm_image.proofs.FoundRules.{found-append}
use Rattle.asm_image.proofs.ItemsLeft.{left-at}
use Rattle.asm_image.proofs.ListingItems.{ranges-at, small-at}
use Rattle.asm_image.proofs.values.check_values.Goals as goal

-- a place in a segment whose places are small is small
place-small : (current : Option OpenSegment) → IfSome current (λ segment. here segment < 2 ^ 127) → place_in current < 2 ^ 127
place-small None small = omega arith
place-small (Some current) small = small

-- what is found by the rules of the items behind one, where those of the item were tested
next-found : (text : List ℕ) (offsets : Offsets) (current : Option OpenSegment) (items : List Item) (at : ℕ) (item : Item) (found more all : Option SourceFault)
    → slice_get items at ≡ Some item → found_by found (values_rules text offsets current (drop at items)) ≡ all
    → more ≡ found_by found (value_rules text offsets (place_in current) item.line item.what)
    → found_by more (values_rules text offsets (open_after text item current) (drop (at + 1) items)) ≡ all
next-found text offsets current items at item found more all is before tested =
    rw (tested, ← found-append found (value_rules text offsets (place_in current) item.line item.what) (values_rules text offsets (open_after text item current) (drop (at + 1) items)))
    (rw (left-at items at item is) at before)

pub place_in-requires : goal.place_in-requires
place_in-requires c = small-at c.loop-at.at c.loop-at.current (omega (arith, c.count-at-end.ensures.small)) c.loop-at.invariant.bounded

pub need_values-requires-clause-ranges : goal.need_values-requires-clause-ranges
need_values-requires-clause-ranges c =
    ranges-at c.args.listing.now c.loop-at.at c.item-item.result (c.sources_have_ranges.ensures c.args.text.now c.args.listing.now c.requires.source) c.item-item.ensures

pub need_values-requires-clause-at : goal.need_values-requires-clause-at
need_values-requires-clause-at c =
    let small = small-at c.loop-at.at c.loop-at.current (omega (arith, c.count-at-end.ensures.small)) c.loop-at.invariant.bounded in
    rw c.place_in.ensures (place-small c.loop-at.current small)

pub open_after-current-requires-clause-ranges : goal.open_after-current-requires-clause-ranges
open_after-current-requires-clause-ranges c =
    ranges-at c.args.listing.now c.loop-at.at c.item-item.result (c.sources_have_ranges.ensures c.args.text.now c.args.listing.now c.requires.source) c.item-item.ensures

pub open_after-current-requires-clause-here : goal.open_after-current-requires-clause-here
open_after-current-requires-clause-here c = small-at c.loop-at.at c.loop-at.current (omega (arith, c.count-at-end.ensures.small)) c.loop-at.invariant.bounded

pub loop-at-preserved : goal.loop-at-preserved
loop-at-preserved c =
    let l = c.loop-at in
    record {
      found = rw c.open_after-current.ensures.is
          (next-found c.args.text.now (known c.args.labels.now) l.current c.args.listing.now l.at c.item-item.result l.found c.need_values.new.found _
          c.item-item.ensures l.invariant.found (rw c.place_in.ensures at c.need_values.ensures));
      bounded = c.open_after-current.ensures.bounded l.at l.invariant.bounded;
    }
