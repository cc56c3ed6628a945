-- Each step of the loop is that of the definitions.
use Rattle.std.proofs.Common.{◌≡◌, ◌+◌, ◌^◌, ◌<◌, ◌++◌, arith}
use Rattle.std.proofs.lemmas.Grind.{common_steps}
use Rattle.asm_image.specs.Places.{begun_by}
use Rattle.asm_image.specs.Layout.{closed_by, begun_count}
use Rattle.asm_image.proofs.ItemsLeft.{left-at}
use Rattle.asm_image.proofs.ListingItems.{ranges-at, small-at}
use Rattle.asm_image.proofs.LaidOut.{segments-behind, found-behind}
use Rattle.asm_image.proofs.layout.lay_out.Goals as goal

pub need_place-requires-clause-here : goal.need_place-requires-clause-here
need_place-requires-clause-here c =
    let few : c.loop-at.at < 2 ^ 63 = omega (arith, c.count-at-end.ensures.small) in
    small-at c.loop-at.at c.loop-at.current few c.loop-at.invariant.bounded

pub open_after-current-requires-clause-ranges : goal.open_after-current-requires-clause-ranges
open_after-current-requires-clause-ranges c =
    ranges-at c.args.listing.now c.loop-at.at c.item-item.result (c.sources_have_ranges.ensures c.args.text.now c.args.listing.now c.requires) c.item-item.ensures

pub open_after-current-requires-clause-here : goal.open_after-current-requires-clause-here
open_after-current-requires-clause-here c =
    let few : c.loop-at.at < 2 ^ 63 = omega (arith, c.count-at-end.ensures.small) in
    small-at c.loop-at.at c.loop-at.current few c.loop-at.invariant.bounded

pub loop-at-preserved : goal.loop-at-preserved
loop-at-preserved c =
    let l = c.loop-at in
    let rest = left-at c.args.listing.now l.at c.item-item.result c.item-item.ensures in
    let keeps : c.close_before.new.segments.items ≡ l.segments.items ++ closed_by (begun_by c.item-item.result) l.current = c.in_ok-close_before.ensures in
    let counts : c.len.result + c.from.result ≡ begun_count l.segments.items l.current = grind (arith, common_steps) in
    record {
      segments = segments-behind _ _ _ _ _ _ _ _ _ rest keeps c.open_after-current.ensures.is l.invariant.segments;
      found = found-behind _ _ _ _ _ _ _ _ _ _ _ _ rest keeps c.open_after-current.ensures.is counts c.need_place.ensures l.invariant.found;
      bounded = c.open_after-current.ensures.bounded l.at l.invariant.bounded;
    }
