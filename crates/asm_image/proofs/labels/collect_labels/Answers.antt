-- Each item takes its name.
use Rattle.std.proofs.Common.{refl, ℕ, ◌^◌, ◌<◌, Option, Some, None, arith}
use Rattle.std.proofs.Math.Path.{fun_ext}
use Rattle.std.proofs.lemmas.List.{drop_all}
use Rattle.asm_text.specs.declared.listing.What.TheVariants.{Label, Entry}
use Rattle.asm_image.specs.declared.place.OpenSegment.{OpenSegment}
use Rattle.asm_image.specs.Places.{place_in}
use Rattle.asm_image.specs.Layout.{IsBounded}
use Rattle.asm_image.specs.Known.{known}
use Rattle.asm_image.proofs.ItemsLeft.{left-as}
use Rattle.asm_image.proofs.NamesTaken.{taken-none, taken-all, taken-label, taken-entry, taken-other}
use Rattle.asm_image.proofs.labels.collect_labels.Goals as goal
use Rattle.asm_image.proofs.labels.collect_labels.Goals.{in-Label+in_ok-new-in-Label, in-Entry, in_default}

-- a place behind few items is a number of 127 bits
place-small : (count : ℕ) (current : Option OpenSegment) → IsBounded count current → count < 2 ^ 63 → place_in current < 2 ^ 127
place-small count None bounded few = omega arith
place-small count (Some current) bounded few = omega arith

pub loop-at-init : goal.loop-at-init
loop-at-init c = record {
  taken = taken-none c.args.text.now c.args.listing.now c.args.found.now (known c.new-labels.result) c.new-labels.ensures;
  bounded = tt;
}

pub loop-at-preserved : goal.loop-at-preserved
loop-at-preserved c =
    let text = c.args.text.now in
    let items = c.args.listing.now in
    let l = c.loop-at in
    let item = c.item-item.result in
    let next = c.open_after-current.ensures.is in
    record {
      taken = elim c.match-item.branch [
        | in-Label+in_ok-new-in-Label w ↦
            let small = place-small l.at l.current l.invariant.bounded (omega arith) in
            let added = fun_ext w.in_ok-new-in-Label.ensures.added in
            let was = rw (left-as items l.at item (Label w.in-Label.name) c.item-item.ensures w.in-Label.is) at l.invariant.taken in
            let is = taken-label text items c.args.found.now (known l.labels) l.entry l.current l.found item.line _ w.in-Label.name small was in
            rw (w.found-is, w.labels-is, w.entry-is, w.need.ensures, added, w.in_ok-new-in-Label.ensures.new, w.slice.ensures, w.place_in.ensures, next, w.in-Label.is) is
        | in-Entry w ↦
            let was = rw (left-as items l.at item (Entry w.in-Entry.name) c.item-item.ensures w.in-Entry.is) at l.invariant.taken in
            let is = taken-entry text items c.args.found.now (known l.labels) l.entry l.current l.found item.line _ w.in-Entry.name was in
            rw (w.found-is, w.labels-is, w.entry-is, w.need-in-Entry.ensures, next, w.in-Entry.is) is
        | in_default w ↦
            let was = rw (left-as items l.at item item.what c.item-item.ensures refl) at l.invariant.taken in
            let is = taken-other text items c.args.found.now (known l.labels) l.entry l.current l.found item.line _ item.what w.in_default.not-Label w.in_default.not-Entry was in
            rw (w.found-is, w.labels-is, w.entry-is, next) is
      ];
      bounded = c.open_after-current.ensures.bounded l.at l.invariant.bounded;
    }

pub returns-clause-labels : goal.returns-clause-labels
returns-clause-labels c =
    let all = rw (drop_all c.loop-at.at c.args.listing.now (omega arith)) at c.loop-at.invariant.taken in
    fun_ext (taken-all c.args.text.now c.args.listing.now _ (known c.loop-at.labels) c.loop-at.entry c.loop-at.current c.loop-at.found all)
