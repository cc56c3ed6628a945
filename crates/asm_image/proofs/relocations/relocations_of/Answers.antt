-- A step adds the relocation of its item.
use Rattle.std.proofs.Common.{◌≡◌, ◌+◌, Option, List, ◌++◌, ℕ, drop, append_assoc}
use Rattle.std.specs.Prelude.{slice_get, Some}
use Rattle.cap_format.specs.declared.image.Relocation.{Relocation}
use Rattle.asm_text.specs.declared.listing.Item.{Item}
use Rattle.asm_image.specs.declared.place.OpenSegment.{OpenSegment}
use Rattle.asm_image.specs.Places.{place_in, begun_by, open_after}
use Rattle.asm_image.specs.Labels.{Offsets}
use Rattle.asm_image.specs.Assembled.{relocation_of, relocations_from}
use Rattle.asm_image.specs.Rules.{count_by}
use Rattle.asm_image.specs.Known.{known}
use Rattle.asm_image.proofs.ItemsLeft.{left-at}
use Rattle.asm_image.proofs.KeptRules.{step-kept}
use Rattle.asm_image.proofs.relocations.relocations_of.Goals as goal

-- what is behind an item comes behind its relocation
next-relocations : (text : List ℕ) (offsets : Offsets) (current : Option OpenSegment) (items : List Item) (at : ℕ) (item : Item) (so_far more all : List Relocation)
    → slice_get items at ≡ Some item → so_far ++ relocations_from text offsets current (drop at items) ≡ all → more ≡ so_far ++ relocation_of text offsets (place_in current) item.what
    → more ++ relocations_from text offsets (open_after text item current) (drop (at + 1) items) ≡ all
next-relocations text offsets current items at item so_far more all found before added =
    rw (added, append_assoc) (rw (left-at items at item found) at before)

pub push_relocation-requires-clause-fits : goal.push_relocation-requires-clause-fits
push_relocation-requires-clause-fits c =
    let (count, keeps) = c.loop-at.invariant.keeps in
    let step = step-kept c.args.text.now (known c.args.labels.now) count c.loop-at.current c.args.listing.now c.loop-at.at c.item-item.result c.item-item.ensures keeps in
    rw c.place_in.ensures step.0.values

pub open_after-current-requires-clause-ranges : goal.open_after-current-requires-clause-ranges
open_after-current-requires-clause-ranges c =
    let (count, keeps) = c.loop-at.invariant.keeps in
    (step-kept c.args.text.now (known c.args.labels.now) count c.loop-at.current c.args.listing.now c.loop-at.at c.item-item.result c.item-item.ensures keeps).0.ranges

pub loop-at-preserved : goal.loop-at-preserved
loop-at-preserved c =
    let text = c.args.text.now in
    let offsets = known c.args.labels.now in
    let item = c.item-item.result in
    let (count, keeps) = c.loop-at.invariant.keeps in
    let step = step-kept text offsets count c.loop-at.current c.args.listing.now c.loop-at.at item c.item-item.ensures keeps in
    record {
      relocations = rw c.open_after-current.ensures.is
          (next-relocations text offsets c.loop-at.current c.args.listing.now c.loop-at.at item c.loop-at.relocations.items c.push_relocation.new.relocations.items _
          c.item-item.ensures c.loop-at.invariant.relocations (rw c.place_in.ensures at c.in_ok-push_relocation.ensures));
      keeps = (count_by count (begun_by item), rw c.open_after-current.ensures.is step.1);
    }
