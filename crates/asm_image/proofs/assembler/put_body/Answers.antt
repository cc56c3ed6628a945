-- A step adds what its item adds.
use Rattle.std.proofs.Common.{◌+◌, drop}
use Rattle.asm_image.specs.Places.{begun_by}
use Rattle.asm_image.specs.Rules.{count_by}
use Rattle.asm_image.specs.Known.{known}
use Rattle.asm_image.proofs.ItemsLeft.{left-at}
use Rattle.asm_image.proofs.KeptRules.{step-kept}
use Rattle.asm_image.proofs.BodiesWritten.{rules-inside, body-behind}
use Rattle.asm_image.proofs.assembler.put_body.Goals as goal

pub put_item-requires-clause-place : goal.put_item-requires-clause-place
put_item-requires-clause-place c none =
    let (count, keeps) = c.loop-at.invariant.keeps in
    let step = step-kept c.args.text.now (known c.args.labels.now) count c.loop-at.current c.args.source.now c.loop-at.at c.item-item.result c.item-item.ensures keeps in
    rules-inside c.args.text.now count c.item-item.result (begun_by c.item-item.result) c.loop-at.current none step.0.places

pub put_item-requires-clause-values : goal.put_item-requires-clause-values
put_item-requires-clause-values c =
    let (count, keeps) = c.loop-at.invariant.keeps in
    (step-kept c.args.text.now (known c.args.labels.now) count c.loop-at.current c.args.source.now c.loop-at.at c.item-item.result c.item-item.ensures keeps).0.values

pub open_after-current-requires-clause-ranges : goal.open_after-current-requires-clause-ranges
open_after-current-requires-clause-ranges c =
    let (count, keeps) = c.loop-at.invariant.keeps in
    (step-kept c.args.text.now (known c.args.labels.now) count c.loop-at.current c.args.source.now c.loop-at.at c.item-item.result c.item-item.ensures keeps).0.ranges

pub loop-at-preserved : goal.loop-at-preserved
loop-at-preserved c =
    let text = c.args.text.now in
    let offsets = known c.args.labels.now in
    let item = c.item-item.result in
    let (count, keeps) = c.loop-at.invariant.keeps in
    let step = step-kept text offsets count c.loop-at.current c.args.source.now c.loop-at.at item c.item-item.ensures keeps in
    record {
      body = rw c.open_after-current.ensures.is
          (body-behind text offsets c.loop-at.current item (drop (c.loop-at.at + 1) c.args.source.now) c.loop-at.out.items c.put_item.new.out.items _ c.in_ok-put_item.ensures
          (rw (left-at c.args.source.now c.loop-at.at item c.item-item.ensures) at c.loop-at.invariant.body));
      keeps = (count_by count (begun_by item), rw c.open_after-current.ensures.is step.1);
    }
