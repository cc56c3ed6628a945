use Rattle.std.proofs.Common.{◌≡◌, ◌∙◌, ap, arith, ◌<◌, length, slice_set}
use Rattle.std.proofs.lemmas.List.{length-set}
use Rattle.std.proofs.lemmas.List.Edits.{map_over_more}
use Rattle.machine.specs.Processes.{orphaned}
use Rattle.process_table.proofs.processes.Processes.orphan_all.Goals as goal

pub loop-i-preserved : goal.loop-i-preserved
loop-i-preserved c =
    let xs = c.self.inside.slots.items in
    let ys = c.loop-i.self-inside.slots.items in
    let long : length ys ≡ length xs = c.loop-i.invariant.long in
    let count = c.len-count.ensures in
    let within : c.loop-i.i < length xs = omega arith in
    record {
      mapped = ap (slice_set ys c.loop-i.i) c.orphan.ensures ∙ map_over_more (orphaned c.args.id) xs ys c.loop-i.i c.index_mut.result.now within c.loop-i.invariant.mapped c.index_mut.ensures.value;
      long = simp length-set long;
      marks = c.loop-i.invariant.marks;
    }
