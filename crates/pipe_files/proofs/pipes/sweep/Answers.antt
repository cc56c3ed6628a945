use Rattle.std.proofs.Common.{◌≡◌, ◌∙◌, ap, arith, ◌<◌, length, slice_set}
use Rattle.std.proofs.lemmas.List.{length-set}
use Rattle.std.proofs.lemmas.List.Edits.{map_over_more}
use Rattle.pipe_files.specs.Counts.{swept_pipe}
use Rattle.pipe_files.proofs.pipes.sweep.Goals as goal

pub loop-k-preserved : goal.loop-k-preserved
loop-k-preserved c =
    let xs = c.args.pipes.now.items in
    let ys = c.loop-k.pipes.items in
    let long : length ys ≡ length xs = c.loop-k.invariant.long in
    let count = c.len-count.ensures in
    let within : c.loop-k.k < length xs = omega arith in
    record {
      mapped = ap (slice_set ys c.loop-k.k) c.sweep.ensures ∙ map_over_more swept_pipe xs ys c.loop-k.k c.index_mut.result.now within c.loop-k.invariant.mapped c.index_mut.ensures.value;
      long = simp length-set long;
    }
