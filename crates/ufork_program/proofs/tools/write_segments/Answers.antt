use Rattle.std.proofs.Common.{arith}
use Rattle.outside_io.proofs.PartLemmas.{Underway-more, Underway-stop, Underway-end}
use Rattle.ufork_program.proofs.ListingLemmas.{segments-left, segments-over}
use Rattle.ufork_program.proofs.tools.write_segments.Goals as goal

pub returns-in_err-write_segment : goal.returns-in_err-write_segment
returns-in_err-write_segment g c = λ err.
    let left = segments-left c.args.file.now c.args.segments.now c.loop-segment.segment-index _ c.loop-segment-test.true in
    Underway-stop _ _ _ _ _ _ _ _ _ c.from_residual.ensures.1 (rw left at c.loop-segment.invariant err) (c.in_err-write_segment.ensures err)

pub loop-segment-preserved : goal.loop-segment-preserved
loop-segment-preserved g c = λ err.
    let left = segments-left c.args.file.now c.args.segments.now c.loop-segment.segment-index _ c.loop-segment-test.true in
    Underway-more _ _ _ _ _ _ _ (rw left at c.loop-segment.invariant err) (c.in_ok-write_segment.ensures err)

pub returns : goal.returns
returns g c = λ err.
    let over = segments-over c.args.file.now c.args.segments.now c.loop-segment.segment-index (omega (arith, c.loop-segment-test.false)) in
    Underway-end _ _ _ _ (rw over at c.loop-segment.invariant err)
