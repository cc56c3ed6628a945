use Rattle.std.proofs.Common.{drop}
use Rattle.std.specs.Prelude.{flat_map}
use Rattle.outside_io.specs.States.{SinkState}
use Rattle.outside_io.specs.Parts.{console, Underway}
use Rattle.ufork_program.specs.Tools.{segment_parts}
use Rattle.ufork_program.proofs.tools.write_segments.Given as goal

-- the words of the first segments are written, and those of the others are left
abbrev pub invariant-loop-segment : goal.invariant-loop-segment
invariant-loop-segment g l = (err : SinkState) → Underway (flat_map (segment_parts l.file) l.segments) (flat_map (segment_parts l.file) (drop l.segment-index l.segments))
    (console (g.O.Sink.state l.fn.out) err) (console (g.O.Sink.state l.out) err)
