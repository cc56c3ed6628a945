use Rattle.std.proofs.Common.{◌+◌, ◌-◌, ◌*◌}
use Rattle.outside_io.specs.States.{SinkState}
use Rattle.outside_io.specs.Parts.{console, Underway}
use Rattle.ufork_program.specs.Tools.{word_parts}
use Rattle.ufork_program.proofs.tools.write_words.Given as goal

-- the lines of the first words are written, and the others are left
abbrev pub invariant-loop-at : goal.invariant-loop-at
invariant-loop-at g l = (err : SinkState) → Underway (word_parts l.file l.place l.offset l.count) (word_parts l.file (l.place + 4 * l.at) (l.offset + 4 * l.at) (l.count - l.at))
    (console (g.O.Sink.state l.fn.out) err) (console (g.O.Sink.state l.out) err)
