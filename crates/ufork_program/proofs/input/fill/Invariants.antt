use Rattle.std.proofs.Common.{◌≡◌, ◌≤◌, ◌-◌, length, take}
use Rattle.ufork_program.specs.Input.{Took}
use Rattle.ufork_program.proofs.input.fill.Given as goal

-- the room's front was taken, and no read failed
abbrev pub invariant-loop-filled : goal.invariant-loop-filled
invariant-loop-filled g l = record {
  within : l.filled ≤ length l.room;
  took : Took (take l.filled l.room) (g.I.Source.state l.fn.input) (g.I.Source.state l.input);
  kept : (g.I.Source.state l.input).faults ≡ (g.I.Source.state l.fn.input).faults;
}

abbrev pub decreases-loop-filled : goal.decreases-loop-filled
decreases-loop-filled g l = length l.room - l.filled
