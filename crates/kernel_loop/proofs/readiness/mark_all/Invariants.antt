use Rattle.std.proofs.Common.{◌≡◌, length}
use Rattle.machine.specs.Machines.{Machine}
use Rattle.kernel_loop.specs.Marks.{HasParts, IsRemarked}
use Rattle.kernel_loop.proofs.Marking.{MarkedBelow}
use Rattle.kernel_loop.proofs.readiness.mark_all.Given as goal

-- the slots that the loop came to are marked, and all else is as it was
abbrev pub invariant-loop-slot : goal.invariant-loop-slot
invariant-loop-slot l = record {
  rest : IsRemarked l.initial.world l.world;
  long : length l.world.processes.marks ≡ length l.initial.world.processes.marks;
  below : (m : Machine) → HasParts m l.initial.world → MarkedBelow m l.world.processes.marks l.slot;
}
