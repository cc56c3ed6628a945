use Rattle.machine.proofs.WorkedMachines.{kill-worked}
use Rattle.machine.proofs.examples.a_kill_moves_nothing.Goals as goal

pub returns : goal.returns
returns c = kill-worked
