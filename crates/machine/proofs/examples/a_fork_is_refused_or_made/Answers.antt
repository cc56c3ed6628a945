use Rattle.machine.proofs.WorkedMachines.{fork-worked}
use Rattle.machine.proofs.examples.a_fork_is_refused_or_made.Goals as goal

pub returns : goal.returns
returns c = fork-worked
