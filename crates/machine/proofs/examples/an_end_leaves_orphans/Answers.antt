use Rattle.machine.proofs.WorkedMachines.{end-worked}
use Rattle.machine.proofs.examples.an_end_leaves_orphans.Goals as goal

pub returns : goal.returns
returns c = end-worked
