use Rattle.machine.proofs.WorkedMachines.{tests-worked}
use Rattle.machine.proofs.examples.transfers_are_tested.Goals as goal

pub returns : goal.returns
returns c = tests-worked
