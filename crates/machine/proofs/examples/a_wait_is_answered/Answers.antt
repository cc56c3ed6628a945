use Rattle.machine.proofs.WorkedMachines.{wait-worked}
use Rattle.machine.proofs.examples.a_wait_is_answered.Goals as goal

pub returns : goal.returns
returns c = wait-worked
