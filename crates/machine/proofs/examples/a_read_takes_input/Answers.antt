use Rattle.machine.proofs.WorkedMachines.{read-worked}
use Rattle.machine.proofs.examples.a_read_takes_input.Goals as goal

pub returns : goal.returns
returns c = read-worked
