use Rattle.machine.proofs.WorkedMachines.{readiness-worked}
use Rattle.machine.proofs.examples.readiness_is_exact.Goals as goal

pub returns : goal.returns
returns c = readiness-worked
