use Rattle.machine.proofs.WorkedMachines.{clock-worked}
use Rattle.machine.proofs.examples.the_clock_turns.Goals as goal

pub returns : goal.returns
returns c = clock-worked
