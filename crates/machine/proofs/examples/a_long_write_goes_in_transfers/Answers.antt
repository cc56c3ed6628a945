use Rattle.machine.proofs.WorkedMachines.{write-worked}
use Rattle.machine.proofs.examples.a_long_write_goes_in_transfers.Goals as goal

pub returns : goal.returns
returns c = write-worked
