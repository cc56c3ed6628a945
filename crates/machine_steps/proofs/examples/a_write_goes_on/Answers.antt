use Rattle.machine_steps.proofs.WorkedSteps.{a-write-goes-on}
use Rattle.machine_steps.proofs.examples.a_write_goes_on.Goals as goal

pub returns : goal.returns
returns c = a-write-goes-on
