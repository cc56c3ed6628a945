use Rattle.machine_steps.proofs.WorkedSteps.{touches-are-reported}
use Rattle.machine_steps.proofs.examples.touches_are_reported.Goals as goal

pub returns : goal.returns
returns c = touches-are-reported
