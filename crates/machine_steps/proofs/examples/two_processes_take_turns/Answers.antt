use Rattle.machine_steps.proofs.WorkedSteps.{two-processes-take-turns}
use Rattle.machine_steps.proofs.examples.two_processes_take_turns.Goals as goal

pub returns : goal.returns
returns c = two-processes-take-turns
