use Rattle.machine_steps.proofs.WorkedSteps.{one-process-calls}
use Rattle.machine_steps.proofs.examples.one_process_calls.Goals as goal

pub returns : goal.returns
returns c = one-process-calls
