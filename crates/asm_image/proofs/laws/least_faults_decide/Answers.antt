-- The fault of rules is the least one.
use Rattle.asm_image.proofs.LeastFaults.{least-faults-decide}
use Rattle.asm_image.proofs.laws.least_faults_decide.Goals as goal

pub returns : goal.returns
returns c = least-faults-decide
