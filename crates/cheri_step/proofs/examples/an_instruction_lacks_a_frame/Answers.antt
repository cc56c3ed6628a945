use Rattle.cheri_step.proofs.WorkedOut.{lacks-a-frame}
use Rattle.cheri_step.proofs.examples.an_instruction_lacks_a_frame.Goals as goal

pub returns : goal.returns
returns c = lacks-a-frame
