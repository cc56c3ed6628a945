use Rattle.machine_steps.proofs.WorkedSteps.{an-image-starts}
use Rattle.machine_steps.proofs.examples.an_image_starts.Goals as goal

pub returns : goal.returns
returns c = an-image-starts
