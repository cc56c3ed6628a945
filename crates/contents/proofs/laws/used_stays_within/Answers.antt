use Rattle.contents.proofs.CallShapes.{each-call}
use Rattle.contents.proofs.UsedFrames.{StaysWithin, within-steps}
use Rattle.contents.proofs.laws.used_stays_within.Goals as goal

pub returns : goal.returns
returns c = each-call StaysWithin within-steps
