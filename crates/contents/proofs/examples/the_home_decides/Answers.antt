use Rattle.contents.proofs.WorkedOut.{home-decides}
use Rattle.contents.proofs.examples.the_home_decides.Goals as goal

pub returns : goal.returns
returns c = home-decides
