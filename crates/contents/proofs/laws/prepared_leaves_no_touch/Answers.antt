use Rattle.contents.proofs.laws.prepared_leaves_no_touch.Goals as goal
use Rattle.contents.proofs.Prepared.{ready}

pub returns : goal.returns
returns c = ready
