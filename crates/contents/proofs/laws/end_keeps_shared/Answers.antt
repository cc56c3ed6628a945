use Rattle.contents.proofs.laws.end_keeps_shared.Goals as goal
use Rattle.contents.proofs.Ended.{others-stay, own-leave}

pub returns : goal.returns
returns c = record { others = others-stay; own = own-leave }
