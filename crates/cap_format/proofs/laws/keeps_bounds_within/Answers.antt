use Rattle.cap_format.proofs.Bases.{within-base, within-top}
use Rattle.cap_format.proofs.laws.keeps_bounds_within.Goals as goal

pub returns : goal.returns
returns c = λ bits address _ h from to. (within-base bits address h from to, within-top bits address h from to)
