use Rattle.contents.proofs.NeededTouches.{prepare-needed}
use Rattle.contents.proofs.behavior.prepared_touches_are_needed.Goals as goal

pub returns : goal.returns
returns c = λ c' region at n access first second whole least most. prepare-needed c' access region at n whole most first second
