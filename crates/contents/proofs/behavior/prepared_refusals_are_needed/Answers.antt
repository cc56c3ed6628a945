use Rattle.contents.proofs.NeededTouches.{refusal-needed}
use Rattle.contents.proofs.behavior.prepared_refusals_are_needed.Goals as goal

pub returns : goal.returns
returns c = λ c region at n access refused whole least most. refusal-needed c access region at n whole least most refused
