use Rattle.region_plan.proofs.Fronts.{take-set-front}
use Rattle.region_plan.proofs.plan.RegionPlan.free.Goals as goal

pub returns : goal.returns
returns c = take-set-front _ _ _ _ _ c.self.view_is c.requires.region
