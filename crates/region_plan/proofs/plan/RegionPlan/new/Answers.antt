use Rattle.std.proofs.Common.{false}
use Rattle.std.proofs.lemmas.List.{take-replicate}
use Rattle.region_plan.proofs.plan.RegionPlan.new.Goals as goal

pub returns : goal.returns
returns c = take-replicate c.args.regions 64 false c.requires.most
