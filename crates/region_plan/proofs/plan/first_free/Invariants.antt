use Rattle.std.proofs.Common.{◌≡◌, ◌<◌, ℕ, true}
use Rattle.region_plan.specs.Plan.{is_taken}
use Rattle.region_plan.proofs.plan.first_free.Given as goal

abbrev pub invariant-loop-region : goal.invariant-loop-region
invariant-loop-region l = (k : ℕ) → k < l.region → is_taken l.taken k ≡ true
