use Rattle.std.proofs.Common.{◌≤◌, arith, ap, subst}
use Rattle.frame_pool.specs.Pool.{Pool, used_count}
use Rattle.frame_pool.proofs.Counts.{used_count-le}
use Rattle.frame_pool.proofs.pool.FramePool.free.Goals as goal

pub overflow_sub-result : goal.overflow_sub-result
overflow_sub-result c =
    let bound = subst (λ (pool : Pool). used_count pool ≤ c.self.inside.size) c.self.view_is (used_count-le _ c.self.invariant.0) in
    omega arith

pub returns : goal.returns
returns c =
    let bound = subst (λ (pool : Pool). used_count pool ≤ c.self.inside.size) c.self.view_is (used_count-le _ c.self.invariant.0) in
    let size = ap (λ (pool : Pool). pool.size) c.self.view_is in
    omega arith
