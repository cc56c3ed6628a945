use Rattle.std.proofs.Common.{◌≡◌, ◌≢◌, ℕ, ◌<◌, IsNone, Bool, List, true, false, get_or, rules, refl, subst}
use Rattle.std.proofs.lemmas.Bool.{true≢false}
use Rattle.frame_pool.specs.Pool.{Pool, used_count, IsLeastFree}
use Rattle.frame_pool.proofs.Counts.{used_count-all, not-all}
use Rattle.frame_pool.proofs.pool.FramePool.take.Goals as goal

pub returns-in_err-frame-clause-none : goal.returns-in_err-frame-clause-none
returns-in_err-frame-clause-none c =
    let none : IsNone c.from_residual.result = search rules in
    let all = subst (λ (used : List Bool). (k : ℕ) → k < c.self.inside.size → get_or used k false ≡ true) c.deref.ensures.value (c.in_err-frame.ensures.none refl) in
    let full = subst (λ (pool : Pool). used_count pool ≡ pool.size) c.self.view_is (used_count-all _ c.self.invariant.0 all) in
    (λ _. full, λ _. none)

pub returns-clause-none : goal.returns-clause-none
returns-clause-none c =
    let least = subst (λ (used : List Bool). IsLeastFree (record { size = c.self.inside.size; used = used }) c.in_ok-frame.frame) c.deref.ensures.value c.in_ok-frame.ensures.least in
    let room = subst (λ (pool : Pool). used_count pool ≢ pool.size) c.self.view_is (not-all _ _ c.self.invariant.0 least) in
    (λ is. absurd (true≢false is), λ full. absurd (room full))
