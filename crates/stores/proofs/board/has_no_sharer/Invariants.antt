use Rattle.std.proofs.Common.{◌≡◌, ◌<◌, ℕ}
use Rattle.frame_owners.specs.Homes.{owner}
use Rattle.stores.proofs.board.has_no_sharer.Given as goal

-- none so far has a sharer
abbrev pub invariant-loop-f : goal.invariant-loop-f
invariant-loop-f l = (k : ℕ) → k < l.f → (owner l.owners k).sharers ≡ 0
