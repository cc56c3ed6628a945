use Rattle.std.proofs.Common.{◌≡◌, ℕ, ◌≤◌, ◌<◌, false}
use Rattle.machine_types.specs.Granules.{is_tagged}
use Rattle.tagged_memory.proofs.frame.Frame.next_tag.Given as goal

-- no granule so far is tagged
abbrev pub invariant-loop-k : goal.invariant-loop-k
invariant-loop-k l = (k : ℕ) → l.first ≤ k → k < l.k → is_tagged l.self k ≡ false
