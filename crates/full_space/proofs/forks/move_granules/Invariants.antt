use Rattle.std.proofs.Common.{◌≡◌, ◌≤◌, ◌-◌}
use Rattle.cap_format.specs.Numbers.{page_granules}
use Rattle.tagged_memory.specs.Frames.{frame, with_frame}
use Rattle.full_space.specs.Steps.{moved_below}
use Rattle.full_space.proofs.forks.move_granules.Given as goal

-- the granules before this one are moved
abbrev pub invariant-loop-g : goal.invariant-loop-g
invariant-loop-g l = record {
  within : l.first ≤ page_granules;
  is : l.memory ≡ with_frame l.fn.memory l.f.0 (moved_below l.from l.to l.first (frame l.fn.memory l.f.0));
}

-- the granules that are left
abbrev pub decreases-loop-g : goal.decreases-loop-g
decreases-loop-g l = page_granules - l.first
