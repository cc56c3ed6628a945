use Rattle.std.proofs.Common.{◌≡◌, ◌≤◌, replicate, vec_capacity}
use Rattle.cap_format.specs.Made.{null}
use Rattle.cap_format.specs.declared.TheConstants.{PAGE_GRANULES}
use Rattle.tagged_memory.proofs.memory.Memory.new.Given as goal

-- so many frames are made, and there is room for all
abbrev pub invariant-loop : goal.invariant-loop
invariant-loop l = (l.made.items ≡ replicate l.counter (replicate PAGE_GRANULES null)) × (l.frames ≤ vec_capacity l.made)
