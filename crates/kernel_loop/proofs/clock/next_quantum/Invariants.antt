use Rattle.std.proofs.Common.{◌≡◌}
use Rattle.kernel_loop.specs.Quanta.{quanta_from}
use Rattle.kernel_loop.proofs.clock.next_quantum.Given as goal

-- the same quanta are left from the pair that the loop came to
abbrev pub invariant-loop-place : goal.invariant-loop-place
invariant-loop-place l = quanta_from l.schedule l.place l.used ≡ quanta_from l.schedule l.initial.pair l.initial.used
