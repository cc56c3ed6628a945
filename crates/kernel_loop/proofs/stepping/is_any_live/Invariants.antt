use Rattle.std.proofs.Common.{◌≡◌, ℕ, ◌<◌, false}
use Rattle.machine.specs.Processes.{process_at, lives}
use Rattle.kernel_loop.proofs.stepping.is_any_live.Given as goal

-- none is live of the slots that the loop came to
abbrev pub invariant-loop-slot : goal.invariant-loop-slot
invariant-loop-slot l = (k : ℕ) → k < l.slot → lives (process_at l.processes.processes k) ≡ false
