use Rattle.std.proofs.Common.{ℕ, ◌≢◌, ◌<◌, get_or}
use Rattle.machine_types.proofs.number_lists.first_place.Given as goal

-- none of the bytes so far is the byte
abbrev pub invariant-loop-place : goal.invariant-loop-place
invariant-loop-place l = (k : ℕ) → k < l.place → get_or l.text k 0 ≢ l.byte
