use Rattle.std.proofs.Common.{◌≤◌, ◌<◌, ◌-◌, ℕ, length}
use Rattle.std.specs.Prelude.{slice_get}
use Rattle.asm_text.specs.Cursors.{IsNoLineEnd}
use Rattle.asm_text.proofs.source.line_end.Given as goal

-- no byte before the end is a line feed
abbrev pub invariant-loop-end : goal.invariant-loop-end
invariant-loop-end l = record {
  from : l.at ≤ l.end;
  to : l.end ≤ length l.text;
  before : (k : ℕ) → l.at ≤ k → k < l.end → IsNoLineEnd (slice_get l.text k);
}

abbrev pub decreases-loop-end : goal.decreases-loop-end
decreases-loop-end l = length l.text - l.end
