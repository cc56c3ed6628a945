use Rattle.std.proofs.Common.{◌≡◌, ◌≤◌, ◌+◌, ◌-◌, length, drop}
use Rattle.asm_text.specs.Scanning.{is_in_class, run_length}
use Rattle.asm_text.proofs.tokens.run.Given as goal

abbrev pub invariant-loop-count : goal.invariant-loop-count
invariant-loop-count l = record {
  within : l.count ≤ length l.bytes;
  counted : l.count + run_length (is_in_class l.class) (drop l.count l.bytes) ≡ run_length (is_in_class l.class) l.bytes;
}

abbrev pub decreases-loop-count : goal.decreases-loop-count
decreases-loop-count l = length l.bytes - l.count
