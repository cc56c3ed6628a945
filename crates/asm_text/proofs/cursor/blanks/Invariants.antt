use Rattle.std.proofs.Common.{◌≡◌, ◌≤◌, ◌+◌, ◌-◌, length, drop}
use Rattle.asm_text.specs.Bytes.{is_blank}
use Rattle.asm_text.specs.Scanning.{run_length}
use Rattle.asm_text.proofs.cursor.blanks.Given as goal

abbrev pub invariant-loop-count : goal.invariant-loop-count
invariant-loop-count l = record {
  within : l.count ≤ length l.bytes;
  counted : l.count + run_length is_blank (drop l.count l.bytes) ≡ run_length is_blank l.bytes;
}

abbrev pub decreases-loop-count : goal.decreases-loop-count
decreases-loop-count l = length l.bytes - l.count
