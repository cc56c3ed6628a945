use Rattle.std.proofs.Common.{◌≡◌, ◌+◌, ◌-◌, ◌≤◌, length, drop}
use Rattle.asm_text.specs.Lines.{lines_from}
use Rattle.asm_text.specs.Source.{of_lines, source_of}
use Rattle.asm_text.proofs.SourceRead.{put-before}
use Rattle.asm_text.proofs.source.read_source.Given as goal

-- the items that were read, before those of the lines that are left, are the source
abbrev pub invariant-loop-at : goal.invariant-loop-at
invariant-loop-at l = record {
  within : l.at ≤ length l.text + 1;
  number : l.line ≤ l.at + 1;
  read : put-before l.items.items (of_lines l.text l.line (lines_from l.at (drop l.at l.text))) ≡ source_of l.text;
}

abbrev pub decreases-loop-at : goal.decreases-loop-at
decreases-loop-at l = length l.text - l.at
