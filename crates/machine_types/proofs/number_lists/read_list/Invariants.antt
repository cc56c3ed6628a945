use Rattle.std.proofs.Common.{length, ◌-◌, ◌≡◌, ◌≤◌, ◌+◌, drop}
use Rattle.machine_types.specs.Numbers.{most_lines}
use Rattle.machine_types.specs.NumberLists.{lines_of}
use Rattle.machine_types.proofs.LinesRead.{list_from, joined}
use Rattle.machine_types.proofs.number_lists.read_list.Given as goal

-- The list is what was read so far with what the rest is.
abbrev pub invariant-loop-at : goal.invariant-loop-at
invariant-loop-at l = record {
  place : l.at ≤ length l.text + 1;
  count : l.line ≤ most_lines + 1;
  whole : list_from l.least l.most 1 (lines_of l.text) ≡ joined l.entries.items (list_from l.least l.most l.line (lines_of (drop l.at l.text)));
}

abbrev pub decreases-loop-at : goal.decreases-loop-at
decreases-loop-at l = length l.text + 1 - l.at
