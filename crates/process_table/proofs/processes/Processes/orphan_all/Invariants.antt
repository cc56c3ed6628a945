use Rattle.std.proofs.Common.{◌≡◌, map, take, drop, ◌++◌, length}
use Rattle.machine.specs.Processes.{orphaned}
use Rattle.process_table.proofs.processes.Processes.orphan_all.Given as goal

-- the slots that the loop came to are done, and the others as they were
abbrev pub invariant-loop-i : goal.invariant-loop-i
invariant-loop-i l = record {
  mapped : l.self-inside.slots.items ≡ map (orphaned l.id) (take l.i l.initial.self-inside.slots.items) ++ drop l.i l.initial.self-inside.slots.items;
  long : length l.self-inside.slots.items ≡ length l.initial.self-inside.slots.items;
  marks : l.self-inside.marks.items ≡ l.initial.self-inside.marks.items;
}
