use Rattle.process_table.proofs.Scans.{AllTaken}
use Rattle.process_table.proofs.processes.Processes.lowest_free.Given as goal

-- each slot before has a process
abbrev pub invariant-loop-slot : goal.invariant-loop-slot
invariant-loop-slot l = AllTaken l.self-inside.slots.items l.slot
