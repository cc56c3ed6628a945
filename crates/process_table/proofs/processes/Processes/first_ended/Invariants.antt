use Rattle.std.proofs.Common.{◌≡◌, ◌-◌, drop}
use Rattle.machine.specs.Processes.{first_ended}
use Rattle.process_table.specs.Tables.{told}
use Rattle.process_table.proofs.processes.Processes.first_ended.Given as goal

-- the least of the slots behind
abbrev pub invariant-loop-done : goal.invariant-loop-done
invariant-loop-done l = l.least ≡ told (first_ended l.parent (drop (l.count - l.done) l.self-inside.slots.items))
