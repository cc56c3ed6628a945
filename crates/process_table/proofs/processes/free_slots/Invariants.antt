use Rattle.std.proofs.Common.{◌≡◌, ◌≤◌, replicate, vec_capacity}
use Rattle.std.specs.Prelude.{None}
use Rattle.process_table.proofs.processes.free_slots.Given as goal

-- so many slots are made, and there is room for all
abbrev pub invariant-loop : goal.invariant-loop
invariant-loop l = (l.slots.items ≡ replicate l.counter None) × (l.count ≤ vec_capacity l.slots)
