use Rattle.std.proofs.Common.{◌≡◌, ◌≤◌, replicate, vec_capacity}
use Rattle.pipe_files.specs.Tables.{unused}
use Rattle.pipe_files.proofs.tables.free_tables.Given as goal

-- so many tables are made, and there is room for all
abbrev pub invariant-loop : goal.invariant-loop
invariant-loop l = (l.tables.items ≡ replicate l.counter unused) × (l.count ≤ vec_capacity l.tables)
