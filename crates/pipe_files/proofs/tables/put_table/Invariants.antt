use Rattle.std.proofs.Common.{◌≡◌, map, slice_set}
use Rattle.pipe_files.specs.Counts.{parts}
use Rattle.pipe_files.specs.Tables.{entries_at, AreKept}
use Rattle.pipe_files.proofs.Filling.{filled}
use Rattle.pipe_files.proofs.tables.put_table.Given as goal

-- the entries that the loop came to are written, and all is kept
abbrev pub invariant-loop-fd : goal.invariant-loop-fd
invariant-loop-fd l = record {
  tables : l.tables.items ≡ slice_set l.initial.tables.items l.slot (filled l.fd l.table (entries_at l.initial.tables.items l.slot));
  kept : AreKept l.descriptions l.tables.items l.pipes.items;
  rest : map parts l.pipes.items ≡ map parts l.initial.pipes.items;
}
