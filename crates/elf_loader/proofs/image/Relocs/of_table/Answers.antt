use Rattle.std.proofs.Common.{◌∙◌, sym}
use Rattle.elf_loader.proofs.Walks.{table-fits, table-room}
use Rattle.elf_loader.proofs.image.Relocs.of_table.Goals as goal

pub read-requires-clause-room : goal.read-requires-clause-room
read-requires-clause-room c = table-room _ _ _ (table-fits _ _ c.in-Some.table (sym c.table_in.ensures ∙ c.in-Some.is) c.requires.tables)
