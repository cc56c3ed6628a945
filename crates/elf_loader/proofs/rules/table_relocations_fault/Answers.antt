use Rattle.std.proofs.Common.{◌∙◌, sym}
use Rattle.elf_loader.proofs.Walks.{table-fits, table-room}
use Rattle.elf_loader.proofs.rules.table_relocations_fault.Goals as goal

pub relocations_fault-requires-clause-room : goal.relocations_fault-requires-clause-room
relocations_fault-requires-clause-room c = table-room _ _ _ (table-fits _ _ c.in-Some.table (sym c.table_in.ensures ∙ c.in-Some.is) c.requires.tables)
