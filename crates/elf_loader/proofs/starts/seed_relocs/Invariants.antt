use Rattle.std.proofs.Common.{drop}
use Rattle.elf_loader.proofs.RelocationsSeeded.{HasSeededBut}
use Rattle.elf_loader.proofs.starts.seed_relocs.Given as goal

-- the capabilities of the relocations before the index are stored
abbrev pub invariant-loop-reloc : goal.invariant-loop-reloc
invariant-loop-reloc g l = HasSeededBut g.S.Stores.stands_for g.S.Stores.translation_at l.relocs l.initial.space l.space (drop l.reloc-index l.relocs)
