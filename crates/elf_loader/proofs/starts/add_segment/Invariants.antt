use Rattle.elf_loader.specs.Start.{page_count}
use Rattle.elf_loader.proofs.SegmentAdded.{HasAdded}
use Rattle.elf_loader.proofs.starts.add_segment.Given as goal

-- so many pages are added
abbrev pub invariant-loop-number : goal.invariant-loop-number
invariant-loop-number g l = HasAdded g.S.Stores.stands_for g.S.Stores.translation_at l.bytes l.segment (page_count l.segment) l.initial.space l.space l.number
