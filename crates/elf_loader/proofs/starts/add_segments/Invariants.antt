use Rattle.std.proofs.Common.{drop}
use Rattle.elf_loader.proofs.SegmentsAdded.{HasAddedBut}
use Rattle.elf_loader.proofs.starts.add_segments.Given as goal

-- the segments before the index are added
abbrev pub invariant-loop-segment : goal.invariant-loop-segment
invariant-loop-segment g l = HasAddedBut g.S.Stores.stands_for g.S.Stores.translation_at l.bytes l.segments l.initial.space l.space (drop l.segment-index l.segments)
