-- The numbers of a source are in their ranges.
use Rattle.asm_text.proofs.SourceRanges.{source-ranged}
use Rattle.asm_text.proofs.laws.sources_have_ranges.Goals as goal

pub returns : goal.returns
returns c = source-ranged
