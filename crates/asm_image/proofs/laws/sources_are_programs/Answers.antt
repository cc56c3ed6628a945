-- A source without a fault comes to a program.
use Rattle.asm_image.proofs.SourceImages.{sources-are-programs}
use Rattle.asm_image.proofs.laws.sources_are_programs.Goals as goal

pub returns : goal.returns
returns c = sources-are-programs c.sources_have_ranges.ensures
