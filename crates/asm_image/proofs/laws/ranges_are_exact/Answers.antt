use Rattle.asm_image.proofs.Immediates.{ranges-are-tables}
use Rattle.asm_image.proofs.laws.ranges_are_exact.Goals as goal

pub returns : goal.returns
returns c = ranges-are-tables
