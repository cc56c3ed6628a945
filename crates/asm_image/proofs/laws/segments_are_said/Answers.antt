-- The segments of a listing are those that it says.
use Rattle.asm_image.proofs.SegmentsSaid.{segments-are-said}
use Rattle.asm_image.proofs.laws.segments_are_said.Goals as goal

pub returns : goal.returns
returns c = segments-are-said
