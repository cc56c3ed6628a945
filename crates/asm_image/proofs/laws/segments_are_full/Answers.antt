-- The segments of a listing without a fault have just the bytes of its statements.
use Rattle.asm_image.proofs.SegmentsFull.{segments-are-full}
use Rattle.asm_image.proofs.laws.segments_are_full.Goals as goal

pub returns : goal.returns
returns c = segments-are-full
