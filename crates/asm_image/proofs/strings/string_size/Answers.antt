-- The bytes of a string are counted one by one.
use Rattle.std.proofs.Common.{arith}
use Rattle.asm_image.specs.Places.{string_of}
use Rattle.asm_image.proofs.strings.string_size.Goals as goal

pub loop-taken-init : goal.loop-taken-init
unfolding string_of
loop-taken-init c = (rw c.behind_quote-rest.ensures (omega arith), omega arith)
