-- The bytes of a string are added one by one.
use Rattle.std.proofs.Common.{refl}
use Rattle.asm_image.specs.Places.{string_of}
use Rattle.asm_image.proofs.strings.push_string.Goals as goal

pub loop-byte-init : goal.loop-byte-init
unfolding string_of
loop-byte-init c = rw c.behind_quote-rest.ensures refl
