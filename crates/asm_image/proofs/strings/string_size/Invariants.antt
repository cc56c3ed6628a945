use Rattle.std.proofs.Common.{◌≡◌, length, ◌+◌, ◌≤◌}
use Rattle.asm_image.specs.Places.{said_by, string_of}
use Rattle.asm_image.proofs.strings.string_size.Given as goal

-- the bytes counted so far, with those that the rest says, and not more than those that were gone through
abbrev pub invariant-loop-taken : goal.invariant-loop-taken
invariant-loop-taken l = (l.size + length (said_by l.rest) ≡ length (string_of l.fn.text l.fn.span)) × (l.size + length l.rest ≤ length l.initial.rest)

abbrev pub decreases-loop-taken : goal.decreases-loop-taken
decreases-loop-taken l = length l.rest
