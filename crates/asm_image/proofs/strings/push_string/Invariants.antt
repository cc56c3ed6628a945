use Rattle.std.proofs.Common.{◌≡◌, ◌++◌, length}
use Rattle.asm_image.specs.Places.{said_by, string_of}
use Rattle.asm_image.proofs.strings.push_string.Given as goal

-- the bytes added so far, with those that the rest says
abbrev pub invariant-loop-byte : goal.invariant-loop-byte
invariant-loop-byte l = l.out.items ++ said_by l.rest ≡ l.fn.out.items ++ string_of l.fn.text l.fn.span

abbrev pub decreases-loop-byte : goal.decreases-loop-byte
decreases-loop-byte l = length l.rest
