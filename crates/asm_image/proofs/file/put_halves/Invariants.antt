use Rattle.std.proofs.Common.{◌≡◌, ◌++◌, map, drop}
use Rattle.asm_image.specs.Pieces.{Half, bytes_of}
use Rattle.asm_image.proofs.file.put_halves.Given as goal

-- the bytes so far, and those of the numbers that are left
abbrev pub invariant-loop-half : goal.invariant-loop-half
invariant-loop-half l = l.out.items ++ bytes_of (map Half (drop l.half-index l.halves)) ≡ l.initial.out.items ++ bytes_of (map Half l.halves)
