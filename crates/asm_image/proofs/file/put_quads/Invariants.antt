use Rattle.std.proofs.Common.{◌≡◌, ◌++◌, map, drop}
use Rattle.asm_image.specs.Pieces.{Quad, bytes_of}
use Rattle.asm_image.proofs.file.put_quads.Given as goal

-- the bytes so far, and those of the numbers that are left
abbrev pub invariant-loop-quad : goal.invariant-loop-quad
invariant-loop-quad l = l.out.items ++ bytes_of (map Quad (drop l.quad-index l.quads)) ≡ l.initial.out.items ++ bytes_of (map Quad l.quads)
