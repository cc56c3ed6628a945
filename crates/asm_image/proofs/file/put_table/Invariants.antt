use Rattle.std.proofs.Common.{◌≡◌, ◌++◌, drop}
use Rattle.std.specs.Prelude.{flat_map}
use Rattle.asm_image.specs.Pieces.{bytes_of}
use Rattle.asm_image.specs.Program.{relocation_pieces}
use Rattle.asm_image.proofs.file.put_table.Given as goal

-- the bytes so far, and those of the relocations that are left
abbrev pub invariant-loop-relocation : goal.invariant-loop-relocation
invariant-loop-relocation l =
    l.out.items ++ bytes_of (flat_map relocation_pieces (drop l.relocation-index l.relocations))
    ≡ l.initial.out.items ++ bytes_of (flat_map relocation_pieces l.relocations)
