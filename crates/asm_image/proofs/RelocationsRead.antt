-- Relocations that stand in a file are read back.
use Rattle.std.proofs.Common.{◌≡◌, ℕ, ◌+◌, ◌^◌, ◌<◌, List, [], ◌∷◌, ◌++◌, length, refl, arith}
use Rattle.std.specs.Prelude.{flat_map}
use Rattle.cap_format.specs.Numbers.{relocation_bytes}
use Rattle.cap_format.specs.FileNumbers.{u64_at}
use Rattle.cap_format.specs.Image.{relocation_at, relocations_at}
use Rattle.cap_format.specs.declared.image.Relocation.{Relocation}
use Rattle.asm_image.specs.Pieces.{Piece}
use Rattle.asm_image.specs.Program.{relocation_pieces}
use Rattle.asm_image.proofs.Standing.{From, read64, past, past-all}

-- the numbers of a relocation fit their fields
pub record RelocationFits (relocation : Relocation) : Type 0 where
  pub place : relocation.place < 2 ^ 64
  pub base : relocation.base < 2 ^ 64
  pub span : relocation.span < 2 ^ 64
  pub offset : relocation.offset < 2 ^ 64
  pub perms : relocation.perms < 2 ^ 64

-- so do those of each
abbrev pub RelocationsFit : List Relocation → Type 0
RelocationsFit [] = Unit {0}
RelocationsFit (relocation ∷ relocations) = RelocationFits relocation × RelocationsFit relocations

read-relocation : (file : List ℕ) (rest : List Piece) (r : ℕ) (relocation : Relocation) → RelocationFits relocation
    → From file r (relocation_pieces relocation ++ rest) → relocation_at file r ≡ relocation
read-relocation file rest r relocation fits at0 =
    let at8 = past at0 (r + 8) refl in
    let at16 = past at8 (r + 16) (omega arith) in
    let at24 = past at16 (r + 24) (omega arith) in
    let at32 = past at24 (r + 32) (omega arith) in
    let place : u64_at file r ≡ relocation.place = read64 at0 fits.place in
    let base : u64_at file (r + 8) ≡ relocation.base = read64 at8 fits.base in
    let span : u64_at file (r + 16) ≡ relocation.span = read64 at16 fits.span in
    let offset : u64_at file (r + 24) ≡ relocation.offset = read64 at24 fits.offset in
    let perms : u64_at file (r + 32) ≡ relocation.perms = read64 at32 fits.perms in
    rw (place, base, span, offset, perms) refl

-- the relocations that stand from a place on
pub read-relocations : (file : List ℕ) (rest : List Piece) (r : ℕ) (relocations : List Relocation) → RelocationsFit relocations
    → From file r (flat_map relocation_pieces relocations ++ rest) → relocations_at file r (length relocations) ≡ relocations
read-relocations file rest r [] fits stands = refl
read-relocations file rest r (relocation ∷ relocations) (here, there) stands =
    let behind = flat_map relocation_pieces relocations ++ rest in
    let first : relocation_at file r ≡ relocation = read-relocation file behind r relocation here stands in
    let others : relocations_at file (r + relocation_bytes) (length relocations) ≡ relocations =
    read-relocations file rest (r + relocation_bytes) relocations there (past-all (relocation_pieces relocation) behind stands (r + relocation_bytes) refl) in
    cc
