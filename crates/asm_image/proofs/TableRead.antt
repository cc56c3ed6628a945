-- The table of relocations, of a file that has one or none.
use Rattle.std.proofs.Common.{◌≡◌, ◌∙◌, ℕ, ◌+◌, ◌-◌, ◌*◌, ◌/◌, ◌≤◌, true, List, [], ◌∷◌, ◌++◌, length, find, refl, ap, arith}
use Rattle.std.specs.Prelude.{flat_map}
use Rattle.std.proofs.lemmas.List.{append-nil}
use Rattle.std.proofs.lemmas.Grind.{common_steps}
use Rattle.cap_format.specs.Numbers.{relocation_bytes}
use Rattle.cap_format.specs.SetBounds.{up_to}
use Rattle.cap_format.specs.Rules.{AllHold}
use Rattle.cap_format.specs.Image.{is_table, headers_rules, relocations_at, relocations_in}
use Rattle.cap_format.specs.declared.image.ProgramHeader.{ProgramHeader}
use Rattle.cap_format.specs.declared.image.Relocation.{Relocation}
use Rattle.asm_image.specs.Program.{Segment, relocation_pieces, segment_headers, after, table_headers, table_pieces}
use Rattle.asm_image.proofs.Standing.{From, size_all, past}
use Rattle.asm_image.proofs.RelocationsRead.{RelocationsFit, read-relocations}
use Rattle.asm_image.proofs.Sizes.{length-zeros, size-relocations}

-- none of the segments' headers is a table's
find-table : (at : ℕ) (segments : List Segment) (tail : List ProgramHeader) → find is_table (segment_headers at segments ++ tail) ≡ find is_table tail
find-table at [] tail = refl
find-table at (segment ∷ segments) tail = find-table (after at segment) segments tail

table-read : (file : List ℕ) (end : ℕ) (relocations : List Relocation) → RelocationsFit relocations → From file end (table_pieces end relocations)
    → relocations_in file (find is_table (table_headers end relocations)) ≡ relocations
table-read file end [] fit stands = refl
table-read file end (relocation ∷ relocations) fit stands =
    let all = relocation ∷ relocations in
    let count : relocation_bytes * length all / relocation_bytes ≡ length all = omega arith in
    let behind : From file (up_to end 8) (flat_map relocation_pieces all) = past stands (up_to end 8) (omega (arith, length-zeros (up_to end 8 - end))) in
    ap (relocations_at file (up_to end 8)) count ∙ read-relocations file [] (up_to end 8) all fit (rw append-nil behind)

-- the relocations that the table has are read back
pub read-table : (file : List ℕ) (at end : ℕ) (segments : List Segment) (relocations : List Relocation) → RelocationsFit relocations → From file end (table_pieces end relocations)
    → relocations_in file (find is_table (segment_headers at segments ++ table_headers end relocations)) ≡ relocations
read-table file at end segments relocations fit stands =
    ap (relocations_in file) (find-table at segments (table_headers end relocations)) ∙ table-read file end relocations fit stands

-- the table's header keeps its rules
pub table-holds : (n end : ℕ) (relocations : List Relocation) → end + size_all (table_pieces end relocations) ≡ n → length relocations ≤ 65536 → (past h : ℕ)
    → AllHold (headers_rules n past true h (table_headers end relocations))
table-holds n end [] whole few past h = tt
table-holds n end (relocation ∷ relocations) whole few past h =
    let all = relocation ∷ relocations in
    let within : up_to end 8 + relocation_bytes * length all ≡ n = omega (arith, length-zeros (up_to end 8 - end), size-relocations all, whole) in
    (refl, (grind (arith, common_steps), (grind (arith, common_steps), tt)))
