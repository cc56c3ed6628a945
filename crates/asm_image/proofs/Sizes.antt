-- How many bytes the parts of a file have.
use Rattle.std.proofs.Common.{◌≡◌, ℕ, ◌+◌, ◌-◌, ◌*◌, ◌≤◌, List, [], ◌∷◌, length, replicate, refl, arith}
use Rattle.std.specs.Prelude.{flat_map}
use Rattle.std.proofs.lemmas.Grind.{common_steps}
use Rattle.cap_format.specs.Numbers.{page_bytes, program_header_bytes, relocation_bytes}
use Rattle.cap_format.specs.SetBounds.{up_to}
use Rattle.cap_format.specs.declared.image.ProgramHeader.{ProgramHeader}
use Rattle.cap_format.specs.declared.image.Relocation.{Relocation}
use Rattle.asm_image.specs.Program.{Segment, header_pieces, relocation_pieces, segment_headers, segment_pieces, table_headers, table_pieces, table_count, after, after_all}
use Rattle.asm_image.proofs.Standing.{size_all, size-append}

-- program headers
pub size-headers : (headers : List ProgramHeader) → size_all (flat_map header_pieces headers) ≡ program_header_bytes * length headers
size-headers [] = refl
size-headers (header ∷ headers) = omega (arith, size-append (header_pieces header) (flat_map header_pieces headers), size-headers headers)

-- relocations
pub size-relocations : (relocations : List Relocation) → size_all (flat_map relocation_pieces relocations) ≡ relocation_bytes * length relocations
size-relocations [] = refl
size-relocations (relocation ∷ relocations) = omega (arith, size-append (relocation_pieces relocation) (flat_map relocation_pieces relocations), size-relocations relocations)

-- each segment has a header
pub length-segments : (at : ℕ) (segments : List Segment) → length (segment_headers at segments) ≡ length segments
length-segments at [] = refl
length-segments at (segment ∷ segments) = omega (arith, length-segments (after at segment) segments)

-- and so has the table, where there is one
pub length-table : (at : ℕ) (relocations : List Relocation) → length (table_headers at relocations) ≡ table_count relocations
length-table at [] = refl
length-table at (relocation ∷ relocations) = refl

-- zeros are as many as are asked for
pub length-zeros : (n : ℕ) → length (replicate {A = ℕ} n 0) ≡ n
length-zeros n = grind (arith, common_steps)

-- the segments' bytes go up to where the file stands after them
pub size-segments : (at : ℕ) (segments : List Segment) → at + size_all (segment_pieces at segments) ≡ after_all at segments
size-segments at [] = omega arith
size-segments at (segment ∷ segments) = omega (arith, length-zeros (up_to at page_bytes - at), size-segments (after at segment) segments)

-- which isn't before them
pub after-all-above : (at : ℕ) (segments : List Segment) → at ≤ after_all at segments
after-all-above at segments = omega (arith, size-segments at segments)

-- the table's relocations, behind fewer than 8 zeros
pub size-table : (at : ℕ) (relocations : List Relocation) → size_all (table_pieces at relocations) ≤ 7 + relocation_bytes * length relocations
size-table at [] = omega arith
size-table at (relocation ∷ relocations) = omega (arith, length-zeros (up_to at 8 - at), size-relocations (relocation ∷ relocations))
