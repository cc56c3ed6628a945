-- The parts of a program's file, and how far they go.
use Rattle.std.proofs.Common.{◌≡◌, ℕ, ◌+◌, ◌*◌, ◌≤◌, List, [], ◌∷◌, ◌++◌, length, refl, arith, length-append}
use Rattle.std.specs.Prelude.{flat_map}
use Rattle.cap_format.specs.Numbers.{region_bytes, page_bytes, file_header_bytes, program_header_bytes, most_headers}
use Rattle.cap_format.specs.SetBounds.{up_to}
use Rattle.cap_format.specs.declared.image.Relocation.{Relocation}
use Rattle.asm_image.specs.Pieces.{Piece}
use Rattle.asm_image.specs.Program.{Program, header_pieces, segment_headers, segment_pieces, after_all, table_count, table_headers, table_pieces, count_of, front_of, program_headers, pieces_of, file_of}
use Rattle.asm_image.specs.Sound.{IsProgram}
use Rattle.asm_image.proofs.Standing.{size_all, size-append, length-pieces}
use Rattle.asm_image.proofs.Sizes.{size-headers, size-segments, length-segments, length-table, after-all-above}
use Rattle.asm_image.proofs.Limits.{after-all-most, relocations-most}

-- where the segments end in the file
abbrev pub end_of_segments : Program → ℕ
end_of_segments p = after_all (front_of p) p.segments

-- the headers are those of the segments, and then the table's
pub headers-are : (p : Program) → program_headers p ≡ segment_headers (front_of p) p.segments ++ table_headers (end_of_segments p) p.relocations
unfolding program_headers
headers-are p = refl

-- and they are as many as the file header says
pub count-is : (p : Program) → length (program_headers p) ≡ count_of p
unfolding program_headers count_of
count-is p =
    omega (
      arith,
      length-append (segment_headers (front_of p) p.segments) (table_headers (end_of_segments p) p.relocations),
      length-segments (front_of p) p.segments,
      length-table (end_of_segments p) p.relocations,
    )

front-is : (p : Program) → front_of p ≡ file_header_bytes + program_header_bytes * count_of p
unfolding front_of
front-is p = refl

table-count-most : (relocations : List Relocation) → table_count relocations ≤ 1
table-count-most [] = omega arith
table-count-most (relocation ∷ relocations) = omega arith

count-bounds : (p : Program) → IsProgram p → (1 ≤ count_of p) × (count_of p ≤ most_headers)
unfolding count_of
count-bounds p is = (omega (arith, is.some), omega (arith, is.few, table-count-most p.relocations))

-- the pieces behind the program headers
abbrev pub tail_of : Program → List Piece
tail_of p = segment_pieces (front_of p) p.segments ++ table_pieces (end_of_segments p) p.relocations

length-file : (p : Program) → end_of_segments p + size_all (table_pieces (end_of_segments p) p.relocations) ≡ length (file_of p)
unfolding file_of front_of
length-file p =
    omega (
      arith,
      length-pieces (pieces_of p),
      size-append (flat_map header_pieces (program_headers p)) (tail_of p),
      size-append (segment_pieces (front_of p) p.segments) (table_pieces (end_of_segments p) p.relocations),
      size-headers (program_headers p),
      count-is p,
      size-segments (front_of p) p.segments,
    )

-- how far the parts of a program's file go
pub record HasRoom (p : Program) : Type 0 where
  pub some : 1 ≤ count_of p
  pub most : count_of p ≤ most_headers
  pub starts : front_of p ≡ file_header_bytes + program_header_bytes * count_of p
  pub above : front_of p ≤ end_of_segments p
  pub end : end_of_segments p ≤ page_bytes + region_bytes
  pub few : length p.relocations ≤ 65536
  pub whole : end_of_segments p + size_all (table_pieces (end_of_segments p) p.relocations) ≡ length (file_of p)

-- those of a program have room
pub has-room : (p : Program) → IsProgram p → HasRoom p
has-room p is =
    let (some, most) = count-bounds p is in
    let starts = front-is p in
    let limit : end_of_segments p + 0 ≤ up_to (front_of p) page_bytes + region_bytes = after-all-most (front_of p) 0 p.segments refl (omega arith) is.segments in
    record {
      some = some;
      most = most;
      starts = starts;
      above = after-all-above (front_of p) p.segments;
      end = omega arith;
      few = omega (arith, relocations-most p.segments 0 p.relocations is.segments (omega arith) is.relocations);
      whole = length-file p;
    }
