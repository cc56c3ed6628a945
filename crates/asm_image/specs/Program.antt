-- What a source comes to, and the file of it. File header and program headers after ELF64 (System V ABI); which fields have what is this
-- project's own.
use Rattle.std.specs.Prelude.{ℕ, ◌+◌, ◌-◌, ◌*◌, ◌%◌, ◌==◌, Bool, ◌&&◌, nat_lt, nat_le, if◌then◌else◌, List, [], ◌∷◌, ◌++◌, length, replicate, flat_map}
use Rattle.cap_format.specs.Numbers.{page_bytes, file_header_bytes, program_header_bytes, relocation_bytes, segment_type, table_type}
use Rattle.cap_format.specs.SetBounds.{up_to}
use Rattle.cap_format.specs.Image.{identification}
use Rattle.cap_format.specs.declared.image.ProgramHeader.{ProgramHeader}
use Rattle.cap_format.specs.declared.image.Relocation.{Relocation}
use Rattle.asm_image.specs.Pieces.{Piece, Half, Word, Quad, Bytes, bytes_of}

-- a segment: its place in the region, the rights of its pages, the bytes of its part of the file, and how many come after them
pub record Segment : Type 0 where
  pub start : ℕ
  pub rights : ℕ
  pub bytes : List ℕ
  pub bss : ℕ

pub record Program : Type 0 where
  pub segments : List Segment
  pub relocations : List Relocation
  pub entry : ℕ

-- the bytes of a segment in the region, and the end of its pages
abbrev pub segment_size : Segment → ℕ
segment_size segment = length segment.bytes + segment.bss

abbrev pub segment_end : Segment → ℕ
segment_end segment = up_to (segment.start + segment_size segment) page_bytes

-- a place in the region is on a page of the segment
abbrev pub holds_place : ℕ → Segment → Bool
holds_place place segment = nat_le segment.start place && nat_lt place (segment_end segment)

-- the same, of a segment that may be executed
abbrev pub holds_code : ℕ → Segment → Bool
holds_code place segment = segment.rights % 2 == 1 && holds_place place segment

-- zeros from a place in the file up to a multiple
abbrev pub zeros_to : ℕ → ℕ → Piece
zeros_to at multiple = Bytes (replicate (up_to at multiple - at) 0)

-- the header of a segment whose bytes follow behind a place in the file, from a multiple of a page on
abbrev pub segment_header : ℕ → Segment → ProgramHeader
segment_header at segment = record {
  kind = segment_type;
  flags = segment.rights;
  from = up_to at page_bytes;
  start = segment.start;
  in_file = length segment.bytes;
  in_memory = segment_size segment;
}

-- where the file stands after a segment's bytes, and after those of all segments
abbrev pub after : ℕ → Segment → ℕ
after at segment = up_to at page_bytes + length segment.bytes

abbrev pub after_all : ℕ → List Segment → ℕ
after_all at [] = at
after_all at (segment ∷ segments) = after_all (after at segment) segments

-- the headers of segments, and their bytes
abbrev pub segment_headers : ℕ → List Segment → List ProgramHeader
segment_headers at [] = []
segment_headers at (segment ∷ segments) = segment_header at segment ∷ segment_headers (after at segment) segments

abbrev pub segment_pieces : ℕ → List Segment → List Piece
segment_pieces at [] = []
segment_pieces at (segment ∷ segments) = zeros_to at page_bytes ∷ Bytes segment.bytes ∷ segment_pieces (after at segment) segments

-- the header of the table of relocations and the table, from a multiple of 8 on, where there are relocations
abbrev pub relocation_pieces : Relocation → List Piece
relocation_pieces relocation =
    Quad relocation.place ∷ Quad relocation.base ∷ Quad relocation.span ∷ Quad relocation.offset ∷ Quad relocation.perms ∷ []

abbrev pub table_headers : ℕ → List Relocation → List ProgramHeader
table_headers at [] = []
table_headers at (relocation ∷ relocations) = record {
  kind = table_type;
  flags = 4;
  from = up_to at 8;
  start = 0;
  in_file = relocation_bytes * length (relocation ∷ relocations);
  in_memory = 0;
} ∷ []

abbrev pub table_pieces : ℕ → List Relocation → List Piece
table_pieces at [] = []
table_pieces at (relocation ∷ relocations) = zeros_to at 8 ∷ flat_map relocation_pieces (relocation ∷ relocations)

-- a program header: type, flags, offset, vaddr, paddr, filesz, memsz, align
abbrev pub header_pieces : ProgramHeader → List Piece
header_pieces header =
    Word header.kind ∷ Word header.flags ∷ Quad header.from ∷ Quad header.start ∷ Quad header.start
    ∷ Quad header.in_file ∷ Quad header.in_memory ∷ Quad (if header.kind == segment_type then page_bytes else 8) ∷ []

-- the file header: type, machine, version, entry, phoff, shoff, flags, ehsize, phentsize, phnum, and three fields on sections
abbrev pub file_header : ℕ → ℕ → List Piece
file_header entry count =
    Bytes identification ∷ Half 3 ∷ Half 243 ∷ Word 1 ∷ Quad entry ∷ Quad file_header_bytes ∷ Quad 0 ∷ Word 0
    ∷ Half file_header_bytes ∷ Half program_header_bytes ∷ Half count ∷ Half 0 ∷ Half 0 ∷ Half 0 ∷ []

-- how many tables there are
abbrev pub table_count : List Relocation → ℕ
table_count [] = 0
table_count (relocation ∷ relocations) = 1

-- how many program headers there are, and where they end
unfoldable pub count_of : Program → ℕ
count_of p = length p.segments + table_count p.relocations

unfoldable pub front_of : Program → ℕ
front_of p = file_header_bytes + program_header_bytes * count_of p

-- the program headers in their order
unfoldable pub program_headers : Program → List ProgramHeader
program_headers p = segment_headers (front_of p) p.segments ++ table_headers (after_all (front_of p) p.segments) p.relocations

-- the file: its header, the program headers, the segments and the table
abbrev pub pieces_of : Program → List Piece
pieces_of p =
    file_header p.entry (count_of p)
    ++ (flat_map header_pieces (program_headers p)
    ++ (segment_pieces (front_of p) p.segments
    ++ table_pieces (after_all (front_of p) p.segments) p.relocations))

unfoldable pub file_of : Program → List ℕ
file_of p = bytes_of (pieces_of p)
