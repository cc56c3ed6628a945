-- Program headers that stand in a file are read back.
use Rattle.std.proofs.Common.{◌≡◌, ℕ, ◌+◌, ◌^◌, ◌<◌, List, [], ◌∷◌, ◌++◌, length, refl, arith}
use Rattle.std.specs.Prelude.{flat_map}
use Rattle.cap_format.specs.Numbers.{program_header_bytes}
use Rattle.cap_format.specs.FileNumbers.{u32_at, u64_at}
use Rattle.cap_format.specs.Image.{header_at, headers_at}
use Rattle.cap_format.specs.declared.image.ProgramHeader.{ProgramHeader}
use Rattle.asm_image.specs.Pieces.{Piece}
use Rattle.asm_image.specs.Program.{header_pieces}
use Rattle.asm_image.proofs.Standing.{From, read32, read64, past, past-all}

-- the numbers of a header fit their fields
pub record HeaderFits (header : ProgramHeader) : Type 0 where
  pub kind : header.kind < 2 ^ 32
  pub flags : header.flags < 2 ^ 32
  pub from : header.from < 2 ^ 64
  pub start : header.start < 2 ^ 64
  pub in_file : header.in_file < 2 ^ 64
  pub in_memory : header.in_memory < 2 ^ 64

-- so do those of each
abbrev pub HeadersFit : List ProgramHeader → Type 0
HeadersFit [] = Unit {0}
HeadersFit (header ∷ headers) = HeaderFits header × HeadersFit headers

-- headers behind others fit likewise
pub headers-append : (before after : List ProgramHeader) → HeadersFit before → HeadersFit after → HeadersFit (before ++ after)
headers-append [] after first second = second
headers-append (header ∷ before) after (here, there) second = (here, headers-append before after there second)

read-header : (file : List ℕ) (rest : List Piece) (h : ℕ) (header : ProgramHeader) → HeaderFits header → From file h (header_pieces header ++ rest) → header_at file h ≡ header
read-header file rest h header fits at0 =
    let at4 = past at0 (h + 4) refl in
    let at8 = past at4 (h + 8) (omega arith) in
    let at16 = past at8 (h + 16) (omega arith) in
    let at24 = past at16 (h + 24) (omega arith) in
    let at32 = past at24 (h + 32) (omega arith) in
    let at40 = past at32 (h + 40) (omega arith) in
    let kind : u32_at file h ≡ header.kind = read32 at0 fits.kind in
    let flags : u32_at file (h + 4) ≡ header.flags = read32 at4 fits.flags in
    let from : u64_at file (h + 8) ≡ header.from = read64 at8 fits.from in
    let start : u64_at file (h + 16) ≡ header.start = read64 at16 fits.start in
    let in_file : u64_at file (h + 32) ≡ header.in_file = read64 at32 fits.in_file in
    let in_memory : u64_at file (h + 40) ≡ header.in_memory = read64 at40 fits.in_memory in
    rw (kind, flags, from, start, in_file, in_memory) refl

-- the headers that stand from a place on
pub read-headers : (file : List ℕ) (rest : List Piece) (h : ℕ) (headers : List ProgramHeader) → HeadersFit headers → From file h (flat_map header_pieces headers ++ rest)
    → headers_at file h (length headers) ≡ headers
read-headers file rest h [] fits stands = refl
read-headers file rest h (header ∷ headers) (here, there) stands =
    let behind = flat_map header_pieces headers ++ rest in
    let first : header_at file h ≡ header = read-header file behind h header here stands in
    let others : headers_at file (h + program_header_bytes) (length headers) ≡ headers =
    read-headers file rest (h + program_header_bytes) headers there (past-all (header_pieces header) behind stands (h + program_header_bytes) refl) in
    cc
