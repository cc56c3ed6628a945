-- The file of a program holds the program.
use Rattle.std.proofs.Common.{◌≡◌, ◌∙◌, ℕ, List, [], ◌∷◌, ◌++◌, filter, refl, ap}
use Rattle.std.specs.List.{AllZip}
use Rattle.cap_format.specs.Image.{is_segment, segments_of}
use Rattle.cap_format.specs.declared.image.Relocation.{Relocation}
use Rattle.asm_image.specs.Program.{Segment, Program, segment_headers, segment_header, table_headers, after, front_of, file_of}
use Rattle.asm_image.specs.Sound.{IsProgram}
use Rattle.asm_image.specs.Laws.{Holds, FilesHoldPrograms}
use Rattle.asm_image.proofs.PartsRead.{PartsStand}
use Rattle.asm_image.proofs.Room.{end_of_segments, headers-are}
use Rattle.asm_image.proofs.FilesRead.{IsRead, file-read}

-- the headers of segments are segments, and the table's is none
segments-kept : (at end : ℕ) (segments : List Segment) (relocations : List Relocation)
    → filter is_segment (segment_headers at segments ++ table_headers end relocations) ≡ segment_headers at segments
segments-kept at end [] [] = refl
segments-kept at end [] (relocation ∷ relocations) = refl
segments-kept at end (segment ∷ segments) relocations = ap (λ headers. segment_header at segment ∷ headers) (segments-kept (after at segment) end segments relocations)

-- each holds its segment, where the segments' bytes stand
parts-held : (file : List ℕ) (at : ℕ) (segments : List Segment) → PartsStand file at segments → AllZip (Holds file) (segment_headers at segments) segments
parts-held file at [] stand = tt
parts-held file at (segment ∷ segments) (here, there) = (
  record {
    start = refl;
    rights = refl;
    in_file = refl;
    in_memory = refl;
    bytes = here;
  },
  parts-held file (after at segment) segments there,
)

-- what is read of a program's file is the program
pub files-hold-programs : (p : Program) → IsProgram p → FilesHoldPrograms p
files-hold-programs p is =
    let read : IsRead p = file-read p is in
    let same : segments_of (file_of p) ≡ segment_headers (front_of p) p.segments =
    ap (filter is_segment) (read.headers ∙ headers-are p) ∙ segments-kept (front_of p) (end_of_segments p) p.segments p.relocations in
    record {
      segments = rw same (parts-held (file_of p) (front_of p) p.segments read.parts);
      relocations = read.relocations;
      entry = read.entry;
    }
