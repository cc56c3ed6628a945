-- What is read of the file of a program.
use Rattle.std.proofs.Common.{◌≡◌, ◌∙◌, ℕ, ◌^◌, ◌<◌, List, ◌++◌, find, refl, sym, ap, arith}
use Rattle.std.specs.Prelude.{flat_map}
use Rattle.cap_format.specs.Numbers.{file_header_bytes}
use Rattle.cap_format.specs.Rules.{AllHold}
use Rattle.cap_format.specs.Image as image
use Rattle.cap_format.specs.Image.{identification, byte_rules, field_rules, headers_at, is_table, entry_of, header_count, relocations_in, relocations_of}
use Rattle.asm_image.specs.Pieces.{Piece}
use Rattle.asm_image.specs.Program.{Program, file_header, header_pieces, segment_pieces, table_pieces, count_of, front_of, program_headers, file_of}
use Rattle.asm_image.specs.Sound.{IsProgram}
use Rattle.asm_image.proofs.Standing.{From, past-all}
use Rattle.asm_image.proofs.HeadersRead.{HeadersFit, headers-append, read-headers}
use Rattle.asm_image.proofs.Sizes.{size-headers, size-segments}
use Rattle.asm_image.proofs.Limits.{place-below, code-on-page}
use Rattle.asm_image.proofs.Bounds.{segments-fit, table-fits, relocations-fit}
use Rattle.asm_image.proofs.FrontRead.{IsFront, front, front-bytes}
use Rattle.asm_image.proofs.PartsRead.{PartsStand, read-parts}
use Rattle.asm_image.proofs.TableRead.{read-table}
use Rattle.asm_image.proofs.Room.{end_of_segments, headers-are, count-is, tail_of, has-room}

-- the pieces behind the file header
abbrev body_of : Program → List Piece
body_of p = flat_map header_pieces (program_headers p) ++ tail_of p

file-from : (p : Program) → From (file_of p) 0 (file_header p.entry (count_of p) ++ body_of p)
unfolding file_of
file-from p = record { is = refl }

-- the file begins with the identification
pub first-bytes : (p : Program) → AllHold (byte_rules (file_of p) 0 identification)
unfolding file_of
first-bytes p = front-bytes p.entry (count_of p) (body_of p)

-- what is read of the file of a program is the program's
pub record IsRead (p : Program) : Type 0 where
  pub fields : AllHold (field_rules (file_of p))
  pub count : header_count (file_of p) ≡ count_of p
  pub entry : entry_of (file_of p) ≡ p.entry
  pub headers : image.headers_of (file_of p) ≡ program_headers p
  pub relocations : relocations_of (file_of p) ≡ p.relocations
  pub parts : PartsStand (file_of p) (front_of p) p.segments

-- it is so for each program
pub file-read : (p : Program) → IsProgram p → IsRead p
file-read p is =
    let file : List ℕ = file_of p in
    let start : ℕ = front_of p in
    let end : ℕ = end_of_segments p in
    let room = has-room p is in
    let small : p.entry < 2 ^ 64 = omega (arith, place-below p.entry 0 p.segments is.segments (code-on-page p.entry p.segments is.entry_on_page)) in
    let begins : IsFront file p.entry (count_of p) (body_of p) = front file p.entry (count_of p) (body_of p) (file-from p) small room.some room.most in
    let fit : HeadersFit (program_headers p) =
    rw (headers-are p) (headers-append _ _ (segments-fit 0 start p.segments is.segments (omega arith)) (table-fits end p.relocations (omega arith) room.few)) in
    let read : headers_at file file_header_bytes (count_of p) ≡ program_headers p = rw (sym (count-is p)) (read-headers file (tail_of p) file_header_bytes (program_headers p) fit begins.behind) in
    let headers : image.headers_of file ≡ program_headers p = ap (headers_at file file_header_bytes) begins.count_is ∙ read in
    let behind : From file start (tail_of p) = past-all (flat_map header_pieces (program_headers p)) (tail_of p) begins.behind start (omega (arith, size-headers (program_headers p), count-is p)) in
    let last : From file end (table_pieces end p.relocations) =
    past-all (segment_pieces start p.segments) (table_pieces end p.relocations) behind end (size-segments start p.segments) in
    record {
      fields = begins.fields;
      count = begins.count_is;
      entry = begins.entry_is;
      headers = headers;
      relocations = ap (λ all. relocations_in file (find is_table all)) (headers ∙ headers-are p)
          ∙ read-table file start end p.segments p.relocations (relocations-fit p.segments 0 p.relocations is.segments is.relocations) last;
      parts = read-parts file start p.segments (table_pieces end p.relocations) behind;
    }
