-- Laws of the assembler, in plain sentences: each is the contract of a function of this crate.
use Rattle.std.specs.Prelude.{◌≡◌, ◌↔◌, ℕ, ◌+◌, ◌-◌, ◌*◌, ◌^◌, ◌<◌, ◌≤◌, ℤ, pos, ◌+ℤ◌, ◌≤ℤ◌, ◌<ℤ◌, true, Option, None, Ok, List, [], ◌∷◌, ◌++◌, Any, length, take, drop, map, flat_map, sum_by}
use Rattle.std.specs.List.{All, AllZip}
use Rattle.std.specs.Int.{int_rem_euclid}
use Rattle.cap_format.specs.Image.{IsImage, segments_of, relocations_of, entry_of}
use Rattle.cap_format.specs.declared.image.ProgramHeader.{ProgramHeader}
use Rattle.riscv_decode.specs.declared.instr.Instr.{Instr}
use Rattle.riscv_decode.specs.Table.{IsInRange}
use Rattle.asm_text.specs.declared.listing.What.{What}
use Rattle.asm_text.specs.declared.listing.What.TheVariants as what
use Rattle.asm_text.specs.declared.listing.Item.{Item}
use Rattle.asm_text.specs.Ranges.{HasRegisters}
use Rattle.asm_text.specs.Source.{source_of}
use Rattle.asm_image.specs.declared.place.OpenSegment.{OpenSegment}
use Rattle.asm_image.specs.Program.{Segment, Program, segment_size, file_of}
use Rattle.asm_image.specs.Sound.{IsProgram}
use Rattle.asm_image.specs.Places.{natural, bss_of, place_in, open_after}
use Rattle.asm_image.specs.Labels.{Offsets, offsets_in}
use Rattle.asm_image.specs.Values.{fits_data, fits_instr, with_immediate, HasSign, data_bytes, item_bytes}
use Rattle.asm_image.specs.Rules.{is_content}
use Rattle.asm_image.specs.Assembled.{segments_in, program_of, fault_of, assembled}

-- the file of a program is an image
abbrev pub FilesAreImages : Type 0
FilesAreImages = (p : Program) → IsProgram p → IsImage (file_of p)

-- A header of a file says a segment, and its part of the file has the segment's bytes.
pub record Holds (file : List ℕ) (header : ProgramHeader) (segment : Segment) : Type 0 where
  pub start : header.start ≡ segment.start
  pub rights : header.flags ≡ segment.rights
  pub in_file : header.in_file ≡ length segment.bytes
  pub in_memory : header.in_memory ≡ segment_size segment
  pub bytes : take header.in_file (drop header.from file) ≡ segment.bytes

-- The image of a program holds its segments, its relocations and its entry, in their order, and nothing else.
pub record FilesHoldPrograms (p : Program) : Type 0 where
  pub segments : AllZip (Holds (file_of p)) (segments_of (file_of p)) p.segments
  pub relocations : relocations_of (file_of p) ≡ p.relocations
  pub entry : entry_of (file_of p) ≡ p.entry

abbrev pub FilesAreExact : Type 0
FilesAreExact = (p : Program) → IsProgram p → FilesHoldPrograms p

-- a source without a fault comes to a program
abbrev pub SourcesArePrograms : Type 0
SourcesArePrograms = (text : List ℕ) (items : List Item) → source_of text ≡ Ok items → fault_of text items ≡ None → IsProgram (program_of text items)

-- what a source is assembled to is an image
abbrev pub SourcesAreImages : Type 0
SourcesAreImages = (text : List ℕ) (items : List Item) (file : List ℕ) → source_of text ≡ Ok items → assembled text items ≡ Ok file → IsImage file

-- An instruction's registers are those that there are and a number fits it, exactly where the instruction with the number is in the ranges of
-- the table.
abbrev pub RangesAreTheTables : Type 0
RangesAreTheTables = (instr : Instr) (n : ℤ) → (HasRegisters instr × (fits_instr instr n ≡ true)) ↔ (IsInRange (with_immediate instr n) × HasSign instr n)

-- the number that bytes are, the lowest first
abbrev pub number_of : List ℕ → ℕ
number_of [] = 0
number_of (byte ∷ bytes) = byte + 256 * number_of bytes

-- Data has as many bytes as it says, and they are the number modulo two to the number of their bits. So a number that fits is read back: from
-- zero on as it is, and below zero in two's complement.
pub record IsData (size : ℕ) (n : ℤ) (bytes : List ℕ) : Type 0 where
  pub length_is : length bytes ≡ size
  pub are_bytes : All (λ byte. byte < 256) bytes
  pub number : pos (number_of bytes) ≡ int_rem_euclid n (pos (2 ^ (8 * size)))
  pub natural : fits_data size n ≡ true → pos 0 ≤ℤ n → pos (number_of bytes) ≡ n
  pub negative : fits_data size n ≡ true → n <ℤ pos 0 → pos (number_of bytes) ≡ n +ℤ pos (2 ^ (8 * size))

abbrev pub DataIsExact : Type 0
DataIsExact = (size : ℕ) (n : ℤ) → size ≤ 8 → IsData size n (data_bytes size n)

-- the segment that is open behind items, by the one before them
abbrev pub open_behind : List ℕ → Option OpenSegment → List Item → Option OpenSegment
open_behind text current [] = current
open_behind text current (item ∷ items) = open_behind text (open_after text item current) items

-- the bytes of items one after another, each at its place, behind the segment that is open before them
abbrev pub said_bytes : List ℕ → Offsets → Option OpenSegment → List Item → List ℕ
said_bytes text offsets current [] = []
said_bytes text offsets current (item ∷ items) = item_bytes text offsets (place_in current) item.what ++ said_bytes text offsets (open_after text item current) items

-- A segment has these bytes from a place in the region on, and room behind them for so many that are not in the file.
pub record HasContentAt (place : ℕ) (bytes : List ℕ) (bss : ℕ) (segment : Segment) : Type 0 where
  pub start : segment.start ≤ place
  pub bytes_there : take (length bytes) (drop (place - segment.start) segment.bytes) ≡ bytes
  pub room : place + (length bytes + bss) ≤ segment.start + segment_size segment

-- a statement of a listing stands at a place
abbrev pub StandsAt : List ℕ → List Item → ℕ → What → Type 0
StandsAt text items place what = Any (HasContentAt place (item_bytes text (offsets_in text items) place what) (bss_of what)) (segments_in text items)

-- Where there is no fault, each statement stands in a segment, at the place to which the items before it lead.
abbrev pub StatementsStandAtPlaces : Type 0
StatementsStandAtPlaces = (text : List ℕ) (before : List Item) (item : Item) (after : List Item)
    → fault_of text (before ++ (item ∷ after)) ≡ None → is_content item.what ≡ true
    → StandsAt text (before ++ (item ∷ after)) (place_in (open_behind text None before)) item.what

-- the place and the rights of the segment that a statement begins, if it is a `.segment`
abbrev pub said_segment : What → List (ℕ × ℕ)
said_segment (what.Segment at rights) = (natural at, rights) ∷ []
said_segment _ = []

-- The segments of a listing are those that it says, in their order.
abbrev pub SegmentsAreSaid : Type 0
SegmentsAreSaid = (text : List ℕ) (items : List Item)
    → map (λ segment. (segment.start, segment.rights)) (segments_in text items) ≡ flat_map (λ item. said_segment item.what) items

-- The segments of a listing have the bytes of its statements, one after another, and the bytes behind the file's part, and no others.
pub record HaveStatements (text : List ℕ) (items : List Item) (segments : List Segment) : Type 0 where
  pub bytes : flat_map (λ segment. segment.bytes) segments ≡ said_bytes text (offsets_in text items) None items
  pub bss : sum_by (λ segment. segment.bss) segments ≡ sum_by (λ item. bss_of item.what) items

abbrev pub SegmentsHaveStatements : Type 0
SegmentsHaveStatements = (text : List ℕ) (items : List Item) → fault_of text items ≡ None → HaveStatements text items (segments_in text items)
