-- The file of a listing, or the first fault of the passes behind the first. This project's own.
use Rattle.std.specs.Prelude.{ℕ, ◌%◌, ◌==◌, Bool, false, ◌&&◌, unwrap_or, Option, Some, None, Result, Ok, Err, List, [], ◌∷◌, ◌++◌}
use Rattle.std.specs.List.{list_any}
use Rattle.cap_format.specs.declared.image.Relocation.{Relocation}
use Rattle.asm_text.specs.declared.source.SourceReason.TheVariants.{NoEntry}
use Rattle.asm_text.specs.declared.source.SourceFault.{SourceFault}
use Rattle.asm_text.specs.declared.listing.What.{What}
use Rattle.asm_text.specs.declared.listing.What.TheVariants as what
use Rattle.asm_text.specs.declared.listing.Item.{Item}
use Rattle.asm_text.specs.Lines.{slice_of}
use Rattle.asm_text.specs.Source.{source_of}
use Rattle.asm_image.specs.declared.place.OpenSegment.{OpenSegment}
use Rattle.asm_image.specs.Program.{Segment, Program, holds_code, file_of}
use Rattle.asm_image.specs.Places.{natural, place_in, begun_by, open_after}
use Rattle.asm_image.specs.Faults.{need◌else◌on◌, least_fault, or_else}
use Rattle.asm_image.specs.Labels.{Offsets, offsets_in, entry_in}
use Rattle.asm_image.specs.Values.{item_bytes}
use Rattle.asm_image.specs.Rules.{places_rules, names_rules, values_rules}

-- the segment that is open, with its bytes so far, at its end
abbrev pub ended : Option OpenSegment → List ℕ → List Segment
ended None bytes = []
ended (Some current) bytes = record { start = current.start; rights = current.rights; bytes = bytes; bss = current.bss } ∷ []

-- the segment that ends where another begins, and the bytes of the one that is open behind a statement
abbrev pub ended_by : Option OpenSegment → Option OpenSegment → List ℕ → List Segment
ended_by (Some new) current bytes = ended current bytes
ended_by None current bytes = []

abbrev pub bytes_by : List ℕ → Offsets → What → Option OpenSegment → Option OpenSegment → List ℕ → List ℕ
bytes_by text offsets what (Some new) current bytes = []
bytes_by text offsets what None current bytes = bytes ++ item_bytes text offsets (place_in current) what

-- the segments of items, behind the one that is open and its bytes so far
abbrev pub segments_from : List ℕ → Offsets → Option OpenSegment → List ℕ → List Item → List Segment
segments_from text offsets current bytes [] = ended current bytes
segments_from text offsets current bytes (item ∷ items) =
    ended_by (begun_by item) current bytes
    ++ segments_from text offsets (open_after text item current) (bytes_by text offsets item.what (begun_by item) current bytes) items

-- the relocation of an item at a place
abbrev pub relocation_of : List ℕ → Offsets → ℕ → What → List Relocation
relocation_of text offsets at (what.Cap base length offset perms) = record {
  place = at;
  base = unwrap_or (offsets (slice_of text base)) 0;
  span = natural length;
  offset = natural offset;
  perms = natural perms;
} ∷ []
relocation_of text offsets at _ = []

abbrev pub relocations_from : List ℕ → Offsets → Option OpenSegment → List Item → List Relocation
relocations_from text offsets current [] = []
relocations_from text offsets current (item ∷ items) =
    relocation_of text offsets (place_in current) item.what ++ relocations_from text offsets (open_after text item current) items

-- what a listing comes to
abbrev pub segments_in : List ℕ → List Item → List Segment
segments_in text items = segments_from text (offsets_in text items) None [] items

unfoldable pub program_of : List ℕ → List Item → Program
program_of text items = record {
  segments = segments_in text items;
  relocations = relocations_from text (offsets_in text items) None items;
  entry = unwrap_or (entry_in text (offsets_in text items) items) 0;
}

-- the fault of the second pass, of the third, and of the entry
abbrev pub place_fault : List ℕ → List Item → Option SourceFault
place_fault text items = least_fault (places_rules text 0 None items ++ names_rules text [] false items)

abbrev pub value_fault : List ℕ → List Item → Option SourceFault
value_fault text items = least_fault (values_rules text (offsets_in text items) None items)

-- the entry is a place for an instruction on a page that may be executed
abbrev pub is_start : List Segment → Option ℕ → Bool
is_start segments None = false
is_start segments (Some entry) = (entry % 4 == 0) && list_any (holds_code entry) segments

abbrev pub entry_fault : List ℕ → List Item → Option SourceFault
entry_fault text items = least_fault ((need is_start (segments_in text items) (entry_in text (offsets_in text items) items) else NoEntry on 0) ∷ [])

-- the passes come one after another
unfoldable pub fault_of : List ℕ → List Item → Option SourceFault
fault_of text items = or_else (place_fault text items) (or_else (value_fault text items) (entry_fault text items))

-- A listing is assembled to a file, or it is at fault.
abbrev pub file_or : Option SourceFault → List ℕ → Result (List ℕ) SourceFault
file_or None file = Ok file
file_or (Some fault) file = Err fault

unfoldable pub assembled : List ℕ → List Item → Result (List ℕ) SourceFault
assembled text items = file_or (fault_of text items) (file_of (program_of text items))

-- the file of a text, or the first fault of all passes
abbrev pub assembled_or : List ℕ → Result (List Item) SourceFault → Result (List ℕ) SourceFault
assembled_or text (Err fault) = Err fault
assembled_or text (Ok items) = assembled text items

unfoldable pub file_from : List ℕ → Result (List ℕ) SourceFault
file_from text = assembled_or text (source_of text)
