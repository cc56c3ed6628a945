-- What the code keeps of the places of a listing, and what it writes of them.
use Rattle.std.specs.Prelude.{ℕ, ◌+◌, ◌-◌, ◌*◌, ◌%◌, ◌^◌, ◌<◌, ◌≤◌, ◌==◌, Bool, false, ◌&&◌, nat_lt, nat_le, is_some, if◌then◌else◌, Option, Some, None, IfSome, List, [], ◌∷◌, ◌++◌, All, length, replicate, flat_map, bytes_eq}
use Rattle.std.specs.List.{list_any}
use Rattle.cap_format.specs.Numbers.{region_bytes, page_bytes, file_header_bytes, program_header_bytes, segment_type}
use Rattle.cap_format.specs.SetBounds.{up_to}
use Rattle.cap_format.specs.declared.image.ProgramHeader.{ProgramHeader}
use Rattle.cap_format.specs.declared.image.Relocation.{Relocation}
use Rattle.asm_text.specs.declared.listing.Item.{Item}
use Rattle.asm_text.specs.Ranges.{HasRanges}
use Rattle.asm_image.specs.declared.place.OpenSegment.{OpenSegment}
use Rattle.asm_image.specs.Pieces.{Piece}
use Rattle.asm_image.specs.Program.{file_header, header_pieces, table_headers, table_count}
use Rattle.asm_image.specs.Places.{here, place_in, begun_by, open_after}
use Rattle.asm_image.specs.Faults.{AllMet}
use Rattle.asm_image.specs.Labels.{Offsets}
use Rattle.asm_image.specs.Values.{item_bytes}
use Rattle.asm_image.specs.Rules.{places_rules, values_rules}

-- a segment at its end, if one is open
abbrev pub closed : Option OpenSegment → List OpenSegment
closed None = []
closed (Some current) = current ∷ []

abbrev pub closed_by : Option OpenSegment → Option OpenSegment → List OpenSegment
closed_by (Some new) current = closed current
closed_by None current = []

-- the segments of items, each at its end
abbrev pub closed_from : List ℕ → Option OpenSegment → List Item → List OpenSegment
closed_from text current [] = closed current
closed_from text current (item ∷ items) = closed_by (begun_by item) current ++ closed_from text (open_after text item current) items

-- how many segments have begun, of which some are at their ends
abbrev pub begun_count : List OpenSegment → Option OpenSegment → ℕ
begun_count ended current = length ended + (if is_some current then 1 else 0)

-- behind so many items a place is a number of 127 bits
abbrev pub IsBounded : ℕ → Option OpenSegment → Type 0
IsBounded count current = IfSome current (λ segment. here segment ≤ (count + 1) * (2 ^ 64 - 1))

-- names with one more, which counts only where there is none of that name
abbrev pub with_label : Offsets → List ℕ → ℕ → Offsets
with_label offsets name offset other = if is_some (offsets other) then offsets other else (if bytes_eq name other then Some offset else None)

-- each offset is a number of 127 bits
abbrev pub AreSmall : Offsets → Type 0
AreSmall offsets = (name : List ℕ) → IfSome (offsets name) (λ offset. offset < 2 ^ 127)

-- the header of a segment at its end, and where the file stands behind its bytes
abbrev pub closed_header : ℕ → OpenSegment → ProgramHeader
closed_header at segment = record {
  kind = segment_type;
  flags = segment.rights;
  from = up_to at page_bytes;
  start = segment.start;
  in_file = segment.size;
  in_memory = segment.size + segment.bss;
}

abbrev pub closed_after : ℕ → OpenSegment → ℕ
closed_after at segment = up_to at page_bytes + segment.size

-- those of segments
abbrev pub closed_headers : ℕ → List OpenSegment → List ProgramHeader
closed_headers at [] = []
closed_headers at (segment ∷ segments) = closed_header at segment ∷ closed_headers (closed_after at segment) segments

abbrev pub closed_after_all : ℕ → List OpenSegment → ℕ
closed_after_all at [] = at
closed_after_all at (segment ∷ segments) = closed_after_all (closed_after at segment) segments

-- how many program headers there are, and where they end
abbrev pub count_closed : List OpenSegment → List Relocation → ℕ
count_closed segments relocations = length segments + table_count relocations

abbrev pub front_closed : List OpenSegment → List Relocation → ℕ
front_closed segments relocations = file_header_bytes + program_header_bytes * count_closed segments relocations

-- what stands before the bytes of segments: the file header, and the program headers
abbrev pub front_pieces : ℕ → List OpenSegment → List Relocation → List Piece
front_pieces entry segments relocations =
    file_header entry (count_closed segments relocations)
    ++ (flat_map header_pieces (closed_headers (front_closed segments relocations) segments)
    ++ flat_map header_pieces (table_headers (closed_after_all (front_closed segments relocations) segments) relocations))

-- a segment lies in the region
abbrev pub IsInside : OpenSegment → Type 0
IsInside segment = here segment ≤ region_bytes

-- a place in the region is on a page of a segment that may be executed
abbrev pub closed_code : ℕ → OpenSegment → Bool
closed_code place segment = (segment.rights % 2 == 1) && (nat_le segment.start place && nat_lt place (up_to (here segment) page_bytes))

-- the entry is a place for an instruction there
abbrev pub is_closed_start : List OpenSegment → Option ℕ → Bool
is_closed_start segments None = false
is_closed_start segments (Some entry) = (entry % 4 == 0) && list_any (closed_code entry) segments

-- what an item adds to the file at a place: zeros up to a page before a segment, or its bytes
abbrev pub added : List ℕ → Option OpenSegment → ℕ → List ℕ
added bytes (Some new) at = replicate (up_to at page_bytes - at) 0
added bytes None at = bytes

-- the bytes of items in the file, from a place on: those of each statement, and zeros before a segment
abbrev pub body_by : List ℕ → Option OpenSegment → ℕ → List ℕ → List ℕ
body_by bytes (Some new) at rest = replicate (up_to at page_bytes - at) 0 ++ rest
body_by bytes None at rest = bytes ++ rest

abbrev pub place_behind : List ℕ → Option OpenSegment → ℕ → ℕ
place_behind bytes (Some new) at = up_to at page_bytes
place_behind bytes None at = at + length bytes

abbrev pub body_from : List ℕ → Offsets → Option OpenSegment → ℕ → List Item → List ℕ
body_from text offsets current at [] = []
body_from text offsets current at (item ∷ items) =
    body_by (item_bytes text offsets (place_in current) item.what) (begun_by item) at
    (body_from text offsets (open_after text item current) (place_behind (item_bytes text offsets (place_in current) item.what) (begun_by item) at) items)

-- A listing keeps the rules of both passes on its places and values, behind a segment that is open.
pub record KeepsRules (text : List ℕ) (offsets : Offsets) (count : ℕ) (current : Option OpenSegment) (items : List Item) : Type 0 where
  pub ranges : All (λ item. HasRanges item.what) items
  pub inside : IfSome current IsInside
  pub places : AllMet (places_rules text count current items)
  pub values : AllMet (values_rules text offsets current items)
