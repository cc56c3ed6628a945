-- Where each statement of a listing stands: the segment that it is in, and its place in the region, by the statements before it. This
-- project's own.
use Rattle.std.specs.Prelude.{ℕ, ◌+◌, ◌-◌, ◌%◌, ◌==◌, ℤ, pos, negsuc, Bool, true, false, ◌&&◌, ◌||◌, nat_lt, nat_le, if◌then◌else◌, Option, Some, None, option_map, List, [], ◌∷◌, drop, length}
use Rattle.cap_format.specs.Numbers.{granule_bytes}
use Rattle.cap_format.specs.SetBounds.{up_to}
use Rattle.asm_text.specs.declared.listing.Span.{Span}
use Rattle.asm_text.specs.declared.listing.What.{What}
use Rattle.asm_text.specs.declared.listing.What.TheVariants.{Segment, Bytes, Ascii, Space, Align, Bss, Cap, Instr}
use Rattle.asm_text.specs.declared.listing.Item.{Item}
use Rattle.asm_text.specs.Lines.{slice_of}
use Rattle.asm_image.specs.declared.place.OpenSegment.{OpenSegment}
use Rattle.asm_image.specs.Numbers.{instruction_bytes, most_alignment}

-- a number that isn't negative
abbrev pub natural : ℤ → ℕ
natural (pos n) = n
natural (negsuc n) = 0

-- the byte that stands behind a backslash: `n` is a line feed, `t` a tab and `0` zero, and the others are themselves
abbrev pub escaped : ℕ → ℕ
escaped byte = if byte == 110 then 10 else (if byte == 116 then 9 else (if byte == 48 then 0 else byte))

-- what a string says behind its first quote: its bytes up to the last quote, with one byte for each escape
abbrev pub said_by : List ℕ → List ℕ
said_by [] = []
said_by (byte ∷ []) = []
said_by (byte ∷ next ∷ bytes) = if byte == 92 then escaped next ∷ said_by bytes else byte ∷ said_by (next ∷ bytes)

unfoldable pub string_of : List ℕ → Span → List ℕ
string_of text span = said_by (drop 1 (slice_of text span))

-- a number of `.align`: 1, 2, 4 and so on to 4096
abbrev pub is_alignment : ℤ → Bool
is_alignment to = nat_lt 0 (natural to) && (nat_le (natural to) most_alignment && (most_alignment % natural to == 0))

-- the zeros from a place up to a multiple
abbrev pub gap : ℕ → ℤ → ℕ
gap at to = if is_alignment to then up_to at (natural to) - at else 0

-- the bytes that a statement at a place takes in the file's part of its segment, also where it is refused
abbrev pub size_of : List ℕ → ℕ → What → ℕ
size_of text at (Bytes size value) = size
size_of text at (Ascii span) = length (string_of text span)
size_of text at (Space count) = natural count
size_of text at (Align to) = gap at to
size_of text at (Cap base length offset perms) = granule_bytes
size_of text at (Instr instr value) = instruction_bytes
size_of text at _ = 0

-- and behind it
abbrev pub bss_of : What → ℕ
bss_of (Bss count) = natural count
bss_of _ = 0

-- which of them count, where a segment has to have bytes: not the zeros of `.align`
abbrev pub counted_of : List ℕ → ℕ → What → ℕ
counted_of text at (Align to) = 0
counted_of text at what = size_of text at what + bss_of what

abbrev pub is_bss : What → Bool
is_bss (Bss count) = true
is_bss _ = false

-- the place of the next statement in the region
abbrev pub here : OpenSegment → ℕ
here current = current.start + (current.size + current.bss)

-- where nothing is open, a label has no place
abbrev pub place_in : Option OpenSegment → ℕ
place_in None = 0
place_in (Some current) = here current

-- the segment that is open behind a statement in it
abbrev pub grown : List ℕ → What → OpenSegment → OpenSegment
grown text what current = record {
  line = current.line;
  start = current.start;
  rights = current.rights;
  size = current.size + size_of text (here current) what;
  bss = current.bss + bss_of what;
  counts = current.counts || nat_lt 0 (counted_of text (here current) what);
  full = current.full || is_bss what;
}

-- the segment that an item begins, if it is a `.segment`
abbrev pub begun : ℕ → What → Option OpenSegment
begun line (Segment at rights) = Some (record { line = line; start = natural at; rights = rights; size = 0; bss = 0; counts = false; full = false })
begun line _ = None

abbrev pub begun_by : Item → Option OpenSegment
begun_by item = begun item.line item.what

-- the segment that is open behind an item
abbrev pub open_by : List ℕ → What → Option OpenSegment → Option OpenSegment → Option OpenSegment
open_by text what (Some new) current = Some new
open_by text what None current = option_map (grown text what) current

abbrev pub open_after : List ℕ → Item → Option OpenSegment → Option OpenSegment
open_after text item current = open_by text item.what (begun_by item) current
