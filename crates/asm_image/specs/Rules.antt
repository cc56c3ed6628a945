-- The rules of the second and the third pass: on the places of statements, and on their values. This project's own.
use Rattle.std.specs.Prelude.{ℕ, ◌+◌, ◌%◌, ◌==◌, ℤ, Bool, true, false, not, ◌&&◌, nat_lt, nat_le, is_some, if◌then◌else◌, Option, Some, None, List, [], ◌∷◌, ◌++◌, bytes_eq}
use Rattle.std.specs.List.{list_any}
use Rattle.cap_format.specs.Numbers.{region_bytes, page_bytes, granule_bytes}
use Rattle.cap_format.specs.SetBounds.{up_to}
use Rattle.asm_text.specs.declared.source.SourceReason.TheVariants as reason
use Rattle.asm_text.specs.declared.listing.What.{What}
use Rattle.asm_text.specs.declared.listing.What.TheVariants.{Label, Segment, Entry, Bytes, Align, Cap, Instr}
use Rattle.asm_text.specs.declared.listing.Item.{Item}
use Rattle.asm_text.specs.Lines.{slice_of}
use Rattle.asm_image.specs.declared.place.OpenSegment.{OpenSegment}
use Rattle.asm_image.specs.Numbers.{most_segments, instruction_bytes}
use Rattle.asm_image.specs.Places.{is_alignment, size_of, bss_of, here, place_in, begun_by, open_after}
use Rattle.asm_image.specs.Faults.{LineRule, need◌else◌on◌}
use Rattle.asm_image.specs.Labels.{Offsets}
use Rattle.asm_image.specs.Values.{value_from, origin_of, fits_data, fits_instr, fits_cap}

-- a segment's end: it has bytes
abbrev pub end_rules : Option OpenSegment → List LineRule
end_rules None = []
end_rules (Some current) = (need current.counts else reason.Empty on current.line) ∷ []

-- the end of the segments so far, rounded up to a page
abbrev pub past_of : Option OpenSegment → ℕ
past_of None = 0
past_of (Some current) = up_to (here current) page_bytes

-- a segment that begins behind so many others
abbrev pub segment_rules : ℕ → OpenSegment → Option OpenSegment → List LineRule
segment_rules count new current =
    (need (new.start % page_bytes == 0) && (nat_lt new.start region_bytes && nat_le (past_of current) new.start) else reason.BadSegment on new.line)
    ∷ (need nat_lt count most_segments else reason.TooMany on new.line)
    ∷ end_rules current

-- the multiple at which a statement has to stand
abbrev pub alignment_of : What → ℕ
alignment_of (Cap base length offset perms) = granule_bytes
alignment_of (Instr instr value) = instruction_bytes
alignment_of _ = 1

-- the number of an `.align`
abbrev pub is_aligning : What → Bool
is_aligning (Align to) = is_alignment to
is_aligning _ = true

-- content in a segment
abbrev pub content_rules : List ℕ → ℕ → What → OpenSegment → List LineRule
content_rules text line what current =
    (need is_aligning what else reason.BadAlign on line)
    ∷ (need not current.full else reason.AfterBss on line)
    ∷ (need here current % alignment_of what == 0 else reason.Misplaced on line)
    ∷ (need nat_le (here current + (size_of text (here current) what + bss_of what)) region_bytes else reason.TooLarge on line)
    ∷ []

-- what is content, and what is `.entry`, which may stand anywhere
abbrev pub is_content : What → Bool
is_content (Label name) = false
is_content (Segment at rights) = false
is_content (Entry name) = false
is_content _ = true

abbrev pub is_entry : What → Bool
is_entry (Entry name) = true
is_entry _ = false

-- an item that begins no segment, where a segment is open or none is
abbrev pub rules_in : List ℕ → ℕ → What → Option OpenSegment → List LineRule
rules_in text line what None = (need is_entry what else reason.NoSegment on line) ∷ []
rules_in text line what (Some current) = if is_content what then content_rules text line what current else []

-- an item behind so many segments
abbrev pub rules_by : List ℕ → ℕ → Item → Option OpenSegment → Option OpenSegment → List LineRule
rules_by text count item (Some new) current = segment_rules count new current
rules_by text count item None current = rules_in text item.line item.what current

abbrev pub count_by : ℕ → Option OpenSegment → ℕ
count_by count (Some new) = count + 1
count_by count None = count

-- all items, and the end of the last segment
abbrev pub places_rules : List ℕ → ℕ → Option OpenSegment → List Item → List LineRule
places_rules text count current [] = end_rules current
places_rules text count current (item ∷ items) =
    rules_by text count item (begun_by item) current ++ places_rules text (count_by count (begun_by item)) (open_after text item current) items

-- A label has a name that none has before it, and there is one `.entry`.
abbrev pub has_name : List (List ℕ) → List ℕ → Bool
has_name names name = list_any (λ other. bytes_eq other name) names

abbrev pub names_after : List ℕ → List (List ℕ) → What → List (List ℕ)
names_after text names (Label name) = slice_of text name ∷ names
names_after text names _ = names

abbrev pub entry_after : Bool → What → Bool
entry_after entry (Entry name) = true
entry_after entry _ = entry

abbrev pub name_rules : List ℕ → List (List ℕ) → Bool → ℕ → What → List LineRule
name_rules text names entry line (Label name) = (need not (has_name names (slice_of text name)) else reason.Twice on line) ∷ []
name_rules text names entry line (Entry name) = (need not entry else reason.Twice on line) ∷ []
name_rules text names entry line _ = []

abbrev pub names_rules : List ℕ → List (List ℕ) → Bool → List Item → List LineRule
names_rules text names entry [] = []
names_rules text names entry (item ∷ items) =
    name_rules text names entry item.line item.what ++ names_rules text (names_after text names item.what) (entry_after entry item.what) items

-- A label is known, and a number fits.
abbrev pub known_rules : ℕ → Option ℕ → List LineRule
known_rules line offset = (need is_some offset else reason.UnknownLabel on line) ∷ []

abbrev pub number_rules : ℕ → (ℤ → Bool) → Option ℤ → List LineRule
number_rules line fits None = (need false else reason.UnknownLabel on line) ∷ []
number_rules line fits (Some n) = (need fits n else reason.OutOfRange on line) ∷ []

abbrev pub cap_rules : ℕ → ℤ → ℤ → ℤ → Option ℕ → List LineRule
cap_rules line length offset perms None = (need false else reason.UnknownLabel on line) ∷ []
cap_rules line length offset perms (Some base) = (need fits_cap base length offset perms else reason.BadCap on line) ∷ []

-- the values of an item at a place
abbrev pub value_rules : List ℕ → Offsets → ℕ → ℕ → What → List LineRule
value_rules text offsets at line (Entry name) = known_rules line (offsets (slice_of text name))
value_rules text offsets at line (Bytes size value) = number_rules line (fits_data size) (value_from text offsets 0 value)
value_rules text offsets at line (Cap base length offset perms) = cap_rules line length offset perms (offsets (slice_of text base))
value_rules text offsets at line (Instr instr value) = number_rules line (fits_instr instr) (value_from text offsets (origin_of instr at) value)
value_rules text offsets at line _ = []

abbrev pub values_rules : List ℕ → Offsets → Option OpenSegment → List Item → List LineRule
values_rules text offsets current [] = []
values_rules text offsets current (item ∷ items) =
    value_rules text offsets (place_in current) item.line item.what ++ values_rules text offsets (open_after text item current) items
