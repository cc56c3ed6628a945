-- The labels of a listing, with their places in the region. This project's own.
use Rattle.std.specs.Prelude.{ℕ, Option, Some, None, option_map, option_and_then, List, [], ◌∷◌, ◌++◌, find, bytes_eq}
use Rattle.asm_text.specs.declared.listing.Span.{Span}
use Rattle.asm_text.specs.declared.listing.What.{What}
use Rattle.asm_text.specs.declared.listing.What.TheVariants.{Label, Entry}
use Rattle.asm_text.specs.declared.listing.Item.{Item}
use Rattle.asm_text.specs.Lines.{slice_of}
use Rattle.asm_image.specs.declared.place.OpenSegment.{OpenSegment}
use Rattle.asm_image.specs.Places.{place_in, open_after}

-- a label: its name and its offset in the region
pub record Labelled : Type 0 where
  pub name : List ℕ
  pub offset : ℕ

-- the label that an item is
abbrev pub label_of : List ℕ → Option OpenSegment → What → List Labelled
label_of text current (Label name) = record { name = slice_of text name; offset = place_in current } ∷ []
label_of text current _ = []

-- the labels of items, behind the segment that is open
abbrev pub labels_from : List ℕ → Option OpenSegment → List Item → List Labelled
labels_from text current [] = []
labels_from text current (item ∷ items) = label_of text current item.what ++ labels_from text (open_after text item current) items

-- names with their offsets: that of the first label of a name
abbrev pub Offsets : Type 0
Offsets = List ℕ → Option ℕ

abbrev pub offset_of : List Labelled → Offsets
offset_of labels name = option_map (λ label. label.offset) (find (λ label. bytes_eq label.name name) labels)

-- the offsets of the labels of a listing
unfoldable pub offsets_in : List ℕ → List Item → Offsets
offsets_in text items = offset_of (labels_from text None items)

-- the name of the first `.entry`, and its offset
abbrev pub entry_or : What → Option Span → Option Span
entry_or (Entry name) rest = Some name
entry_or _ rest = rest

abbrev pub entry_span : List Item → Option Span
entry_span [] = None
entry_span (item ∷ items) = entry_or item.what (entry_span items)

abbrev pub entry_in : List ℕ → Offsets → List Item → Option ℕ
entry_in text offsets items = option_and_then (λ span. offsets (slice_of text span)) (entry_span items)
