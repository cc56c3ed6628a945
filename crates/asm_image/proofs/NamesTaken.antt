-- The labels and the rules on names, item by item.
use Rattle.std.proofs.Common.{◌≡◌, ◌∙◌, refl, ℕ, ◌^◌, ◌<◌, Bool, true, false, not, ◌||◌, if◌then◌else◌, Option, Some, None, is_some, List, [], ◌∷◌}
use Rattle.std.specs.Option.{IfSome, option_or}
use Rattle.std.specs.Str.{bytes_eq}
use Rattle.asm_text.specs.declared.listing.Span.{Span}
use Rattle.asm_text.specs.declared.listing.What.{What}
use Rattle.asm_text.specs.declared.listing.What.TheVariants.{Label, Entry}
use Rattle.asm_text.specs.declared.listing.Item.{Item}
use Rattle.asm_text.specs.declared.source.SourceFault.{SourceFault}
use Rattle.asm_text.specs.declared.source.SourceReason.TheVariants.{Twice}
use Rattle.asm_text.specs.Lines.{slice_of}
use Rattle.asm_image.specs.declared.place.OpenSegment.{OpenSegment}
use Rattle.asm_image.specs.Places.{place_in, open_after}
use Rattle.asm_image.specs.Faults.{need◌else◌on◌, found_by}
use Rattle.asm_image.specs.Labels.{Labelled, Offsets, labels_from, offset_of, offsets_in}
use Rattle.asm_image.specs.Rules.{has_name, names_rules}
use Rattle.asm_image.specs.Layout.{AreSmall, with_label}

-- Of the items of a listing the last ones are left, and the names of the others were taken: what is known and the labels that are left make
-- the labels of the listing, what was found and the rules that are left make its least fault, and each offset is small.
pub record AreTaken (text : List ℕ) (items : List Item) (first : Option SourceFault) (offsets : Offsets) (entry : Bool) (current : Option OpenSegment) (found : Option SourceFault) (left : List Item) : Type 0 where
  pub labels : (name : List ℕ) → option_or (offsets name) (offset_of (labels_from text current left) name) ≡ offset_of (labels_from text None items) name
  pub names : List (List ℕ)
  pub named : (name : List ℕ) → has_name names name ≡ is_some (offsets name)
  pub rules : found_by found (names_rules text names entry left) ≡ found_by first (names_rules text [] false items)
  pub small : AreSmall offsets

-- one more label, which counts only where none of its name is known
label-or : (was : Option ℕ) (label : Labelled) (labels : List Labelled) (name : List ℕ)
    → option_or (if is_some was then was else (if bytes_eq label.name name then Some label.offset else None)) (offset_of labels name) ≡ option_or was (offset_of (label ∷ labels) name)
label-or (Some old) label labels name = refl
label-or None label labels name = by (bytes_eq label.name name) refl
  where
    by : (same : Bool) → bytes_eq label.name name ≡ same → option_or (if bytes_eq label.name name then Some label.offset else None) (offset_of labels name) ≡ offset_of (label ∷ labels) name
    by true same = rw same refl
    by false differ = rw differ refl

-- the names that are known with it
label-named : (was : Option ℕ) (same has : Bool) (offset : ℕ) → has ≡ is_some was → (same || has) ≡ is_some (if is_some was then was else (if same then Some offset else None))
label-named None true has offset is = refl
label-named None false has offset is = is
label-named (Some old) true has offset is = refl
label-named (Some old) false has offset is = is

-- and their bound
label-small : (was : Option ℕ) (same : Bool) (offset : ℕ) → IfSome was (λ offset. offset < 2 ^ 127) → offset < 2 ^ 127
    → IfSome (if is_some was then was else (if same then Some offset else None)) (λ offset. offset < 2 ^ 127)
label-small None true offset old new = new
label-small None false offset old new = tt
label-small (Some was) same offset old new = old

module _ (text : List ℕ) (items : List Item) (first : Option SourceFault) where
  -- At first no name is taken, and all items are left.
  pub taken-none : (offsets : Offsets) → ((name : List ℕ) → offsets name ≡ None) → AreTaken text items first offsets false None first items
  taken-none offsets none = record {
    labels = λ name. rw (none name) refl;
    names = [];
    named = λ name. rw (none name) refl;
    rules = refl;
    small = λ name. rw (none name) tt;
  }

  -- Where none is left, the offsets that are known are those of the listing.
  pub taken-all : (offsets : Offsets) (entry : Bool) (current : Option OpenSegment) (found : Option SourceFault) → AreTaken text items first offsets entry current found [] → (name : List ℕ) → offsets name ≡ offsets_in text items name
  unfolding offsets_in
  taken-all offsets entry current found all name = or-none (offsets name) ∙ all.labels name
    where
      or-none : (is : Option ℕ) → is ≡ option_or is None
      or-none None = refl
      or-none (Some offset) = refl

  module _ (offsets : Offsets) (entry : Bool) (current : Option OpenSegment) (found : Option SourceFault) (line : ℕ) (left : List Item) where
    -- A label takes its name.
    pub taken-label : (name : Span) → place_in current < 2 ^ 127 → AreTaken text items first offsets entry current found (record { line = line; what = Label name } ∷ left)
        → AreTaken text items first (with_label offsets (slice_of text name) (place_in current)) entry (open_after text (record { line = line; what = Label name }) current)
        (found_by found ((need not (is_some (offsets (slice_of text name))) else Twice on line) ∷ [])) left
    taken-label name small was = record {
      labels = λ other. label-or (offsets other) (record { name = slice_of text name; offset = place_in current }) _ other ∙ was.labels other;
      names = slice_of text name ∷ was.names;
      named = λ other. label-named (offsets other) (bytes_eq (slice_of text name) other) (has_name was.names other) (place_in current) (was.named other);
      rules = rw (was.named (slice_of text name)) at was.rules;
      small = λ other. label-small (offsets other) (bytes_eq (slice_of text name) other) (place_in current) (was.small other) small;
    }

    -- An `.entry` takes the entry.
    pub taken-entry : (name : Span) → AreTaken text items first offsets entry current found (record { line = line; what = Entry name } ∷ left)
        → AreTaken text items first offsets true (open_after text (record { line = line; what = Entry name }) current) (found_by found ((need not entry else Twice on line) ∷ [])) left
    taken-entry name was = record { labels = was.labels; names = was.names; named = was.named; rules = was.rules; small = was.small }

    -- No other item takes one.
    pub taken-other : (what : What) → ((name : Span) → what ≡ Label name → ⊥) → ((name : Span) → what ≡ Entry name → ⊥) → AreTaken text items first offsets entry current found (record { line = line; what = what } ∷ left)
        → AreTaken text items first offsets entry (open_after text (record { line = line; what = what }) current) found left
    taken-other (Label name) label other was = absurd (label name refl)
    taken-other (Entry name) label other was = absurd (other name refl)
    taken-other what label other was = record { labels = was.labels; names = was.names; named = was.named; rules = was.rules; small = was.small }
