-- The relocations of a listing rise on the pages of its segments.
use Rattle.std.proofs.Common.{◌≡◌, refl, ℕ, ◌+◌, ◌%◌, ◌<◌, ◌≤◌, ℤ, Bool, true, Option, Some, None, List, [], ◌∷◌, ◌++◌, length, arith}
use Rattle.std.specs.List.{list_any}
use Rattle.std.proofs.lemmas.Grind.{common_steps}
use Rattle.std.proofs.lemmas.Bool.{eqb-true}
use Rattle.std.proofs.lemmas.List.Elements.{All-head, All-tail}
use Rattle.cap_format.specs.Numbers.{granule_bytes}
use Rattle.cap_format.specs.declared.image.Relocation.{Relocation}
use Rattle.asm_text.specs.declared.listing.Span.{Span}
use Rattle.asm_text.specs.declared.listing.What.{What}
use Rattle.asm_text.specs.declared.listing.What.TheVariants.{Cap}
use Rattle.asm_text.specs.declared.listing.Item.{Item}
use Rattle.asm_text.specs.Lines.{slice_of}
use Rattle.asm_text.specs.Ranges.{HasRanges}
use Rattle.asm_image.specs.declared.place.OpenSegment.{OpenSegment}
use Rattle.asm_image.specs.Program.{Segment, holds_place}
use Rattle.asm_image.specs.Sound.{AreRelocations}
use Rattle.asm_image.specs.Places.{here, place_in, grown, begun, begun_by, open_by, open_after}
use Rattle.asm_image.specs.Faults.{AllMet}
use Rattle.asm_image.specs.Labels.{Offsets}
use Rattle.asm_image.specs.Assembled.{ended_by, bytes_by, segments_from, relocation_of, relocations_from}
use Rattle.asm_image.specs.Rules.{rules_in, rules_by, count_by, places_rules, cap_rules, value_rules, values_rules}
use Rattle.asm_image.proofs.MetRules.{met-left, met-right}
use Rattle.asm_image.proofs.FittingCaps.{fitting}
use Rattle.asm_image.proofs.OpenSegments.{IsNewOrNone, HasSize, begun-new, size-next, place-rises}
use Rattle.asm_image.proofs.SegmentsInOrder.{AllInRange}

-- a place on a page of some segments is on a page of those with others before them
any-behind : (p : Segment → Bool) (first others : List Segment) → list_any p others ≡ true → list_any p (first ++ others) ≡ true
any-behind p [] others is = is
any-behind p (segment ∷ first) others is = grind (arith, common_steps, any-behind p first others is)

module _ (text : List ℕ) (offsets : Offsets) where
  -- A place in the open segment is on a page of a segment.
  pub stays-on-page : (place : ℕ) (current : OpenSegment) (bytes : List ℕ) (items : List Item) → length bytes ≡ current.size → current.start ≤ place → place < here current
      → list_any (holds_place place) (segments_from text offsets (Some current) bytes items) ≡ true
  stays-on-page place current bytes [] size from to = grind (arith, common_steps)
  stays-on-page place current bytes (item ∷ items) size from to =
      by (begun_by item) (λ bytes. stays-on-page place (grown text item.what current) bytes items)
    where
      by : (new : Option OpenSegment)
          → ((bytes : List ℕ) → length bytes ≡ (grown text item.what current).size → current.start ≤ place → place < here (grown text item.what current)
          → list_any (holds_place place) (segments_from text offsets (Some (grown text item.what current)) bytes items) ≡ true)
          → list_any (holds_place place)
          (ended_by new (Some current) bytes ++ segments_from text offsets (open_by text item.what new (Some current)) (bytes_by text offsets item.what new (Some current) bytes) items) ≡ true
      by (Some new) rest = grind (arith, common_steps)
      by None rest = rest (bytes_by text offsets item.what None (Some current) bytes) (size-next text offsets item.what None (Some current) bytes tt size) from (omega arith)

  -- where a place is on a page of the segments from here on, it is on a page of the whole
  abbrev AreOnPages : List Segment → Option OpenSegment → List ℕ → List Item → Type 0
  AreOnPages whole current bytes items = (place : ℕ) → list_any (holds_place place) (segments_from text offsets current bytes items) ≡ true → list_any (holds_place place) whole ≡ true

  -- a capability in a segment, on a page of it
  cap-relocation : (whole : List Segment) (least line : ℕ) (base : Span) (size offset perms : ℤ) (current : OpenSegment) → AllMet (rules_in text line (Cap base size offset perms) (Some current))
      → AllMet (cap_rules line size offset perms (offsets (slice_of text base))) → list_any (holds_place (here current)) whole ≡ true → least ≤ here current
      → AreRelocations whole least (relocation_of text offsets (here current) (Cap base size offset perms))
  cap-relocation whole least line base size offset perms current (align, (full, (place, m))) values on-page rises = by (offsets (slice_of text base)) refl values
    where
      by : (found : Option ℕ) → offsets (slice_of text base) ≡ found → AllMet (cap_rules line size offset perms found)
          → AreRelocations whole least (relocation_of text offsets (here current) (Cap base size offset perms))
      by None is (none, m) = absurd (cc)
      by (Some start) is (fits, m) =
          let fitting-is = fitting start size offset perms fits in
          rw is (
            record {
              aligned = eqb-true (here current % granule_bytes) 0 place;
              on_page = on-page;
              rising = rises;
              inside = fitting-is.inside;
              exact = fitting-is.exact;
              offset = fitting-is.within;
              perms = fitting-is.known;
            },
            tt,
          )

  -- the relocation of an item, before those of the items behind it
  relocation-then : (whole : List Segment) (least count line : ℕ) (what : What) (current : Option OpenSegment) (bytes : List ℕ) (items : List Item) (others : List Relocation)
      → AllMet (rules_by text count (record { line = line; what = what }) (begun line what) current) → AllMet (value_rules text offsets (place_in current) line what)
      → HasSize current bytes → AreOnPages whole (open_by text what (begun line what) current) (bytes_by text offsets what (begun line what) current bytes) items
      → least ≤ place_in current
      → ((least : ℕ) → least ≤ place_in (open_by text what (begun line what) current) → AreRelocations whole least others)
      → AreRelocations whole least (relocation_of text offsets (place_in current) what ++ others)
  relocation-then whole least count line (Cap base size offset perms) None bytes items others (none, m) values has-size on-pages rises rest = absurd (cc)
  relocation-then whole least count line (Cap base size offset perms) (Some current) bytes items others m values has-size on-pages rises rest =
      let after = grown text (Cap base size offset perms) current in
      let behind = bytes_by text offsets (Cap base size offset perms) None (Some current) bytes in
      let here-on : list_any (holds_place (here current)) whole ≡ true = on-pages (here current)
      (stays-on-page (here current) after behind items (size-next text offsets (Cap base size offset perms) None (Some current) bytes tt has-size) (omega arith) (omega arith)) in
      let (one, none) = cap-relocation whole least line base size offset perms current m values here-on rises in
      (one, rest (here current + 1) (omega arith))
  relocation-then whole least count line what current bytes items others m values has-size on-pages rises rest =
      rest least (omega (arith, place-rises text count (record { line = line; what = what }) (begun line what) current m))

  -- The relocations of items are in order, each on a page of the whole.
  pub are-relocations : (whole : List Segment) (count least : ℕ) (current : Option OpenSegment) (bytes : List ℕ) (items : List Item) → AllInRange items
      → HasSize current bytes → AreOnPages whole current bytes items → least ≤ place_in current → AllMet (places_rules text count current items)
      → AllMet (values_rules text offsets current items) → AreRelocations whole least (relocations_from text offsets current items)
  are-relocations whole count least current bytes [] ranges size on-pages rises m values = tt
  are-relocations whole count least current bytes (item ∷ items) ranges size on-pages rises m values =
      let new = begun_by item in
      let after = open_after text item current in
      let behind = bytes_by text offsets item.what new current bytes in
      let begins : IsNewOrNone new = begun-new item.line item.what (All-head (λ item. HasRanges item.what) item items ranges) in
      let on-later : AreOnPages whole after behind items = λ place is. on-pages place (any-behind (holds_place place) (ended_by new current bytes) (segments_from text offsets after behind items) is) in
      let here-met : AllMet (rules_by text count item new current) = met-left (rules_by text count item new current) (places_rules text (count_by count new) after items) m in
      let later-met : AllMet (places_rules text (count_by count new) after items) = met-right (rules_by text count item new current) (places_rules text (count_by count new) after items) m in
      let here-values : AllMet (value_rules text offsets (place_in current) item.line item.what) =
      met-left (value_rules text offsets (place_in current) item.line item.what) (values_rules text offsets after items) values in
      let later-values : AllMet (values_rules text offsets after items) =
      met-right (value_rules text offsets (place_in current) item.line item.what) (values_rules text offsets after items) values in
      relocation-then whole least count item.line item.what current bytes items (relocations_from text offsets after items) here-met here-values size on-later rises
      (λ least rises. are-relocations whole (count_by count new) least after behind items (All-tail (λ item. HasRanges item.what) item items ranges)
      (size-next text offsets item.what new current bytes begins size) on-later rises later-met later-values)
