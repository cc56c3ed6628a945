-- What a listing comes to by the faults of its passes.
use Rattle.std.proofs.Common.{◌≡◌, ◌∙◌, refl, ap, sym, ℕ, ◌≤◌, true, false, Option, Some, None, Ok, Err, List, [], ◌∷◌, ◌++◌, length, arith}
use Rattle.std.specs.List.{list_any}
use Rattle.std.specs.Prelude.{All}
use Rattle.std.proofs.lemmas.List.Elements.{All-nil, All-cons}
use Rattle.cap_format.specs.declared.image.Relocation.{Relocation}
use Rattle.asm_text.specs.declared.source.SourceReason.TheVariants.{NoEntry}
use Rattle.asm_text.specs.declared.source.SourceFault.{SourceFault}
use Rattle.asm_text.specs.declared.listing.Item.{Item}
use Rattle.asm_image.specs.declared.place.OpenSegment.{OpenSegment}
use Rattle.asm_image.specs.Program.{Segment, segment_end, holds_code, file_of}
use Rattle.asm_image.specs.Sound.{AreSegments, IsProgram}
use Rattle.asm_image.specs.Faults.{AllMet, found_by}
use Rattle.asm_image.specs.Labels.{Offsets, offsets_in, entry_in}
use Rattle.asm_image.specs.Rules.{places_rules, names_rules, values_rules}
use Rattle.asm_image.specs.Assembled.{segments_from, relocations_from, segments_in, is_start, place_fault, value_fault, fault_of, program_of, assembled}
use Rattle.asm_image.specs.Layout.{IsInside, closed_from, closed_code, is_closed_start, KeepsRules}
use Rattle.asm_image.proofs.FoundRules.{found-append}
use Rattle.asm_image.proofs.AtTheirEnds.{IsAtEnd, AreAtEnds, at-ends, count-same}
use Rattle.asm_image.proofs.MetRules.{met, met-left}
use Rattle.asm_image.proofs.Room.{has-room}
use Rattle.asm_image.proofs.SegmentsInOrder.{AllInRange, are-segments}

-- The second pass finds by the rules on places and then on names,
pub places-then-names : (text : List ℕ) (items : List Item) (first second : Option SourceFault) → first ≡ found_by None (places_rules text 0 None items)
    → second ≡ found_by first (names_rules text [] false items) → second ≡ place_fault text items
places-then-names text items first second first-is second-is =
    second-is ∙ ap (λ found. found_by found (names_rules text [] false items)) first-is ∙ sym (found-append None (places_rules text 0 None items) (names_rules text [] false items))

-- and the third finds by the rules on values, where the second has found nothing.
pub values-behind : (text : List ℕ) (items : List Item) (offsets : Offsets) (second third : Option SourceFault) → offsets ≡ offsets_in text items → second ≡ None
    → third ≡ found_by second (values_rules text offsets None items) → third ≡ value_fault text items
values-behind text items offsets second third is none third-is = rw (is, none) at third-is

-- Neither pass has a fault.
pub record HasPassed (text : List ℕ) (items : List Item) : Type 0 where
  pub places : place_fault text items ≡ None
  pub values : value_fault text items ≡ None

pub passed : (text : List ℕ) (items : List Item) (offsets : Offsets) (first second third : Option SourceFault) → first ≡ found_by None (places_rules text 0 None items)
    → second ≡ found_by first (names_rules text [] false items) → offsets ≡ offsets_in text items → third ≡ found_by second (values_rules text offsets None items)
    → second ≡ None → third ≡ None → HasPassed text items
passed text items offsets first second third first-is second-is is third-is none none-behind = record {
  places = sym (places-then-names text items first second first-is second-is) ∙ none;
  values = sym (values-behind text items offsets second third is none third-is) ∙ none-behind;
}

-- A fault of the second pass is that of the listing.
pub place-refused : (text : List ℕ) (items : List Item) (fault : SourceFault) → place_fault text items ≡ Some fault → assembled text items ≡ Err fault
unfolding assembled fault_of
place-refused text items fault is = rw is refl

-- So is one of the third, where the second has none.
pub value-refused : (text : List ℕ) (items : List Item) (fault : SourceFault) → place_fault text items ≡ None → value_fault text items ≡ Some fault → assembled text items ≡ Err fault
unfolding assembled fault_of
value-refused text items fault none is = rw (none, is) refl

-- And that of the entry, where neither has one.
pub entry-refused : (text : List ℕ) (items : List Item) → place_fault text items ≡ None → value_fault text items ≡ None
    → is_start (segments_in text items) (entry_in text (offsets_in text items) items) ≡ false → assembled text items ≡ Err (record { line = 0; reason = NoEntry })
unfolding assembled fault_of
entry-refused text items places values entry = rw (places, values, entry) refl

-- Else there is no fault,
pub faultless : (text : List ℕ) (items : List Item) → place_fault text items ≡ None → value_fault text items ≡ None
    → is_start (segments_in text items) (entry_in text (offsets_in text items) items) ≡ true → fault_of text items ≡ None
unfolding fault_of
faultless text items places values entry = rw (places, values, entry) refl

-- and the listing is assembled to the file of its program.
pub file-made : (text : List ℕ) (items : List Item) → fault_of text items ≡ None → assembled text items ≡ Ok (file_of (program_of text items))
unfolding assembled
file-made text items none = rw none refl

-- a page that may be executed is one at the segment's end
code-same : (place : ℕ) (segment : Segment) (end : OpenSegment) → IsAtEnd segment end → holds_code place segment ≡ closed_code place end
code-same place segment end is = rw (is.start, is.rights, is.size, is.bss) refl

any-same : (place : ℕ) (segments : List Segment) (ends : List OpenSegment) → AreAtEnds segments ends → list_any (holds_code place) segments ≡ list_any (closed_code place) ends
any-same place [] [] are = refl
any-same place [] (end ∷ ends) are = absurd are
any-same place (segment ∷ segments) [] are = absurd are
any-same place (segment ∷ segments) (end ∷ ends) (is, are) = rw (code-same place segment end is, any-same place segments ends are) refl

-- The entry is tested by the segments that are kept.
pub start-same : (entry : Option ℕ) (segments : List Segment) (ends : List OpenSegment) → AreAtEnds segments ends → is_start segments entry ≡ is_closed_start ends entry
start-same None segments ends are = refl
start-same (Some entry) segments ends are = rw (any-same entry segments ends are) refl

-- Segments in order lie in the region.
pub ends-inside : (past : ℕ) (segments : List Segment) (ends : List OpenSegment) → AreSegments past segments → AreAtEnds segments ends → All IsInside ends
ends-inside past [] [] in-order are = All-nil IsInside
ends-inside past [] (end ∷ ends) in-order are = absurd are
ends-inside past (segment ∷ segments) [] in-order are = absurd are
ends-inside past (segment ∷ segments) (end ∷ ends) (here-is, there) (is, are) =
    let inside : IsInside end = omega (arith, here-is.inside, is.start, is.size, is.bss) in
    All-cons IsInside end ends inside (ends-inside (segment_end segment) segments ends there are)

-- The segments of a listing that keeps the rules on places lie in the region.
pub closed-inside : (text : List ℕ) (items : List Item) → AllInRange items → AllMet (places_rules text 0 None items) → All IsInside (closed_from text None items)
closed-inside text items ranges places =
    let offsets = offsets_in text items in
    ends-inside 0 (segments_from text offsets None [] items) (closed_from text None items) (are-segments text offsets 0 0 None [] items ranges refl tt places)
    (at-ends text offsets None [] items ranges tt)

-- Where neither pass has a fault, the listing keeps the rules.
pub rules-kept : (text : List ℕ) (items : List Item) (offsets : Offsets) → offsets ≡ offsets_in text items → AllInRange items → place_fault text items ≡ None → value_fault text items ≡ None
    → KeepsRules text offsets 0 None items
rules-kept text items offsets is ranges places values = record {
  ranges = ranges;
  inside = tt;
  places = met-left (places_rules text 0 None items) (names_rules text [] false items) (met (places_rules text 0 None items ++ names_rules text [] false items) places);
  values = rw is (met (values_rules text (offsets_in text items) None items) values);
}

-- The entry is tested by what is kept.
pub start-tested : (text : List ℕ) (items : List Item) (offsets : Offsets) (ends : List OpenSegment) → offsets ≡ offsets_in text items → ends ≡ closed_from text None items → AllInRange items
    → is_start (segments_in text items) (entry_in text (offsets_in text items) items) ≡ is_closed_start ends (entry_in text offsets items)
start-tested text items offsets ends is ends-are ranges =
    rw (is, ends-are) (start-same (entry_in text (offsets_in text items) items) (segments_in text items) (closed_from text None items) (at-ends text (offsets_in text items) None [] items ranges tt))

-- The file of what was read of a listing is that of its program.
pub program-file : (text : List ℕ) (items : List Item) (offsets : Offsets) (entry : ℕ) (relocations : List Relocation) → offsets ≡ offsets_in text items → entry_in text offsets items ≡ Some entry
    → relocations ≡ relocations_from text offsets None items
    → file_of (record { segments = segments_from text offsets None [] items; relocations = relocations; entry = entry }) ≡ file_of (program_of text items)
unfolding program_of
program-file text items offsets entry relocations is entry-is relocations-are =
    let entry-found : entry_in text (offsets_in text items) items ≡ Some entry = rw is at entry-is in
    rw (relocations-are, is, entry-found) refl

-- The kept segments are few, and so are the relocations.
pub few-closed : (text : List ℕ) (items : List Item) → AllInRange items → IsProgram (program_of text items) → length (closed_from text None items) ≤ 15
unfolding program_of
few-closed text items ranges program =
    omega (arith, program.few, count-same (segments_in text items) (closed_from text None items) (at-ends text (offsets_in text items) None [] items ranges tt))

pub few-relocations : (text : List ℕ) (items : List Item) (offsets : Offsets) (relocations : List Relocation) → offsets ≡ offsets_in text items → relocations ≡ relocations_from text offsets None items
    → IsProgram (program_of text items) → length relocations ≤ 65536
unfolding program_of
few-relocations text items offsets relocations is relocations-are program = rw (relocations-are, is) (has-room (program_of text items) program).few
