-- What a listing without a fault comes to is a program.
use Rattle.std.proofs.Common.{◌≡◌, refl, ℕ, ◌+◌, ◌%◌, ◌≤◌, Bool, true, false, Option, Some, None, List, [], ◌∷◌, ◌++◌, length, arith, eqb}
use Rattle.std.specs.List.{list_any}
use Rattle.std.specs.Option.{unwrap_or}
use Rattle.std.proofs.lemmas.Bool.{and_parts, eqb-true}
use Rattle.asm_text.specs.declared.source.SourceReason.TheVariants.{NoEntry}
use Rattle.asm_text.specs.declared.listing.Item.{Item}
use Rattle.asm_image.specs.Program.{Segment, holds_code}
use Rattle.asm_image.specs.Sound.{IsProgram}
use Rattle.asm_image.specs.Faults.{LineRule, need◌else◌on◌, AllMet, or_else}
use Rattle.asm_image.specs.Labels.{offsets_in, entry_in}
use Rattle.asm_image.specs.Rules.{places_rules, names_rules, values_rules}
use Rattle.asm_image.specs.Assembled.{segments_in, program_of, place_fault, value_fault, is_start, entry_fault, fault_of}
use Rattle.asm_image.proofs.MetRules.{met, met-left, none-first, none-later}
use Rattle.asm_image.proofs.SegmentsInOrder.{AllInRange, are-segments, few-segments}
use Rattle.asm_image.proofs.RelocationsInOrder.{are-relocations}

-- the rule of the entry
abbrev entry_rules : List ℕ → List Item → List LineRule
entry_rules text items = (need is_start (segments_in text items) (entry_in text (offsets_in text items) items) else NoEntry on 0) ∷ []

-- the entry is a multiple of 4 on a page that may be executed
record IsEntry (segments : List Segment) (entry : ℕ) : Type 0 where
  pub aligned : entry % 4 ≡ 0
  pub on_page : list_any (holds_code entry) segments ≡ true

entry-found : (segments : List Segment) (entry : Option ℕ) → is_start segments entry ≡ true → IsEntry segments (unwrap_or entry 0)
entry-found segments None is = absurd (cc)
entry-found segments (Some entry) is =
    let (aligned, on-page) = and_parts (eqb (entry % 4) 0) (list_any (holds_code entry) segments) is in
    record { aligned = eqb-true (entry % 4) 0 aligned; on_page = on-page }

-- so there is a segment
some-segments : (p : Segment → Bool) (segments : List Segment) → list_any p segments ≡ true → 1 ≤ length segments
some-segments p [] is = absurd (cc)
some-segments p (segment ∷ segments) is = omega arith

-- what holds where no pass finds a fault
record IsFaultless (text : List ℕ) (items : List Item) : Type 0 where
  pub places : AllMet (places_rules text 0 None items)
  pub values : AllMet (values_rules text (offsets_in text items) None items)
  pub start : is_start (segments_in text items) (entry_in text (offsets_in text items) items) ≡ true

faultless : (text : List ℕ) (items : List Item) → fault_of text items ≡ None → IsFaultless text items
unfolding fault_of
faultless text items none =
    let places = places_rules text 0 None items in
    let names = names_rules text [] false items in
    let none-places : place_fault text items ≡ None = none-first (place_fault text items) (or_else (value_fault text items) (entry_fault text items)) none in
    let later : or_else (value_fault text items) (entry_fault text items) ≡ None = none-later (place_fault text items) (or_else (value_fault text items) (entry_fault text items)) none in
    record {
      places = met-left places names (met (places ++ names) none-places);
      values = met (values_rules text (offsets_in text items) None items) (none-first (value_fault text items) (entry_fault text items) later);
      start = (met (entry_rules text items) (none-later (value_fault text items) (entry_fault text items) later)).0;
    }

-- Where the numbers of a listing are in their ranges and no pass finds a fault, it comes to a program.
pub listings-are-programs : (text : List ℕ) (items : List Item) → AllInRange items → fault_of text items ≡ None → IsProgram (program_of text items)
unfolding program_of
listings-are-programs text items ranges none =
    let offsets = offsets_in text items in
    let segments = segments_in text items in
    let passes = faultless text items none in
    let entry = entry-found segments (entry_in text offsets items) passes.start in
    let few : 0 + length segments ≤ 15 + 0 = few-segments text offsets 0 None [] items (omega arith) passes.places in
    record {
      some = some-segments (holds_code (unwrap_or (entry_in text offsets items) 0)) segments entry.on_page;
      few = omega (arith, few);
      segments = are-segments text offsets 0 0 None [] items ranges refl tt passes.places;
      relocations = are-relocations text offsets segments 0 0 None [] items ranges tt (λ place is. is) (omega arith) passes.places passes.values;
      entry_aligned = entry.aligned;
      entry_on_page = entry.on_page;
    }
