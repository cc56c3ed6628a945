-- Where the bytes of each statement stand, in a listing without a fault.
use Rattle.std.proofs.Common.{◌≡◌, ◌∙◌, refl, sym, ap, ℕ, suc, ◌+◌, ◌-◌, ◌≤◌, Bool, true, false, ◌||◌, Option, Some, None, List, [], ◌∷◌, ◌++◌, length, drop, arith, length-append}
use Rattle.std.specs.List.{Any}
use Rattle.std.proofs.lemmas.Grind.{common_steps}
use Rattle.std.proofs.lemmas.List.{append_assoc, append-nil, take_at, drop_at}
use Rattle.asm_text.specs.declared.listing.What.{What}
use Rattle.asm_text.specs.declared.listing.What.TheVariants.{Label, Segment, Entry, Bss}
use Rattle.asm_text.specs.declared.listing.Item.{Item}
use Rattle.asm_image.specs.declared.place.OpenSegment.{OpenSegment}
use Rattle.asm_image.specs.Program as program
use Rattle.asm_image.specs.Places.{bss_of, is_bss, here, place_in, grown, begun, begun_by, open_by, open_after}
use Rattle.asm_image.specs.Faults.{AllMet, or_else}
use Rattle.asm_image.specs.Labels.{Offsets, offsets_in}
use Rattle.asm_image.specs.Values.{item_bytes}
use Rattle.asm_image.specs.Rules.{is_content, rules_in, rules_by, count_by, places_rules, names_rules}
use Rattle.asm_image.specs.Assembled.{ended_by, bytes_by, segments_from, place_fault, value_fault, entry_fault, fault_of}
use Rattle.asm_image.specs.Laws.{open_behind, HasContentAt, StatementsStandAtPlaces}
use Rattle.asm_image.proofs.MetRules.{met, met-left, met-right, none-first}
use Rattle.asm_image.proofs.StatementSizes.{item-length}

-- something holds of the first of a list, of one of the rest, or of one of which more holds
any-first : {X : Type 0} (P : X → Type 0) (x : X) (xs : List X) → P x → Any P (x ∷ xs)
any-first P x xs holds = (0, x, omega arith, refl, holds)

any-rest : {X : Type 0} (P : X → Type 0) (x : X) (xs : List X) → Any P xs → Any P (x ∷ xs)
any-rest P x xs (at, found, within, is, holds) = (suc at, found, omega arith, is, holds)

any-also : {X : Type 0} (P Q : X → Type 0) (xs : List X) → ((x : X) → P x → Q x) → Any P xs → Any Q xs
any-also P Q xs also (at, found, within, is, holds) = (at, found, within, is, also found holds)

-- the same of the segments behind the one that ends, if one does
any-behind : (P : program.Segment → Type 0) (new current : Option OpenSegment) (bytes : List ℕ) (segments : List program.Segment) → Any P segments → Any P (ended_by new current bytes ++ segments)
any-behind P (Some new) None bytes segments found = found
any-behind P (Some new) (Some current) bytes segments found = any-rest P _ segments found
any-behind P None current bytes segments found = found

-- the open segment with its bytes so far: before a `.bss` there is nothing behind them
record IsKept (current : OpenSegment) (bytes : List ℕ) : Type 0 where
  pub size : length bytes ≡ current.size
  pub bss : current.full ≡ false → current.bss ≡ 0

abbrev IsKeptOrNone : Option OpenSegment → List ℕ → Type 0
IsKeptOrNone None bytes = Unit {0}
IsKeptOrNone (Some current) bytes = IsKept current bytes

-- a segment that begins is kept with no bytes
begun-kept : (line : ℕ) (what : What) → IsKeptOrNone (begun line what) []
begun-kept line (Segment at rights) = record { size = refl; bss = λ free. refl }
begun-kept line what = tt

-- a statement that isn't `.bss` has nothing behind the file's part
no-bss : (what : What) → is_bss what ≡ false → bss_of what ≡ 0
no-bss (Bss count) none = absurd (cc)
no-bss what none = refl

-- it stays so behind a statement
grown-bss : (full : Bool) (bss : ℕ) (what : What) → (full ≡ false → bss ≡ 0) → (full || is_bss what) ≡ false → bss + bss_of what ≡ 0
grown-bss true bss what none free = absurd (cc)
grown-bss false bss what none free = omega (arith, none refl, no-bss what free)

-- a segment begins at a place, with these bytes, and has room behind the file's part for so many or more
record GrowsFrom (from : ℕ) (bytes : List ℕ) (bss : ℕ) (segment : program.Segment) : Type 0 where
  pub start : segment.start ≡ from
  pub more : List ℕ
  pub whole : segment.bytes ≡ bytes ++ more
  pub room : bss ≤ segment.bss

module _ (text : List ℕ) (offsets : Offsets) where
  -- behind each item the open segment is kept
  kept-next : (what : What) (new current : Option OpenSegment) (bytes : List ℕ) → IsKeptOrNone new [] → IsKeptOrNone current bytes
      → IsKeptOrNone (open_by text what new current) (bytes_by text offsets what new current bytes)
  kept-next what (Some new) current bytes begins kept = begins
  kept-next what None None bytes begins kept = tt
  kept-next what None (Some current) bytes begins kept = record {
    size = omega (arith, kept.size, length-append bytes (item_bytes text offsets (here current) what), item-length text offsets (here current) what);
    bss = grown-bss current.full current.bss what kept.bss;
  }

  -- what is open comes to a segment, whatever follows
  grows : (current : OpenSegment) (bytes : List ℕ) (items : List Item) → Any (GrowsFrom current.start bytes current.bss) (segments_from text offsets (Some current) bytes items)
  grows current bytes [] = any-first _ _ [] (record { start = refl; more = []; whole = sym (append-nil bytes); room = omega arith })
  grows current bytes (item ∷ items) = by (begun_by item) (grows (grown text item.what current) (bytes ++ item_bytes text offsets (here current) item.what) items)
    where
      by : (new : Option OpenSegment) → Any (GrowsFrom current.start (bytes ++ item_bytes text offsets (here current) item.what) (current.bss + bss_of item.what))
          (segments_from text offsets (Some (grown text item.what current)) (bytes ++ item_bytes text offsets (here current) item.what) items)
          → Any (GrowsFrom current.start bytes current.bss)
          (ended_by new (Some current) bytes ++ segments_from text offsets (open_by text item.what new (Some current)) (bytes_by text offsets item.what new (Some current) bytes) items)
      by (Some new) rest = any-first _ _ _ (record { start = refl; more = []; whole = sym (append-nil bytes); room = omega arith })
      by None rest = any-also _ _ _ (λ segment grows. record {
        start = grows.start;
        more = item_bytes text offsets (here current) item.what ++ grows.more;
        whole = grows.whole ∙ append_assoc bytes (item_bytes text offsets (here current) item.what) grows.more;
        room = omega (arith, grows.room);
      }) rest

  -- so a statement stands in it, right behind the bytes so far
  content-has : (what : What) (current : OpenSegment) (bytes : List ℕ) (segment : program.Segment) → length bytes ≡ current.size → current.bss ≡ 0
      → GrowsFrom current.start (bytes ++ item_bytes text offsets (here current) what) (current.bss + bss_of what) segment
      → HasContentAt (here current) (item_bytes text offsets (here current) what) (bss_of what) segment
  content-has what current bytes segment size none grows =
      let content : List ℕ = item_bytes text offsets (here current) what in
      let place : here current - segment.start ≡ length bytes = omega (arith, grows.start, size, none) in
      let whole : segment.bytes ≡ bytes ++ (content ++ grows.more) = grows.whole ∙ append_assoc bytes content grows.more in
      let behind : drop (here current - segment.start) segment.bytes ≡ content ++ grows.more = rw (place, whole) (drop_at bytes (content ++ grows.more) (length bytes) refl) in
      record {
        start = omega (arith, grows.start);
        bytes_there = rw behind (take_at content grows.more (length content) refl);
        room = omega (arith, grows.start, grows.room, size, none, ap length whole, length-append bytes (content ++ grows.more), length-append content grows.more);
      }

  -- what is content begins no segment
  content-begins : (line : ℕ) (what : What) → is_content what ≡ true → begun line what ≡ None
  content-begins line (Segment at rights) content = absurd (cc)
  content-begins line what content = refl

  -- content doesn't stand behind a `.bss`
  content-open : (line : ℕ) (what : What) (current : OpenSegment) → is_content what ≡ true → AllMet (rules_in text line what (Some current)) → current.full ≡ false
  content-open line what current content m = let (align, (free, rest)) = rw content at m in grind (arith, common_steps, free)

  -- nor where none is
  content-somewhere : (line : ℕ) (what : What) → is_content what ≡ true → AllMet (rules_in text line what None) → ⊥
  content-somewhere line (Label name) content m = absurd (cc)
  content-somewhere line (Segment at rights) content m = absurd (cc)
  content-somewhere line (Entry name) content m = absurd (cc)
  content-somewhere line what content (somewhere, m) = absurd (cc)

  -- content stands at the place of the open segment's end
  content-stands : (count : ℕ) (current : Option OpenSegment) (bytes : List ℕ) (item : Item) (after : List Item) → is_content item.what ≡ true → IsKeptOrNone current bytes
      → AllMet (rules_by text count item (begun_by item) current)
      → Any (HasContentAt (place_in current) (item_bytes text offsets (place_in current) item.what) (bss_of item.what)) (segments_from text offsets current bytes (item ∷ after))
  content-stands count None bytes item after content kept m = absurd (content-somewhere item.line item.what content (rw (content-begins item.line item.what content) at m))
  content-stands count (Some current) bytes item after content kept m =
      let none = content-begins item.line item.what content in
      let free = content-open item.line item.what current content (rw none at m) in
      rw none (any-also _ _ _ (λ segment. content-has item.what current bytes segment kept.size (kept.bss free))
      (grows (grown text item.what current) (bytes ++ item_bytes text offsets (here current) item.what) after))

  -- so it stands at the place behind the items before it
  stands : (count : ℕ) (current : Option OpenSegment) (bytes : List ℕ) (before : List Item) (item : Item) (after : List Item) → is_content item.what ≡ true → IsKeptOrNone current bytes
      → AllMet (places_rules text count current (before ++ (item ∷ after)))
      → Any (HasContentAt (place_in (open_behind text current before)) (item_bytes text offsets (place_in (open_behind text current before)) item.what) (bss_of item.what))
      (segments_from text offsets current bytes (before ++ (item ∷ after)))
  stands count current bytes [] item after content kept m = content-stands count current bytes item after content kept (met-left (rules_by text count item (begun_by item) current) _ m)
  stands count current bytes (first ∷ before) item after content kept m =
      let new = begun_by first in
      any-behind _ new current bytes _ (stands (count_by count new) (open_after text first current) (bytes_by text offsets first.what new current bytes) before item after content
      (kept-next first.what new current bytes (begun-kept first.line first.what) kept) (met-right (rules_by text count first new current) _ m))

-- The rules on places are met where there is no fault.
pub places-met : (text : List ℕ) (items : List Item) → fault_of text items ≡ None → AllMet (places_rules text 0 None items)
unfolding fault_of
places-met text items none =
    met-left (places_rules text 0 None items) (names_rules text [] false items)
    (met (places_rules text 0 None items ++ names_rules text [] false items) (none-first (place_fault text items) (or_else (value_fault text items) (entry_fault text items)) none))

-- In a listing without a fault each statement stands at its place.
pub statements-stand : StatementsStandAtPlaces
statements-stand text before item after none content =
    stands text (offsets_in text (before ++ (item ∷ after))) 0 None [] before item after content tt (places-met text (before ++ (item ∷ after)) none)
