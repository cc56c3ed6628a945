-- The segments of a listing rise in the region, and there are at most 15.
use Rattle.std.proofs.Common.{◌≡◌, subst, refl, ℕ, ◌+◌, ◌<◌, ◌≤◌, Option, Some, None, List, [], ◌∷◌, ◌++◌, length, arith, length-append}
use Rattle.std.specs.List.{All}
use Rattle.std.proofs.lemmas.Grind.{common_steps}
use Rattle.std.proofs.lemmas.List.Elements.{All-head, All-tail}
use Rattle.asm_text.specs.declared.listing.Item.{Item}
use Rattle.asm_text.specs.Ranges.{HasRanges}
use Rattle.asm_image.specs.declared.place.OpenSegment.{OpenSegment}
use Rattle.asm_image.specs.Program.{Segment, segment_end}
use Rattle.asm_image.specs.Sound.{IsSegment, AreSegments}
use Rattle.asm_image.specs.Places.{begun_by, open_by, open_after}
use Rattle.asm_image.specs.Faults.{AllMet}
use Rattle.asm_image.specs.Labels.{Offsets}
use Rattle.asm_image.specs.Assembled.{ended, ended_by, bytes_by, segments_from}
use Rattle.asm_image.specs.Rules.{past_of, end_rules, rules_by, count_by, places_rules}
use Rattle.asm_image.proofs.MetRules.{met-left, met-right}
use Rattle.asm_image.proofs.OpenSegments.{IsNewOrNone, IsOpen, IsOpenOrNone, past_by, HasSize, begun-new, open-next, size-next}

-- the numbers of all items are in their ranges
abbrev pub AllInRange : List Item → Type 0
AllInRange items = All (λ item. HasRanges item.what) items

-- what the open segment comes to
abbrev segment_of : OpenSegment → List ℕ → Segment
segment_of current bytes = record { start = current.start; rights = current.rights; bytes = bytes; bss = current.bss }

-- where it ends it is a segment
closed : (past : ℕ) (current : OpenSegment) (bytes : List ℕ) → IsOpen past current → length bytes ≡ current.size → AllMet (end_rules (Some current)) → IsSegment past (segment_of current bytes)
closed past current bytes is size (some, none) = record {
  readable = is.readable;
  rights = is.rights;
  aligned = is.aligned;
  behind = is.behind;
  some = omega (arith, is.some some);
  inside = omega (arith, is.inside);
}

-- the end of its pages
end-same : (current : OpenSegment) (bytes : List ℕ) → length bytes ≡ current.size → past_of (Some current) ≡ segment_end (segment_of current bytes)
end-same current bytes size = rw size refl

-- the others are in order behind the segment that ends, if one does
ended-then : (text : List ℕ) (past count : ℕ) (item : Item) (new current : Option OpenSegment) (bytes : List ℕ) (others : List Segment) → IsOpenOrNone past current → HasSize current bytes
    → AllMet (rules_by text count item new current) → AreSegments (past_by past new current) others → AreSegments past (ended_by new current bytes ++ others)
ended-then text past count item (Some new) None bytes others is size m are = rw is are
ended-then text past count item (Some new) (Some current) bytes others is size (start, (few, m)) are =
    (closed past current bytes is size m, subst (λ (end : ℕ). AreSegments end others) (end-same current bytes size) are)
ended-then text past count item None current bytes others is size m are = are

module _ (text : List ℕ) (offsets : Offsets) where
  -- The segments of items are in order.
  pub are-segments : (past count : ℕ) (current : Option OpenSegment) (bytes : List ℕ) (items : List Item) → AllInRange items → IsOpenOrNone past current → HasSize current bytes
      → AllMet (places_rules text count current items) → AreSegments past (segments_from text offsets current bytes items)
  are-segments past count None bytes [] ranges is size m = tt
  are-segments past count (Some current) bytes [] ranges is size m = (closed past current bytes is size m, tt)
  are-segments past count current bytes (item ∷ items) ranges is size m =
      let new = begun_by item in
      let rest = places_rules text (count_by count new) (open_after text item current) items in
      let here : AllMet (rules_by text count item new current) = met-left (rules_by text count item new current) rest m in
      let begins : IsNewOrNone new = begun-new item.line item.what (All-head (λ item. HasRanges item.what) item items ranges) in
      let others = segments_from text offsets (open_after text item current) (bytes_by text offsets item.what new current bytes) items in
      ended-then text past count item new current bytes others is size here
      (are-segments (past_by past new current) (count_by count new) (open_after text item current) (bytes_by text offsets item.what new current bytes) items
      (All-tail (λ item. HasRanges item.what) item items ranges) (open-next text past count item new current begins is here)
      (size-next text offsets item.what new current bytes begins size) (met-right (rules_by text count item new current) rest m))

  -- They are at most 15, with those before them.
  pub few-segments : (count : ℕ) (current : Option OpenSegment) (bytes : List ℕ) (items : List Item) → count ≤ 15 → AllMet (places_rules text count current items)
      → count + length (segments_from text offsets current bytes items) ≤ 15 + length (ended current bytes)
  few-segments count current bytes [] few m = omega arith
  few-segments count current bytes (item ∷ items) few m =
      by (begun_by item) current (met-left (rules_by text count item (begun_by item) current) _ m)
      (λ count current bytes. few-segments count current bytes items)
      (met-right (rules_by text count item (begun_by item) current) (places_rules text (count_by count (begun_by item)) (open_after text item current) items) m)
    where
      by : (new current : Option OpenSegment) → AllMet (rules_by text count item new current)
          → ((count : ℕ) (current : Option OpenSegment) (bytes : List ℕ) → count ≤ 15 → AllMet (places_rules text count current items)
          → count + length (segments_from text offsets current bytes items) ≤ 15 + length (ended current bytes))
          → AllMet (places_rules text (count_by count new) (open_by text item.what new current) items)
          → count + length (ended_by new current bytes ++ segments_from text offsets (open_by text item.what new current) (bytes_by text offsets item.what new current bytes) items)
          ≤ 15 + length (ended current bytes)
      by (Some new) current (start, (few-so-far, m)) rest-few rest =
          let below : count < 15 = grind (arith, common_steps, few-so-far) in
          omega (arith, length-append (ended current bytes) (segments_from text offsets (Some new) [] items), rest-few (count + 1) (Some new) [] (omega arith) rest)
      by None None m rest-few rest = rest-few count None (bytes_by text offsets item.what None None bytes) few rest
      by None (Some current) m rest-few rest = rest-few count (open_by text item.what None (Some current)) (bytes_by text offsets item.what None (Some current) bytes) few rest
