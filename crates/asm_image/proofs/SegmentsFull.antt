-- The segments of a listing without a fault have just the bytes of its statements.
use Rattle.std.proofs.Common.{◌≡◌, ◌∙◌, refl, sym, ap, ℕ, ◌+◌, true, Option, Some, None, List, [], ◌∷◌, ◌++◌, arith}
use Rattle.std.specs.List.{flat_map, sum_by}
use Rattle.std.proofs.lemmas.List.{append_assoc}
use Rattle.std.proofs.lemmas.List.Sums.{sum_by-cons}
use Rattle.asm_text.specs.declared.listing.What.{What}
use Rattle.asm_text.specs.declared.listing.What.TheVariants.{Segment, Entry}
use Rattle.asm_text.specs.declared.listing.Item.{Item}
use Rattle.asm_image.specs.declared.place.OpenSegment.{OpenSegment}
use Rattle.asm_image.specs.Program as program
use Rattle.asm_image.specs.Places.{bss_of, place_in, begun, begun_by, open_by}
use Rattle.asm_image.specs.Faults.{AllMet}
use Rattle.asm_image.specs.Labels.{Offsets, offsets_in}
use Rattle.asm_image.specs.Values.{item_bytes}
use Rattle.asm_image.specs.Rules.{is_entry, rules_by, count_by, places_rules}
use Rattle.asm_image.specs.Assembled.{ended_by, bytes_by, segments_from}
use Rattle.asm_image.specs.Laws.{said_bytes, SegmentsHaveStatements}
use Rattle.asm_image.proofs.MetRules.{met-left, met-right}
use Rattle.asm_image.proofs.StatementsStand.{places-met}

-- the bytes of all segments, and how many come behind them
abbrev bytes_in : List program.Segment → List ℕ
bytes_in segments = flat_map (λ segment. segment.bytes) segments

abbrev bss_in : List program.Segment → ℕ
bss_in segments = sum_by (λ segment. segment.bss) segments

abbrev said_bss : List Item → ℕ
said_bss items = sum_by (λ item. bss_of item.what) items

-- those of the segment that is open
abbrev bytes_so_far : Option OpenSegment → List ℕ → List ℕ
bytes_so_far None bytes = []
bytes_so_far (Some current) bytes = bytes

abbrev bss_so_far : Option OpenSegment → ℕ
bss_so_far None = 0
bss_so_far (Some current) = current.bss

-- a statement with nothing in the file's part and nothing behind it
record IsBare (text : List ℕ) (offsets : Offsets) (at : ℕ) (what : What) : Type 0 where
  pub bytes : item_bytes text offsets at what ≡ []
  pub bss : bss_of what ≡ 0

-- `.segment` and `.entry` are bare
begun-bare : (text : List ℕ) (offsets : Offsets) (at line : ℕ) (what : What) (new : OpenSegment) → begun line what ≡ Some new → IsBare text offsets at what
begun-bare text offsets at line (Segment place rights) new is = record { bytes = refl; bss = refl }
begun-bare text offsets at line what new is = absurd (cc)

entry-bare : (text : List ℕ) (offsets : Offsets) (at : ℕ) (what : What) → is_entry what ≡ true → IsBare text offsets at what
entry-bare text offsets at (Entry name) is = record { bytes = refl; bss = refl }
entry-bare text offsets at what is = absurd (cc)

-- a segment that begins begins with no bytes behind it
begun-free : (line : ℕ) (what : What) (new : OpenSegment) → begun line what ≡ Some new → new.bss ≡ 0
begun-free line (Segment place rights) new is = ap bss_so_far (sym is)
begun-free line what new is = absurd (cc)

module _ (text : List ℕ) (offsets : Offsets) where
  -- the segments from here on have the bytes so far and those of the statements
  bytes-full : (count : ℕ) (current : Option OpenSegment) (bytes : List ℕ) (items : List Item) → AllMet (places_rules text count current items)
      → bytes_in (segments_from text offsets current bytes items) ≡ bytes_so_far current bytes ++ said_bytes text offsets current items
  bytes-full count None bytes [] m = refl
  bytes-full count (Some current) bytes [] m = refl
  bytes-full count current bytes (item ∷ items) m =
      by (begun_by item) current refl (met-left (rules_by text count item (begun_by item) current) _ m)
      (λ current bytes m. bytes-full (count_by count (begun_by item)) current bytes items m) (met-right (rules_by text count item (begun_by item) current) _ m)
    where
      by : (new current : Option OpenSegment) → begun_by item ≡ new → AllMet (rules_by text count item new current)
          → ((current : Option OpenSegment) (bytes : List ℕ) → AllMet (places_rules text (count_by count new) current items)
          → bytes_in (segments_from text offsets current bytes items) ≡ bytes_so_far current bytes ++ said_bytes text offsets current items)
          → AllMet (places_rules text (count_by count new) (open_by text item.what new current) items)
          → bytes_in (ended_by new current bytes ++ segments_from text offsets (open_by text item.what new current) (bytes_by text offsets item.what new current bytes) items)
          ≡ bytes_so_far current bytes ++ (item_bytes text offsets (place_in current) item.what ++ said_bytes text offsets (open_by text item.what new current) items)
      by (Some new) None is here rest later =
          let bare = begun-bare text offsets 0 item.line item.what new is in
          rest (Some new) [] later ∙ ap (λ list. list ++ said_bytes text offsets (Some new) items) (sym bare.bytes)
      by (Some new) (Some current) is here rest later =
          let bare = begun-bare text offsets (place_in (Some current)) item.line item.what new is in
          ap (λ list. bytes ++ list) (rest (Some new) [] later ∙ ap (λ list. list ++ said_bytes text offsets (Some new) items) (sym bare.bytes))
      by None None is (entry, none) rest later =
          let bare = entry-bare text offsets 0 item.what entry in
          rest None (bytes ++ item_bytes text offsets 0 item.what) later ∙ ap (λ list. list ++ said_bytes text offsets None items) (sym bare.bytes)
      by None (Some current) is here rest later =
          let more : List ℕ = item_bytes text offsets (place_in (Some current)) item.what in
          let after = open_by text item.what None (Some current) in
          rest after (bytes ++ more) later ∙ append_assoc bytes more (said_bytes text offsets after items)

  -- and so many behind them
  bss-full : (count : ℕ) (current : Option OpenSegment) (bytes : List ℕ) (items : List Item) → AllMet (places_rules text count current items)
      → bss_in (segments_from text offsets current bytes items) ≡ bss_so_far current + said_bss items
  bss-full count None bytes [] m = refl
  bss-full count (Some current) bytes [] m = omega arith
  bss-full count current bytes (item ∷ items) m =
      by (begun_by item) current refl (met-left (rules_by text count item (begun_by item) current) _ m)
      (λ current bytes m. bss-full (count_by count (begun_by item)) current bytes items m) (met-right (rules_by text count item (begun_by item) current) _ m)
      ∙ ap (λ n. bss_so_far current + n) (sym (sum_by-cons (λ item. bss_of item.what) item items))
    where
      by : (new current : Option OpenSegment) → begun_by item ≡ new → AllMet (rules_by text count item new current)
          → ((current : Option OpenSegment) (bytes : List ℕ) → AllMet (places_rules text (count_by count new) current items)
          → bss_in (segments_from text offsets current bytes items) ≡ bss_so_far current + said_bss items)
          → AllMet (places_rules text (count_by count new) (open_by text item.what new current) items)
          → bss_in (ended_by new current bytes ++ segments_from text offsets (open_by text item.what new current) (bytes_by text offsets item.what new current bytes) items)
          ≡ bss_so_far current + (bss_of item.what + said_bss items)
      by (Some new) None is here rest later =
          let bare = begun-bare text offsets 0 item.line item.what new is in
          rest (Some new) [] later ∙ omega (arith, bare.bss, begun-free item.line item.what new is)
      by (Some new) (Some current) is here rest later =
          let bare = begun-bare text offsets 0 item.line item.what new is in
          let next : List program.Segment = segments_from text offsets (Some new) [] items in
          sum_by-cons (λ segment. segment.bss) (record { start = current.start; rights = current.rights; bytes = bytes; bss = current.bss }) next
          ∙ omega (arith, rest (Some new) [] later, bare.bss, begun-free item.line item.what new is)
      by None None is (entry, none) rest later =
          let bare = entry-bare text offsets 0 item.what entry in
          rest None (bytes ++ item_bytes text offsets 0 item.what) later ∙ omega (arith, bare.bss)
      by None (Some current) is here rest later =
          rest (open_by text item.what None (Some current)) (bytes ++ item_bytes text offsets (place_in (Some current)) item.what) later ∙ omega arith

-- The segments of a listing without a fault have just the bytes of its statements, in the file's part and behind it.
pub segments-are-full : SegmentsHaveStatements
segments-are-full text items none =
    let m = places-met text items none in
    record { bytes = bytes-full text (offsets_in text items) 0 None [] items m; bss = bss-full text (offsets_in text items) 0 None [] items m ∙ omega arith }
