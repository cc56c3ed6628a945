-- One more item of a listing is laid out.
use Rattle.std.proofs.Common.{◌≡◌, sym, ℕ, Option, Some, None, List, ◌∷◌, ◌++◌, append_assoc, arith, length-append}
use Rattle.asm_text.specs.declared.listing.Item.{Item}
use Rattle.asm_text.specs.declared.source.SourceFault.{SourceFault}
use Rattle.asm_image.specs.declared.place.OpenSegment.{OpenSegment}
use Rattle.asm_image.specs.Places.{begun_by, open_by, open_after}
use Rattle.asm_image.specs.Faults.{found_by}
use Rattle.asm_image.specs.Rules.{rules_by, count_by, places_rules}
use Rattle.asm_image.specs.Layout.{closed_by, closed_from, begun_count}
use Rattle.asm_image.proofs.FoundRules.{found-append}

-- the segments that have begun, behind an item
count-by : (text : List ℕ) (kept : List OpenSegment) (new current : Option OpenSegment) (item : Item)
    → begun_count (kept ++ closed_by new current) (open_by text item.what new current) ≡ count_by (begun_count kept current) new
count-by text kept (Some new) None item = omega (arith, length-append {A = OpenSegment})
count-by text kept (Some new) (Some current) item = omega (arith, length-append {A = OpenSegment})
count-by text kept None None item = omega (arith, length-append {A = OpenSegment})
count-by text kept None (Some current) item = omega (arith, length-append {A = OpenSegment})

-- what is found at an item and at those behind it
found-next : (text : List ℕ) (found : Option SourceFault) (kept : List OpenSegment) (current : Option OpenSegment) (item : Item) (items : List Item)
    → found_by (found_by found (rules_by text (begun_count kept current) item (begun_by item) current))
    (places_rules text (begun_count (kept ++ closed_by (begun_by item) current) (open_after text item current)) (open_after text item current) items)
    ≡ found_by found (places_rules text (begun_count kept current) current (item ∷ items))
found-next text found kept current item items =
    let here = rules_by text (begun_count kept current) item (begun_by item) current in
    let behind = places_rules text (count_by (begun_count kept current) (begun_by item)) (open_after text item current) items in
    rw (count-by text kept (begun_by item) current item) (sym (found-append found here behind))

-- Where the segments that are kept, with those of the items from one on, are those of all items, so they are behind that item.
pub segments-behind : (text : List ℕ) (kept kept_after : List OpenSegment) (current after : Option OpenSegment) (item : Item) (items behind : List Item) (all : List OpenSegment)
    → items ≡ item ∷ behind → kept_after ≡ kept ++ closed_by (begun_by item) current → after ≡ open_after text item current → kept ++ closed_from text current items ≡ all
    → kept_after ++ closed_from text after behind ≡ all
segments-behind text kept kept_after current after item items behind all first keeps opens are =
    rw (keeps, opens, append_assoc) (rw first at are)

-- Where what was found, with what the items from one on find, is the fault of all, so it is behind that item.
pub found-behind : (text : List ℕ) (kept kept_after : List OpenSegment) (current after : Option OpenSegment) (item : Item) (items behind : List Item) (count : ℕ) (found found_after all : Option SourceFault)
    → items ≡ item ∷ behind → kept_after ≡ kept ++ closed_by (begun_by item) current → after ≡ open_after text item current → count ≡ begun_count kept current
    → found_after ≡ found_by found (rules_by text count item (begun_by item) current) → found_by found (places_rules text (begun_count kept current) current items) ≡ all
    → found_by found_after (places_rules text (begun_count kept_after after) after behind) ≡ all
found-behind text kept kept_after current after item items behind count found found_after all first keeps opens counts finds are =
    rw (finds, keeps, opens, counts, found-next text found kept current item behind) (rw first at are)
