-- The bytes of the segments in the file are those of the statements, one after another.
use Rattle.std.proofs.Common.{◌≡◌, refl, ℕ, ◌+◌, ◌-◌, true, Option, Some, None, List, [], ◌∷◌, ◌++◌, length, replicate, ap, sym, ◌∙◌, arith, length-append}
use Rattle.std.proofs.lemmas.List.{append_assoc, append-nil}
use Rattle.cap_format.specs.Numbers.{page_bytes}
use Rattle.cap_format.specs.SetBounds.{up_to}
use Rattle.asm_text.specs.declared.listing.What.{What}
use Rattle.asm_text.specs.declared.listing.What.TheVariants.{Entry}
use Rattle.asm_text.specs.declared.listing.Item.{Item}
use Rattle.asm_image.specs.declared.place.OpenSegment.{OpenSegment}
use Rattle.asm_image.specs.Pieces.{piece_bytes, bytes_of}
use Rattle.asm_image.specs.Program.{segment_pieces}
use Rattle.asm_image.specs.Places.{place_in, begun_by, open_by}
use Rattle.asm_image.specs.Faults.{AllMet}
use Rattle.asm_image.specs.Labels.{Offsets}
use Rattle.asm_image.specs.Values.{item_bytes}
use Rattle.asm_image.specs.Rules.{is_entry, rules_by, count_by, places_rules}
use Rattle.asm_image.specs.Assembled.{ended_by, bytes_by, segments_from}
use Rattle.asm_image.specs.Layout.{body_by, place_behind, body_from}
use Rattle.asm_image.proofs.MetRules.{met-left, met-right}

-- what the open segment has put into the file, and where the file stands behind that
abbrev lead : Option OpenSegment → List ℕ → ℕ → List ℕ
lead None bytes at = []
lead (Some current) bytes at = replicate (up_to at page_bytes - at) 0 ++ bytes

abbrev behind : Option OpenSegment → List ℕ → ℕ → ℕ
behind None bytes at = at
behind (Some current) bytes at = up_to at page_bytes + length bytes

-- `.entry` has no bytes
no-bytes : (text : List ℕ) (offsets : Offsets) (at : ℕ) (what : What) → is_entry what ≡ true → item_bytes text offsets at what ≡ []
no-bytes text offsets at (Entry name) is = refl
no-bytes text offsets at what is = absurd (cc)

-- lists side by side
regroup : (zeros bytes more rest : List ℕ) → (zeros ++ (bytes ++ more)) ++ rest ≡ (zeros ++ bytes) ++ (more ++ rest)
regroup zeros bytes more rest = ap (λ list. list ++ rest) (sym (append_assoc zeros bytes more)) ∙ append_assoc (zeros ++ bytes) more rest

module _ (text : List ℕ) (offsets : Offsets) where
  -- what the segments from here on are in the file
  abbrev Made : Option OpenSegment → List ℕ → ℕ → List Item → Type 0
  Made current bytes at items =
      bytes_of (segment_pieces at (segments_from text offsets current bytes items)) ≡ lead current bytes at ++ body_from text offsets current (behind current bytes at) items

  -- at their end
  made-last : (current : Option OpenSegment) (bytes : List ℕ) (at : ℕ) → Made current bytes at []
  unfolding piece_bytes
  made-last None bytes at = refl
  made-last (Some current) bytes at = sym (append_assoc (replicate (up_to at page_bytes - at) 0) bytes [])

  -- a segment that begins, behind none or behind one that ends
  made-new : (new : OpenSegment) (current : Option OpenSegment) (bytes : List ℕ) (at : ℕ) (item : Item) (items : List Item) → ((at : ℕ) → Made (Some new) [] at items)
      → bytes_of (segment_pieces at (ended_by (Some new) current bytes ++ segments_from text offsets (Some new) [] items))
      ≡ lead current bytes at ++ (replicate (up_to (behind current bytes at) page_bytes - behind current bytes at) 0 ++ body_from text offsets (Some new) (up_to (behind current bytes at) page_bytes) items)
  unfolding piece_bytes
  made-new new None bytes at item items rest =
      let zeros : List ℕ = replicate (up_to at page_bytes - at) 0 in
      rest at ∙ ap (λ list. list ++ body_from text offsets (Some new) (up_to at page_bytes + 0) items) (append-nil zeros)
      ∙ ap (λ place. zeros ++ body_from text offsets (Some new) place items) (omega arith)
  made-new new (Some current) bytes at item items rest =
      let zeros : List ℕ = replicate (up_to at page_bytes - at) 0 in
      let end : ℕ = up_to at page_bytes + length bytes in
      let more : List ℕ = replicate (up_to end page_bytes - end) 0 in
      let last = rest end ∙ ap (λ list. list ++ body_from text offsets (Some new) (up_to end page_bytes + 0) items) (append-nil more)
      ∙ ap (λ place. more ++ body_from text offsets (Some new) place items) (omega arith) in
      ap (λ list. zeros ++ (bytes ++ list)) last ∙ sym (append_assoc zeros bytes (more ++ body_from text offsets (Some new) (up_to end page_bytes) items))

  -- Where the rules on places hold, they are the bytes of the statements.
  pub body-pieces : (count : ℕ) (current : Option OpenSegment) (bytes : List ℕ) (at : ℕ) (items : List Item) → AllMet (places_rules text count current items) → Made current bytes at items
  body-pieces count current bytes at [] m = made-last current bytes at
  body-pieces count current bytes at (item ∷ items) m =
      by (begun_by item) current (met-left (rules_by text count item (begun_by item) current) _ m) (met-right (rules_by text count item (begun_by item) current) _ m)
      (λ count current bytes at m. body-pieces count current bytes at items m)
    where
      by : (new current : Option OpenSegment) → AllMet (rules_by text count item new current) → AllMet (places_rules text (count_by count new) (open_by text item.what new current) items)
          → ((count : ℕ) (current : Option OpenSegment) (bytes : List ℕ) (at : ℕ) → AllMet (places_rules text count current items) → Made current bytes at items)
          → bytes_of (segment_pieces at (ended_by new current bytes ++ segments_from text offsets (open_by text item.what new current) (bytes_by text offsets item.what new current bytes) items))
          ≡ lead current bytes at ++ body_by (item_bytes text offsets (place_in current) item.what) new (behind current bytes at)
          (body_from text offsets (open_by text item.what new current) (place_behind (item_bytes text offsets (place_in current) item.what) new (behind current bytes at)) items)
      by (Some new) current here later rest = made-new new current bytes at item items (λ at. rest (count + 1) (Some new) [] at later)
      by None None (entry, none) later rest =
          let nothing : item_bytes text offsets 0 item.what ≡ [] = no-bytes text offsets 0 item.what entry in
          rest count None (bytes ++ item_bytes text offsets 0 item.what) at later
          ∙ ap (λ place. body_from text offsets None place items) (omega (arith, ap length nothing)) ∙ ap (λ list. list ++ body_from text offsets None (at + length (item_bytes text offsets 0 item.what)) items) (sym nothing)
      by None (Some current) here later rest =
          let zeros : List ℕ = replicate (up_to at page_bytes - at) 0 in
          let more : List ℕ = item_bytes text offsets (place_in (Some current)) item.what in
          let after = open_by text item.what None (Some current) in
          rest count after (bytes ++ more) at later
          ∙ ap (λ place. (zeros ++ (bytes ++ more)) ++ body_from text offsets after place items) (omega (arith, length-append bytes more))
          ∙ regroup zeros bytes more (body_from text offsets after (up_to at page_bytes + length bytes + length more) items)
