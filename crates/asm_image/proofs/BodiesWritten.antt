-- The bytes of the segments are written item by item.
use Rattle.std.proofs.Common.{◌≡◌, ◌∙◌, refl, ap, ℕ, ◌+◌, ◌-◌, ◌≤◌, Bool, true, false, Option, Some, None, IsNone, is_some, List, ◌∷◌, ◌++◌, length, replicate, append_assoc, arith, length-append}
use Rattle.std.proofs.lemmas.Grind.{common_steps}
use Rattle.cap_format.specs.Numbers.{region_bytes, page_bytes}
use Rattle.cap_format.specs.SetBounds.{up_to}
use Rattle.asm_text.specs.declared.listing.What.{What}
use Rattle.asm_text.specs.declared.listing.What.TheVariants.{Entry}
use Rattle.asm_text.specs.declared.listing.Item.{Item}
use Rattle.asm_image.specs.declared.place.OpenSegment.{OpenSegment}
use Rattle.asm_image.specs.Places.{size_of, here, place_in, begun_by, open_by, open_after}
use Rattle.asm_image.specs.Faults.{AllMet}
use Rattle.asm_image.specs.Labels.{Offsets}
use Rattle.asm_image.specs.Values.{item_bytes}
use Rattle.asm_image.specs.Rules.{is_content, is_entry, rules_in, rules_by}
use Rattle.asm_image.specs.Layout.{added, body_by, place_behind, body_from}
use Rattle.asm_image.proofs.StatementSizes.{no-content}
use Rattle.asm_image.proofs.Sizes.{length-zeros}

-- `.entry` takes no bytes
entry-size : (text : List ℕ) (at : ℕ) (what : What) → is_entry what ≡ true → size_of text at what ≡ 0
entry-size text at (Entry name) is = refl
entry-size text at what is = absurd (cc)

-- A statement that keeps the rules on its place fits the region.
pub size-kept : (text : List ℕ) (line : ℕ) (what : What) (current : Option OpenSegment) → AllMet (rules_in text line what current) → size_of text (place_in current) what ≤ region_bytes
size-kept text line what None (entry, none) = omega (arith, entry-size text 0 what entry)
size-kept text line what (Some current) m = by (is_content what) refl
  where
    by : (b : Bool) → is_content what ≡ b → size_of text (here current) what ≤ region_bytes
    by true content = let (align, (full, (place, (large, none)))) = rw content at m in grind (arith, common_steps, large)
    by false other = omega (arith, no-content text (here current) what other)

-- Where a segment begins, zeros are added,
pub zeros-added : (bytes : List ℕ) (new : Option OpenSegment) (at : ℕ) → is_some new ≡ true → added bytes new at ≡ replicate (up_to at page_bytes - at) 0
zeros-added bytes None at is = absurd (cc)
zeros-added bytes (Some new) at is = refl

-- and where none begins, the rules are those of what stands in one.
pub rules-inside : (text : List ℕ) (count : ℕ) (item : Item) (new current : Option OpenSegment) → IsNone new → AllMet (rules_by text count item new current) → AllMet (rules_in text item.line item.what current)
rules-inside text count item None current is m = m
rules-inside text count item (Some new) current is m = absurd (cc)

-- a multiple that a number is rounded up to isn't below it
up-to-above : (at : ℕ) → at ≤ up_to at page_bytes
up-to-above at = omega arith

module _ (text : List ℕ) (offsets : Offsets) where
  -- Behind it stands what is behind the item.
  pub body-behind : (current : Option OpenSegment) (item : Item) (items : List Item) (out next all : List ℕ)
      → next ≡ out ++ added (item_bytes text offsets (place_in current) item.what) (begun_by item) (length out)
      → out ++ body_from text offsets current (length out) (item ∷ items) ≡ all → next ++ body_from text offsets (open_after text item current) (length next) items ≡ all
  body-behind current item items out next all adds are = by (begun_by item) adds are
    where
      by : (new : Option OpenSegment) → next ≡ out ++ added (item_bytes text offsets (place_in current) item.what) new (length out)
          → out ++ body_by (item_bytes text offsets (place_in current) item.what) new (length out)
          (body_from text offsets (open_by text item.what new current) (place_behind (item_bytes text offsets (place_in current) item.what) new (length out)) items) ≡ all
          → next ++ body_from text offsets (open_by text item.what new current) (length next) items ≡ all
      by (Some new) adds are =
          let at : ℕ = length out in
          let zeros : List ℕ = replicate (up_to at page_bytes - at) 0 in
          let long : length next ≡ up_to at page_bytes = omega (arith, ap length adds, length-append out zeros, length-zeros (up_to at page_bytes - at), up-to-above at) in
          ap (λ place. next ++ body_from text offsets (Some new) place items) long ∙ ap (λ list. list ++ body_from text offsets (Some new) (up_to at page_bytes) items) adds
          ∙ append_assoc out zeros (body_from text offsets (Some new) (up_to at page_bytes) items) ∙ are
      by None adds are =
          let bytes : List ℕ = item_bytes text offsets (place_in current) item.what in
          let after = open_by text item.what None current in
          let long : length next ≡ length out + length bytes = omega (arith, ap length adds, length-append out bytes) in
          ap (λ place. next ++ body_from text offsets after place items) long ∙ ap (λ list. list ++ body_from text offsets after (length out + length bytes) items) adds
          ∙ append_assoc out bytes (body_from text offsets after (length out + length bytes) items) ∙ are
