-- The segments of a listing are those that its `.segment` statements say.
use Rattle.std.proofs.Common.{◌≡◌, ◌∙◌, refl, ap, ℕ, Option, Some, None, List, [], ◌∷◌, ◌++◌, map}
use Rattle.std.specs.List.{flat_map}
use Rattle.asm_text.specs.declared.listing.What.{What}
use Rattle.asm_text.specs.declared.listing.What.TheVariants as what
use Rattle.asm_text.specs.declared.listing.Item.{Item}
use Rattle.asm_image.specs.declared.place.OpenSegment.{OpenSegment}
use Rattle.asm_image.specs.Program.{Segment}
use Rattle.asm_image.specs.Places.{begun, begun_by, open_by}
use Rattle.asm_image.specs.Labels.{Offsets, offsets_in}
use Rattle.asm_image.specs.Assembled.{ended_by, bytes_by, segments_from}
use Rattle.asm_image.specs.Laws.{said_segment, SegmentsAreSaid}

-- the place and the rights of each segment
abbrev heads : List Segment → List (ℕ × ℕ)
heads segments = map (λ segment. (segment.start, segment.rights)) segments

-- those of the segment that is open
abbrev head_of : Option OpenSegment → List (ℕ × ℕ)
head_of None = []
head_of (Some current) = (current.start, current.rights) ∷ []

-- what is begun is said
begun-said : (line : ℕ) (what : What) → head_of (begun line what) ≡ said_segment what
begun-said line (what.Segment at rights) = refl
begun-said line what = refl

module _ (text : List ℕ) (offsets : Offsets) where
  -- behind the open segment come those that the items say
  heads-said : (current : Option OpenSegment) (bytes : List ℕ) (items : List Item) → heads (segments_from text offsets current bytes items) ≡ head_of current ++ flat_map (λ item. said_segment item.what) items
  heads-said None bytes [] = refl
  heads-said (Some current) bytes [] = refl
  heads-said current bytes (item ∷ items) = by (begun_by item) current (λ current bytes. heads-said current bytes items) ∙ ap (λ said. head_of current ++ (said ++ flat_map (λ item. said_segment item.what) items)) (begun-said item.line item.what)
    where
      by : (new current : Option OpenSegment) → ((current : Option OpenSegment) (bytes : List ℕ) → heads (segments_from text offsets current bytes items) ≡ head_of current ++ flat_map (λ item. said_segment item.what) items)
          → heads (ended_by new current bytes ++ segments_from text offsets (open_by text item.what new current) (bytes_by text offsets item.what new current bytes) items)
          ≡ head_of current ++ (head_of new ++ flat_map (λ item. said_segment item.what) items)
      by (Some new) None rest = rest (Some new) []
      by (Some new) (Some current) rest = ap (λ said. (current.start, current.rights) ∷ said) (rest (Some new) [])
      by None None rest = rest None (bytes_by text offsets item.what None None bytes)
      by None (Some current) rest = rest (open_by text item.what None (Some current)) (bytes_by text offsets item.what None (Some current) bytes)

-- The segments of a listing are those that it says, in their order.
pub segments-are-said : SegmentsAreSaid
segments-are-said text items = heads-said text (offsets_in text items) None [] items
