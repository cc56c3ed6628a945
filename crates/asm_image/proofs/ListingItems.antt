-- What holds of the item of a listing at an index.
use Rattle.std.proofs.Common.{◌≡◌, ℕ, ◌^◌, ◌<◌, Option, Some, None, IfSome, List, arith}
use Rattle.std.specs.Prelude.{slice_get}
use Rattle.std.specs.List.{All}
use Rattle.std.proofs.lemmas.Option.{slice_get_within, get_or_from_slice_get}
use Rattle.asm_text.specs.declared.listing.Item.{Item}
use Rattle.asm_text.specs.Ranges.{HasRanges}
use Rattle.asm_image.specs.declared.place.OpenSegment.{OpenSegment}
use Rattle.asm_image.specs.Places.{here}
use Rattle.asm_image.specs.Layout.{IsBounded}

-- The numbers of an item are in their ranges, where those of all items are.
pub ranges-at : (items : List Item) (at : ℕ) (item : Item) → All (λ item. HasRanges item.what) items → slice_get items at ≡ Some item → HasRanges item.what
ranges-at items at item ranges is = rw (get_or_from_slice_get items at item item is) at (ranges at item (slice_get_within items at item is))

-- An item stands at a number of 127 bits, since its index is below 2^63.
pub small-at : (at : ℕ) (current : Option OpenSegment) → at < 2 ^ 63 → IsBounded at current → IfSome current (λ segment. here segment < 2 ^ 127)
small-at at None below bounded = tt
small-at at (Some current) below bounded = omega arith
