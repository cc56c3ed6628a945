-- The segments of a listing are those that the code keeps, each at its end.
use Rattle.std.proofs.Common.{◌≡◌, refl, ℕ, Option, Some, None, List, [], ◌∷◌, ◌++◌, length, ap, arith}
use Rattle.std.proofs.lemmas.List.Elements.{All-head, All-tail}
use Rattle.asm_text.specs.declared.listing.Item.{Item}
use Rattle.asm_text.specs.Ranges.{HasRanges}
use Rattle.asm_image.specs.declared.place.OpenSegment.{OpenSegment}
use Rattle.asm_image.specs.Program.{Segment, segment_header, segment_headers, after, after_all}
use Rattle.asm_image.specs.Places.{begun_by, open_by, open_after}
use Rattle.asm_image.specs.Labels.{Offsets}
use Rattle.asm_image.specs.Assembled.{ended, ended_by, bytes_by, segments_from}
use Rattle.asm_image.specs.Layout.{closed, closed_by, closed_from, closed_header, closed_headers, closed_after, closed_after_all}
use Rattle.asm_image.proofs.OpenSegments.{IsNewOrNone, HasSize, begun-new, size-next}
use Rattle.asm_image.proofs.SegmentsInOrder.{AllInRange}

-- a segment is the one at its end
pub record IsAtEnd (segment : Segment) (end : OpenSegment) : Type 0 where
  pub start : segment.start ≡ end.start
  pub rights : segment.rights ≡ end.rights
  pub size : length segment.bytes ≡ end.size
  pub bss : segment.bss ≡ end.bss

abbrev pub AreAtEnds : List Segment → List OpenSegment → Type 0
AreAtEnds [] [] = Unit {0}
AreAtEnds [] (end ∷ ends) = ⊥
AreAtEnds (segment ∷ segments) [] = ⊥
AreAtEnds (segment ∷ segments) (end ∷ ends) = IsAtEnd segment end × AreAtEnds segments ends

-- the open segment ends before others
ends-before : (current : Option OpenSegment) (bytes : List ℕ) (segments : List Segment) (ends : List OpenSegment) → HasSize current bytes → AreAtEnds segments ends
    → AreAtEnds (ended current bytes ++ segments) (closed current ++ ends)
ends-before None bytes segments ends size are = are
ends-before (Some current) bytes segments ends size are = (record { start = refl; rights = refl; size = size; bss = refl }, are)

module _ (text : List ℕ) (offsets : Offsets) where
  -- Each segment of a listing is kept at its end.
  pub at-ends : (current : Option OpenSegment) (bytes : List ℕ) (items : List Item) → AllInRange items → HasSize current bytes
      → AreAtEnds (segments_from text offsets current bytes items) (closed_from text current items)
  at-ends None bytes [] ranges size = tt
  at-ends (Some current) bytes [] ranges size = (record { start = refl; rights = refl; size = size; bss = refl }, tt)
  at-ends current bytes (item ∷ items) ranges size =
      let new = begun_by item in
      let begins : IsNewOrNone new = begun-new item.line item.what (All-head (λ item. HasRanges item.what) item items ranges) in
      by new (at-ends (open_after text item current) (bytes_by text offsets item.what new current bytes) items (All-tail (λ item. HasRanges item.what) item items ranges)
      (size-next text offsets item.what new current bytes begins size))
    where
      by : (new : Option OpenSegment)
          → AreAtEnds (segments_from text offsets (open_by text item.what new current) (bytes_by text offsets item.what new current bytes) items) (closed_from text (open_by text item.what new current) items)
          → AreAtEnds (ended_by new current bytes ++ segments_from text offsets (open_by text item.what new current) (bytes_by text offsets item.what new current bytes) items)
          (closed_by new current ++ closed_from text (open_by text item.what new current) items)
      by None rest = rest
      by (Some new) rest = ends-before current bytes (segments_from text offsets (Some new) [] items) (closed_from text (Some new) items) size rest

-- its header is made of that
header-same : (at : ℕ) (segment : Segment) (end : OpenSegment) → IsAtEnd segment end → segment_header at segment ≡ closed_header at end
header-same at segment end is = rw (is.start, is.rights, is.size, is.bss) refl

after-same : (at : ℕ) (segment : Segment) (end : OpenSegment) → IsAtEnd segment end → after at segment ≡ closed_after at end
after-same at segment end is = rw is.size refl

-- The headers of segments are those of the kept ones.
pub headers-same : (at : ℕ) (segments : List Segment) (ends : List OpenSegment) → AreAtEnds segments ends → segment_headers at segments ≡ closed_headers at ends
headers-same at [] [] are = refl
headers-same at [] (end ∷ ends) are = absurd are
headers-same at (segment ∷ segments) [] are = absurd are
headers-same at (segment ∷ segments) (end ∷ ends) (is, are) =
    rw (header-same at segment end is, after-same at segment end is) (ap (λ headers. closed_header at end ∷ headers) (headers-same (closed_after at end) segments ends are))

-- So is the place behind them in the file.
pub ends-same : (at : ℕ) (segments : List Segment) (ends : List OpenSegment) → AreAtEnds segments ends → after_all at segments ≡ closed_after_all at ends
ends-same at [] [] are = refl
ends-same at [] (end ∷ ends) are = absurd are
ends-same at (segment ∷ segments) [] are = absurd are
ends-same at (segment ∷ segments) (end ∷ ends) (is, are) = rw (after-same at segment end is) (ends-same (closed_after at end) segments ends are)

-- And there are as many.
pub count-same : (segments : List Segment) (ends : List OpenSegment) → AreAtEnds segments ends → length segments ≡ length ends
count-same [] [] are = refl
count-same [] (end ∷ ends) are = absurd are
count-same (segment ∷ segments) [] are = absurd are
count-same (segment ∷ segments) (end ∷ ends) (is, are) = omega (arith, count-same segments ends are)
