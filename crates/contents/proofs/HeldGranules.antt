-- Changes of granules that keep what a region may hold, and pages that are made of bytes.
use Rattle.std.proofs.Common.{◌≡◌, inl, inr, ℕ, ◌+◌, ◌*◌, ◌/◌, ◌%◌, ◌^◌, ◌<◌, ◌≤◌, false, List, slice_set, arith}
use Rattle.std.proofs.lemmas.List.{length-set}
use Rattle.std.proofs.lemmas.List.Elements.{All-set, All-weaker, All-from_get_or}
use Rattle.cap_format.specs.Numbers.{granule_bytes}
use Rattle.cap_format.specs.declared.cap.Cap.{Cap}
use Rattle.cap_format.specs.Made.{null}
use Rattle.machine_types.specs.Granules.{IsSize, granule, with_number, is_tagged}
use Rattle.machine_types.specs.Held.{MayHold, IsHeld, AreHeld}
use Rattle.machine_types.specs.MemoryLaws.{ArePatterns}
use Rattle.machine_types.specs.Stores.{page_of_bytes}
use Rattle.machine_types.proofs.NumberBits.{with_bits-fits}
use Rattle.machine_types.proofs.NumberBytes.{size-within}
use Rattle.machine_types.proofs.StoredNumbers.{granule-pattern, length-with_number}
use Rattle.machine_types.proofs.PagesMade.{length-page_of_bytes, is_tagged-page_of_bytes, ArePatterns-page_of_bytes}
use Rattle.contents.specs.Accesses.{byte_of_place}
use Rattle.contents.proofs.WholeStores.{IsPageOf, KeepsPage}

-- what may be held is a pattern
held-patterns : (region : ℕ) (granules : List Cap) → AreHeld region granules → ArePatterns granules
held-patterns region granules held = All-weaker (IsHeld region) (λ cap. cap.bits < 2 ^ 128) (λ cap is. is.pattern) granules held

-- patterns without a tag may be held
untagged-held : (region : ℕ) (granules : List Cap) → ArePatterns granules → ((g : ℕ) → is_tagged granules g ≡ false) → AreHeld region granules
untagged-held region granules patterns untagged =
    All-from_get_or (IsHeld region) granules null (λ g within. record { pattern = patterns g null within; inside = λ tagged. let none : (granule granules g).tag ≡ false = untagged g in absurd (cc) })

-- a number that lies in one granule
pub number-keeps : (region at size v : ℕ) → at % granule_bytes + size ≤ granule_bytes → KeepsPage region (λ granules. with_number granules at size v)
number-keeps region at size v within = record {
  long = λ granules. length-with_number granules at size v;
  held = λ granules held.
      All-set (IsHeld region) granules (at / granule_bytes) _ (record {
        pattern = with_bits-fits (granule granules (at / granule_bytes)).bits (8 * (at % granule_bytes)) (8 * size) v 128 (omega arith)
            (granule-pattern granules (at / granule_bytes) (held-patterns region granules held));
        inside = λ tagged. cc;
      }) held;
}

-- a granule that the region may hold
pub cap-keeps : (region g : ℕ) (cap : Cap) → cap.bits < 2 ^ 128 → MayHold region cap → KeepsPage region (λ granules. slice_set granules g cap)
cap-keeps region g cap pattern inside = record {
  long = λ granules. length-set granules g cap;
  held = λ granules held. All-set (IsHeld region) granules g cap (record { pattern = pattern; inside = inside }) held;
}

-- a multiple of a size is one in its page
pub page-aligned : (at size : ℕ) → IsSize size → at % size ≡ 0 → byte_of_place at % size ≡ 0
page-aligned at size (inl e) aligned = rw e (omega arith)
page-aligned at size (inr (inl e)) aligned = let even : at % 2 ≡ 0 = rw e at aligned in rw e (omega arith)
page-aligned at size (inr (inr (inl e))) aligned = let fourth : at % 4 ≡ 0 = rw e at aligned in rw e (omega arith)
page-aligned at size (inr (inr (inr e))) aligned = let eighth : at % 8 ≡ 0 = rw e at aligned in rw e (omega arith)

-- a number at a multiple of its size lies in one granule of its page
pub place-within : (at size : ℕ) → IsSize size → at % size ≡ 0 → byte_of_place at % granule_bytes + size ≤ granule_bytes
place-within at size is aligned = size-within (byte_of_place at) size is (page-aligned at size is aligned)

-- a page of bytes may be of each region
pub made-of : (region rights : ℕ) (bytes : List ℕ) → IsPageOf region (page_of_bytes rights bytes)
made-of region rights bytes = record {
  long = length-page_of_bytes rights bytes;
  held = untagged-held region (page_of_bytes rights bytes).granules (ArePatterns-page_of_bytes rights bytes) (is_tagged-page_of_bytes rights bytes);
}
