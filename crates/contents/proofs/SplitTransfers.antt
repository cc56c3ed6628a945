-- Transfers of some bytes and more, in two parts.
use Rattle.std.proofs.Common.{◌≡◌, ◌+◌, ℕ, zero, suc, refl, sym, arith, ◌&&◌, ◌||◌, List, [], ◌∷◌, ◌++◌, length, zero-add}
use Rattle.std.proofs.Math.Bool.{and_assoc, or_assoc}
use Rattle.machine_types.specs.declared.touches.Access.{Access}
use Rattle.machine_types.specs.Granules.{with_number}
use Rattle.contents.specs.Content.{Content, page_at, with_granules}
use Rattle.contents.specs.Accesses.{page_of_place, byte_of_place}
use Rattle.contents.specs.Transfers.{may_access, covers_of, tagged_in, overlaps_tag, read_bytes_of, write_bytes_of}

-- where the second part begins
first-place : (at : ℕ) → at + 0 ≡ at
first-place at = omega arith

next-place : (at count : ℕ) → at + suc count ≡ at + 1 + count
next-place at count = omega arith

-- one byte more
one-more : (count more : ℕ) → suc count + more ≡ suc (count + more)
one-more count more = omega arith

-- some bytes and more are covered where both parts are
pub covers-split : (c : Content) (region at count more : ℕ) (access : Access) → covers_of c region at (count + more) access ≡ (covers_of c region at count access && covers_of c region (at + count) more access)
unfolding covers_of
covers-split c region at zero more access = rw (zero-add more, first-place at) refl
covers-split c region at (suc count) more access = rw (one-more count more, next-place at count, covers-split c region (at + 1) count more access)
    (sym (and_assoc (may_access access (page_at c region (page_of_place at))) (covers_of c region (at + 1) count access) (covers_of c region (at + 1 + count) more access)))

-- they overlap a tag where a part does
pub overlaps-split : (c : Content) (region at count more : ℕ) → overlaps_tag c region at (count + more) ≡ (overlaps_tag c region at count || overlaps_tag c region (at + count) more)
unfolding overlaps_tag
overlaps-split c region at zero more = rw (zero-add more, first-place at) refl
overlaps-split c region at (suc count) more = rw (one-more count more, next-place at count, overlaps-split c region (at + 1) count more)
    (sym (or_assoc (tagged_in (page_at c region (page_of_place at)) at) (overlaps_tag c region (at + 1) count) (overlaps_tag c region (at + 1 + count) more)))

-- they are read one part after the other
pub read_bytes-split : (c : Content) (region at count more : ℕ) → read_bytes_of c region at (count + more) ≡ read_bytes_of c region at count ++ read_bytes_of c region (at + count) more
unfolding read_bytes_of
read_bytes-split c region at zero more = rw (zero-add more, first-place at) refl
read_bytes-split c region at (suc count) more = rw (one-more count more, next-place at count, read_bytes-split c region (at + 1) count more) refl

-- and so they are written
pub write_bytes-split : (c : Content) (region at : ℕ) (bytes more : List ℕ) → write_bytes_of c region at (bytes ++ more) ≡ write_bytes_of (write_bytes_of c region at bytes) region (at + length bytes) more
unfolding write_bytes_of
write_bytes-split c region at [] more = rw (first-place at) refl
write_bytes-split c region at (byte ∷ bytes) more =
    rw (next-place at (length bytes))
    (write_bytes-split (with_granules c region (page_of_place at) (λ granules. with_number granules (byte_of_place at) 1 byte)) region (at + 1) bytes more)
