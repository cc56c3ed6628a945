-- Transfers of bytes that lie on one page.
use Rattle.std.proofs.Common.{◌≡◌, ◌≤◌, ◌<◌, ◌+◌, ◌-◌, ◌*◌, ◌/◌, ◌%◌, ◌⊎◌, inl, inr, ◌↔◌, ℕ, zero, suc, refl, sym, ◌∙◌, ap, arith, true, false, Some, List, [], ◌∷◌, length}
use Rattle.std.proofs.Math.Bool.{and-true, and_self}
use Rattle.std.proofs.lemmas.Bool.{cases_Bool}
use Rattle.machine_types.specs.declared.touches.Access.{Access}
use Rattle.machine_types.specs.Granules.{with_number, is_tagged, bytes_at, with_bytes}
use Rattle.machine_types.specs.Stores.{Page}
use Rattle.contents.specs.Content.{Content, page_at, with_granules}
use Rattle.contents.specs.Accesses.{page_of_place, byte_of_place}
use Rattle.contents.specs.Transfers.{may_access, covers_of, tagged_in, overlaps_tag, read_bytes_of, write_bytes_of}
use Rattle.contents.specs.Splitting.{StayOnPage, LieOn, HaveTagUnder}
use Rattle.contents.proofs.GranuleChanges.{with_granules-same, with_granules-twice}
use Rattle.contents.proofs.Prepared.{none-tagged, on-page}
use Rattle.contents.proofs.PreparedNotes.{some-tagged}

-- a place is its page and a byte of that page
place-parts : (at : ℕ) → at ≡ at / 4096 * 4096 + at % 4096
place-parts at = omega arith

-- its page
place-page : (at page byte : ℕ) → at ≡ page * 4096 + byte → byte < 4096 → at / 4096 ≡ page
place-page at page byte e room = omega arith

-- and its byte
place-byte : (at page byte : ℕ) → at ≡ page * 4096 + byte → byte < 4096 → at % 4096 ≡ byte
place-byte at page byte e room = omega arith

-- each byte of a page is covered where the page is
covers-from : (c : Content) (region : ℕ) (access : Access) (page at byte n : ℕ) → at ≡ page * 4096 + byte → byte + n ≤ 4096 → 1 ≤ n → covers_of c region at n access ≡ may_access access (page_at c region page)
unfolding covers_of
covers-from c region access page at byte zero e room some = absurd (omega arith)
covers-from c region access page at byte (suc zero) e room some = rw (place-page at page byte e (omega arith)) (and-true (may_access access (page_at c region page)))
covers-from c region access page at byte (suc (suc n)) e room some =
    rw (place-page at page byte e (omega arith), covers-from c region access page (at + 1) (byte + 1) (suc n) (omega arith) (omega arith) (omega arith))
    (and_self (may_access access (page_at c region page)))

-- so are some bytes of it
pub covers-page : (c : Content) (region at n : ℕ) (access : Access) → 1 ≤ n → StayOnPage at n → covers_of c region at n access ≡ may_access access (page_at c region (page_of_place at))
covers-page c region at n access some stay = covers-from c region access (at / 4096) at (at % 4096) n (place-parts at) stay some

-- the bytes that are read from a byte of a page on are the page's
read_bytes-from : (p : Page) (c : Content) (region page : ℕ) → page_at c region page ≡ Some p → (at byte n : ℕ) → at ≡ page * 4096 + byte → byte + n ≤ 4096 → read_bytes_of c region at n ≡ bytes_at p.granules byte n
unfolding read_bytes_of
read_bytes-from p c region page there at byte zero e room = refl
read_bytes-from p c region page there at byte (suc n) e room =
    rw (place-page at page byte e (omega arith), there, place-byte at page byte e (omega arith), read_bytes-from p c region page there (at + 1) (byte + 1) n (omega arith) (omega arith)) refl

-- so are those from a place on
pub read_bytes-page : (c : Content) (region at n : ℕ) (p : Page) → LieOn c region at n p → read_bytes_of c region at n ≡ bytes_at p.granules (byte_of_place at) n
read_bytes-page c region at n p lie = read_bytes-from p c region (at / 4096) lie.there at (at % 4096) n (place-parts at) lie.stay

-- the tag at a byte of the page is that of its granule
tagged-page : (c : Content) (region at n : ℕ) (p : Page) → LieOn c region at n p → (k : ℕ) → k < n → tagged_in (page_at c region (page_of_place (at + k))) (at + k) ≡ is_tagged p.granules ((at % 4096 + k) / 16)
tagged-page c region at n p lie k less =
    let stay = lie.stay in
    let byte : (at + k) % 4096 ≡ at % 4096 + k = omega arith in
    rw (on-page at n k (omega arith) less, lie.there, byte) refl

-- bytes of a page overlap a tag where one of its granules under them has one
pub overlaps-page : (c : Content) (region at n : ℕ) (p : Page) → 1 ≤ n → LieOn c region at n p → (overlaps_tag c region at n ≡ true) ↔ HaveTagUnder p.granules (byte_of_place at) n
overlaps-page c region at n p some lie = (holds, λ tag. overlaps tag (cases_Bool (overlaps_tag c region at n)))
  where
    holds : overlaps_tag c region at n ≡ true → HaveTagUnder p.granules (at % 4096) n
    holds h =
        let tagged = some-tagged c region at n h in
        let less : tagged.0 < n = tagged.1 in
        record { g = (at % 4096 + tagged.0) / 16; least = omega arith; below = omega arith; tagged = sym (tagged-page c region at n p lie tagged.0 less) ∙ tagged.2 }

    overlaps : HaveTagUnder p.granules (at % 4096) n → (overlaps_tag c region at n ≡ true) ⊎ (overlaps_tag c region at n ≡ false) → overlaps_tag c region at n ≡ true
    overlaps tag (inl h) = h
    overlaps tag (inr h) =
        let k : ℕ = tag.g * 16 - at % 4096 in
        let least : at % 4096 / 16 ≤ tag.g = tag.least in
        let below : tag.g * 16 < at % 4096 + n = tag.below in
        let less : k < n = omega arith in
        let same : (at % 4096 + k) / 16 ≡ tag.g = omega arith in
        let clear : is_tagged p.granules tag.g ≡ false = ap (is_tagged p.granules) (sym same) ∙ sym (tagged-page c region at n p lie k less) ∙ none-tagged c region at n h k less in
        let set : is_tagged p.granules tag.g ≡ true = tag.tagged in
        absurd (cc)

-- bytes that are written from a byte of a page on change the page
write_bytes-from : (region page : ℕ) (c : Content) (at byte : ℕ) (bytes : List ℕ) → at ≡ page * 4096 + byte → byte + length bytes ≤ 4096
    → write_bytes_of c region at bytes ≡ with_granules c region page (λ granules. with_bytes granules byte bytes)
unfolding write_bytes_of
write_bytes-from region page c at byte [] e room = sym (with_granules-same c region page)
write_bytes-from region page c at byte (first ∷ rest) e room =
    ap (λ q. write_bytes_of (stored q (at % 4096)) region (at + 1) rest) (place-page at page byte e (omega arith))
    ∙ ap (λ k. write_bytes_of (stored page k) region (at + 1) rest) (place-byte at page byte e (omega arith))
    ∙ write_bytes-from region page (stored page byte) (at + 1) (byte + 1) rest (omega arith) (omega arith)
    ∙ with_granules-twice c region page (λ granules. with_number granules byte 1 first) (λ granules. with_bytes granules (byte + 1) rest)
  where
    stored : ℕ → ℕ → Content
    stored q k = with_granules c region q (λ granules. with_number granules k 1 first)

-- so do those from a place on
pub write_bytes-page : (c : Content) (region at : ℕ) (bytes : List ℕ) → StayOnPage at (length bytes) → write_bytes_of c region at bytes ≡ with_granules c region (page_of_place at) (λ granules. with_bytes granules (byte_of_place at) bytes)
write_bytes-page c region at bytes stay = write_bytes-from region (at / 4096) c at (at % 4096) bytes (place-parts at) stay
