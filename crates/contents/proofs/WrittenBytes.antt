-- What is read where many bytes were written.
use Rattle.std.proofs.Common.{◌≡◌, ◌∙◌, inl, ℕ, zero, suc, ◌+◌, ◌%◌, ◌<◌, ap, sym, refl, arith, Bool, true, false, Option, Some, None, List, [], ◌∷◌, length}
use Rattle.std.specs.Option.{option_map}
use Rattle.std.proofs.lemmas.List.Elements.{All-head, All-tail}
use Rattle.cap_format.specs.Numbers.{page_granules}
use Rattle.cap_format.specs.declared.cap.Cap.{Cap}
use Rattle.machine_types.specs.declared.touches.Access.TheVariants.{Write}
use Rattle.machine_types.specs.Granules.{granule, with_number}
use Rattle.machine_types.specs.MemoryLaws.{AreBytes}
use Rattle.machine_types.specs.Stores.{Page}
use Rattle.machine_types.proofs.StoredNumbers.{number_at-with_number_same, is_tagged-with_number_same, is_tagged-with_number_still}
use Rattle.contents.specs.Content.{Content, page_at, with_granules}
use Rattle.contents.specs.Accesses.{page_of_place, byte_of_place, granule_of_place}
use Rattle.contents.specs.Transfers.{may_access, byte_in, read_bytes_of, write_bytes_of}
use Rattle.contents.specs.Looks.{peek_of}
use Rattle.contents.specs.Conditions.{Covers}
use Rattle.contents.specs.Whole.{IsWhole}
use Rattle.contents.specs.Reading.{tag_seen}
use Rattle.contents.specs.Writing.{byte_seen}
use Rattle.contents.proofs.Covered.{at-first, after-first}
use Rattle.contents.proofs.NamedTouches.{granules-there}
use Rattle.contents.proofs.WholeStores.{store-of}
use Rattle.contents.proofs.HeldGranules.{number-keeps}
use Rattle.contents.proofs.WholeCalls.{granules-whole}
use Rattle.contents.proofs.ChangedGranules.{by-granules}
use Rattle.contents.proofs.StayedElse.{bytes-bytes}
use Rattle.contents.proofs.WrittenPlaces.{page-place}

-- a content with one byte stored
abbrev with_byte : Content → ℕ → ℕ → ℕ → Content
with_byte c region at byte = with_granules c region (page_of_place at) (λ granules. with_number granules (byte_of_place at) 1 byte)

-- it is whole
byte-whole : (c : Content) (region at byte : ℕ) → IsWhole c → IsWhole (with_byte c region at byte)
byte-whole c region at byte = granules-whole c region (page_of_place at) (λ granules. with_number granules (byte_of_place at) 1 byte) (number-keeps region (byte_of_place at) 1 byte (omega arith))

-- the page at a place may be accessed
abbrev MayAccess : Content → ℕ → ℕ → Type 0
MayAccess c region at = may_access Write (page_at c region (page_of_place at)) ≡ true

-- so it may with one byte stored
may-still : (c : Content) (region at byte k : ℕ) → MayAccess c region k → MayAccess (with_byte c region at byte) region k
may-still c region at byte k =
    by-granules (λ before after. may_access Write before ≡ true → may_access Write after ≡ true) c region (page_of_place at) (λ granules. with_number granules (byte_of_place at) 1 byte) (page_of_place k)
    (λ o h. h) (λ here p h. h)

-- a page that may be accessed is there
page-there : (c : Content) (region at : ℕ) → MayAccess c region at → (p : Page) × (page_at c region (page_of_place at) ≡ Some p)
page-there c region at = by (page_at c region (page_of_place at)) refl
  where
    by : (o : Option Page) → page_at c region (page_of_place at) ≡ o → may_access Write o ≡ true → (p : Page) × (page_at c region (page_of_place at) ≡ Some p)
    by None e h = absurd (cc)
    by (Some p) e h = (p, e)

-- the byte is read back
byte-back : (c : Content) (region at byte : ℕ) → IsWhole c → byte < 256 → MayAccess c region at → byte_seen (with_byte c region at byte) region at ≡ byte
byte-back c region at byte whole fits may =
    let page = page-there c region at may in
    let long : length page.0.granules ≡ page_granules = ((store-of c region whole).pages (page_of_place at) page.0 page.1).long in
    let same : byte % 256 ≡ byte = omega (arith, fits) in
    ap (λ (o : Option Page). byte_in o at) (granules-there c region (page_of_place at) (λ granules. with_number granules (byte_of_place at) 1 byte) page.0 page.1)
    ∙ number_at-with_number_same page.0.granules (byte_of_place at) 1 byte (page-place at 1 page.0.granules long (inl refl) (omega arith)) ∙ same

pub bytes-read : (c : Content) (region at : ℕ) (bytes : List ℕ) → IsWhole c → AreBytes bytes → Covers region at (length bytes) Write c → read_bytes_of (write_bytes_of c region at bytes) region at (length bytes) ≡ bytes
unfolding write_bytes_of read_bytes_of
bytes-read c region at [] whole are covered = refl
bytes-read c region at (byte ∷ bytes) whole are covered =
    ap (λ (x : ℕ). x ∷ read_bytes_of (write_bytes_of (with_byte c region at byte) region (at + 1) bytes) region (at + 1) (length bytes)) first
    ∙ ap (λ (xs : List ℕ). byte ∷ xs) (bytes-read (with_byte c region at byte) region (at + 1) bytes (byte-whole c region at byte whole) (All-tail (λ byte. byte < 256) byte bytes are)
    (λ k below. may-still c region at byte (at + 1 + k) (after-first (MayAccess c region) at (length bytes) covered k below)))
  where
    first : byte_seen (write_bytes_of (with_byte c region at byte) region (at + 1) bytes) region at ≡ byte
    first =
        bytes-bytes (with_byte c region at byte) region (at + 1) at bytes (inl (omega arith))
        ∙ byte-back c region at byte whole (All-head (λ byte. byte < 256) byte bytes are) (at-first (MayAccess c region) at (length bytes) covered)

-- the granule of a byte that was stored has no tag
byte-untagged : (c : Content) (region at byte : ℕ) → MayAccess c region at → tag_seen (with_byte c region at byte) region at ≡ Some false
unfolding peek_of
byte-untagged c region at byte may =
    let page = page-there c region at may in
    rw (granules-there c region (page_of_place at) (λ granules. with_number granules (byte_of_place at) 1 byte) page.0 page.1)
    (ap (λ (b : Bool). Some b) (is_tagged-with_number_same page.0.granules (byte_of_place at) 1 byte))

-- the tag of a granule of a page
abbrev tag_of : ℕ → Option Page → Option Bool
tag_of g o = option_map (λ (cap : Cap). cap.tag) (option_map (λ (p : Page). granule p.granules g) o)

-- no granule gets a tag
byte-untagged_still : (c : Content) (region at byte k : ℕ) → tag_seen c region k ≡ Some false → tag_seen (with_byte c region at byte) region k ≡ Some false
unfolding peek_of
byte-untagged_still c region at byte k =
    by-granules (λ before after. tag_of (granule_of_place k) before ≡ Some false → tag_of (granule_of_place k) after ≡ Some false) c region (page_of_place at) (λ granules. with_number granules (byte_of_place at) 1 byte) (page_of_place k) (λ o h. h)
    (λ here p h. ap (λ (b : Bool). Some b) (is_tagged-with_number_still p.granules (byte_of_place at) 1 byte (granule_of_place k) (cc)))

bytes-untagged_still : (c : Content) (region at k : ℕ) (bytes : List ℕ) → tag_seen c region k ≡ Some false → tag_seen (write_bytes_of c region at bytes) region k ≡ Some false
unfolding write_bytes_of
bytes-untagged_still c region at k [] h = h
bytes-untagged_still c region at k (byte ∷ bytes) h = bytes-untagged_still (with_byte c region at byte) region (at + 1) k bytes (byte-untagged_still c region at byte k h)

pub bytes-untagged : (c : Content) (region at : ℕ) (bytes : List ℕ) (k : ℕ) → Covers region at (length bytes) Write c → k < length bytes → tag_seen (write_bytes_of c region at bytes) region (at + k) ≡ Some false
unfolding write_bytes_of
bytes-untagged c region at [] k covered below = absurd (omega arith)
bytes-untagged c region at (byte ∷ bytes) zero covered below =
    let same : at ≡ at + 0 = omega arith in
    ap (tag_seen (write_bytes_of (with_byte c region at byte) region (at + 1) bytes) region) (sym same)
    ∙ bytes-untagged_still (with_byte c region at byte) region (at + 1) at bytes (byte-untagged c region at byte (at-first (MayAccess c region) at (length bytes) covered))
bytes-untagged c region at (byte ∷ bytes) (suc k) covered below =
    let next : at + suc k ≡ at + 1 + k = omega arith in
    ap (tag_seen (write_bytes_of (with_byte c region at byte) region (at + 1) bytes) region) next
    ∙ bytes-untagged (with_byte c region at byte) region (at + 1) bytes k (λ i within. may-still c region at byte (at + 1 + i) (after-first (MayAccess c region) at (length bytes) covered i within)) (omega arith)
