-- What reads answer, by what is seen of the page that they come to.
use Rattle.std.proofs.Common.{◌≡◌, ◌∙◌, ℕ, zero, suc, ◌+◌, ◌<◌, ◌%◌, ap, sym, refl, arith, Option, Some, None, Result, Ok, Err, List, length, slice_index_or}
use Rattle.cap_format.specs.Numbers.{page_bytes, granule_bytes}
use Rattle.cap_format.specs.declared.cap.Cap.{Cap}
use Rattle.machine_types.specs.declared.touches.Access.{Access}
use Rattle.machine_types.specs.declared.touches.Access.TheVariants.{Read, Fetch}
use Rattle.machine_types.specs.declared.touches.Note.{Note}
use Rattle.machine_types.specs.Granules.{granule, number_at}
use Rattle.machine_types.specs.Stores.{Page}
use Rattle.contents.specs.declared.refusal.Refusal.{Refusal}
use Rattle.contents.specs.Content.{Content, page_at}
use Rattle.contents.specs.Accesses.{Reached, reach, load_from, page_of_place, byte_of_place, granule_of_place, read_of, read_cap_of, fetch_of}
use Rattle.contents.specs.Transfers.{byte_in, read_bytes_of}
use Rattle.contents.specs.Looks.{peek_of}
use Rattle.contents.specs.Reading.{seen, bytes_of, number_seen}
use Rattle.contents.specs.Writing.{byte_seen}
use Rattle.contents.proofs.NamedTouches.{reached}

-- a place has the same byte of its granule in its page
pub same-byte : (at : ℕ) → at % page_bytes % granule_bytes ≡ at % granule_bytes
same-byte at = omega arith

-- the page of a load, and what was answered of its granules
record WasLoaded {A : Type 0} (c : Content) (region at : ℕ) (value : List Cap → A) (answer : A) : Type 0 where
  pub page : Page
  pub there : page_at c region (page_of_place at) ≡ Some page
  pub answered : value page.granules ≡ answer

-- a load that is Ok comes to a page
loaded : {A : Type 0} (c : Content) (access : Access) (region at : ℕ) (value : List Cap → A) (answer : A × Note) → (load_from c region value (reach c access region at)).answer ≡ Ok answer
    → WasLoaded c region at value answer.0
loaded {A} c access region at value answer = by (reach c access region at) refl
  where
    by : (r : Result Reached Refusal) → reach c access region at ≡ r → (load_from c region value r).answer ≡ Ok answer → WasLoaded c region at value answer.0
    by (Err refusal) f h = absurd (cc)
    by (Ok e) f h = record { page = e.page; there = (reached c access region at e f).there; answered = cc }

-- the number at a place of a page is seen
pub number-there : (c : Content) (region at size : ℕ) (p : Page) → page_at c region (page_of_place at) ≡ Some p → number_seen c region at size ≡ Some (number_at p.granules (byte_of_place at) size)
unfolding peek_of
number-there c region at size p there = rw there (ap (λ (byte : ℕ). Some (bytes_of byte size (granule p.granules (granule_of_place at)))) (sym (same-byte at)))

-- a load of a number answers what is seen
number-loaded : (c : Content) (region at size value : ℕ) → WasLoaded c region at (λ granules. number_at granules (byte_of_place at) size) value → number_seen c region at size ≡ Some value
number-loaded c region at size value was = number-there c region at size was.page was.there ∙ ap (λ (n : ℕ). Some n) was.answered

pub read-seen : (c : Content) (region at size : ℕ) (answer : ℕ × Note) → (read_of c region at size).answer ≡ Ok answer → number_seen c region at size ≡ Some answer.0
unfolding read_of
read-seen c region at size answer h = number-loaded c region at size answer.0 (loaded c Read region at (λ granules. number_at granules (byte_of_place at) size) answer h)

pub fetch-seen : (c : Content) (region at : ℕ) (answer : ℕ × Note) → (fetch_of c region at).answer ≡ Ok answer → number_seen c region at 4 ≡ Some answer.0
unfolding fetch_of
fetch-seen c region at answer h = number-loaded c region at 4 answer.0 (loaded c Fetch region at (λ granules. number_at granules (byte_of_place at) 4) answer h)

pub read_cap-seen : (c : Content) (region at : ℕ) (answer : Cap × Note) → (read_cap_of c region at).answer ≡ Ok answer → seen c region at ≡ Some answer.0
unfolding read_cap_of peek_of
read_cap-seen c region at answer h =
    let was = loaded c Read region at (λ granules. granule granules (granule_of_place at)) answer h in
    rw was.there (ap (λ (cap : Cap). Some cap) was.answered)

-- Many bytes.

-- as many as were asked for
pub read_bytes-length : (c : Content) (region at n : ℕ) → length (read_bytes_of c region at n) ≡ n
unfolding read_bytes_of
read_bytes-length c region at zero = refl
read_bytes-length c region at (suc n) = ap suc (read_bytes-length c region (at + 1) n)

-- each is the byte at its place
pub read_bytes-each : (c : Content) (region at n k : ℕ) → k < n → slice_index_or (read_bytes_of c region at n) k 0 ≡ byte_seen c region (at + k)
unfolding read_bytes_of
read_bytes-each c region at zero k below = absurd (omega arith)
read_bytes-each c region at (suc n) zero below = let same : at ≡ at + 0 = omega arith in ap (byte_seen c region) same
read_bytes-each c region at (suc n) (suc k) below =
    let next : at + 1 + k ≡ at + suc k = omega arith in
    read_bytes-each c region (at + 1) n k (omega arith) ∙ ap (byte_seen c region) next

-- the byte at a place is that of the granule that is seen
byte-of-seen : (c : Content) (region at : ℕ) (cap : Cap) → seen c region at ≡ Some cap → byte_seen c region at ≡ bytes_of (at % granule_bytes) 1 cap
unfolding peek_of
byte-of-seen c region at cap = by (page_at c region (page_of_place at)) refl
  where
    by : (o : Option Page) → page_at c region (page_of_place at) ≡ o → seen c region at ≡ Some cap → byte_in o at ≡ bytes_of (at % granule_bytes) 1 cap
    by None e h = let none = rw e at h in absurd (cc)
    by (Some p) e h =
        let some = rw e at h in
        let same : granule p.granules (granule_of_place at) ≡ cap = cc in
        ap (λ (cap : Cap). bytes_of (byte_of_place at % granule_bytes) 1 cap) same ∙ ap (λ (byte : ℕ). bytes_of byte 1 cap) (same-byte at)

pub read_bytes-seen : (c : Content) (region at n k : ℕ) (cap : Cap) → k < n → seen c region (at + k) ≡ Some cap → slice_index_or (read_bytes_of c region at n) k 0 ≡ bytes_of ((at + k) % granule_bytes) 1 cap
read_bytes-seen c region at n k cap below h = read_bytes-each c region at n k below ∙ byte-of-seen c region (at + k) cap h

-- a read of one byte answers the byte at its place
pub read_bytes-one : (c : Content) (region at n k : ℕ) (answer : ℕ × Note) → k < n → (read_of c region (at + k) 1).answer ≡ Ok answer → slice_index_or (read_bytes_of c region at n) k 0 ≡ answer.0
unfolding read_of
read_bytes-one c region at n k answer below h =
    let was = loaded c Read region (at + k) (λ granules. number_at granules (byte_of_place (at + k)) 1) answer h in
    read_bytes-each c region at n k below ∙ ap (λ (o : Option Page). byte_in o (at + k)) was.there ∙ was.answered
