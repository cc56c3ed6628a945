-- Laws of transfers: they split at any byte, and bytes of one page are the page's. So bytes may be moved page by page.
use Rattle.std.specs.Prelude.{ℕ, ◌≡◌, ◌≤◌, ◌<◌, ◌+◌, ◌*◌, ◌/◌, ◌↔◌, ◌&&◌, ◌||◌, true, Some, List, ◌++◌, length}
use Rattle.cap_format.specs.Numbers.{page_bytes, granule_bytes}
use Rattle.cap_format.specs.declared.cap.Cap.{Cap}
use Rattle.machine_types.specs.declared.touches.Access.{Access}
use Rattle.machine_types.specs.Granules.{is_tagged, bytes_at, with_bytes}
use Rattle.machine_types.specs.Stores.{Page}
use Rattle.contents.specs.Content.{Content, page_at, with_granules}
use Rattle.contents.specs.Accesses.{page_of_place, byte_of_place}
use Rattle.contents.specs.Transfers.{may_access, covers_of, overlaps_tag, read_bytes_of, write_bytes_of}

-- What a transfer does to some bytes and more is what it does to the first ones, and then to those after them.
pub record TransfersSplit : Type 0 where
  pub covers : (c : Content) (region at count more : ℕ) (access : Access) → covers_of c region at (count + more) access ≡ (covers_of c region at count access && covers_of c region (at + count) more access)
  pub overlaps : (c : Content) (region at count more : ℕ) → overlaps_tag c region at (count + more) ≡ (overlaps_tag c region at count || overlaps_tag c region (at + count) more)
  pub read_bytes : (c : Content) (region at count more : ℕ) → read_bytes_of c region at (count + more) ≡ read_bytes_of c region at count ++ read_bytes_of c region (at + count) more
  pub write_bytes : (c : Content) (region at : ℕ) (bytes more : List ℕ) → write_bytes_of c region at (bytes ++ more) ≡ write_bytes_of (write_bytes_of c region at bytes) region (at + length bytes) more

-- so many bytes from a place on end with the page of the place or before
abbrev pub StayOnPage : ℕ → ℕ → Type 0
StayOnPage at n = byte_of_place at + n ≤ page_bytes

-- and that page is there, as this one
pub record LieOn (c : Content) (region at n : ℕ) (p : Page) : Type 0 where
  pub stay : StayOnPage at n
  pub there : page_at c region (page_of_place at) ≡ Some p

-- of the granules that so many bytes from this one on overlap, one is tagged
pub record HaveTagUnder (granules : List Cap) (byte n : ℕ) : Type 0 where
  pub g : ℕ
  pub least : byte / granule_bytes ≤ g
  pub below : g * granule_bytes < byte + n
  pub tagged : is_tagged granules g ≡ true

-- Bytes of one page are covered where the page is there with the right. They are the bytes of the page, which overlap a
-- tag where one of its granules under them has one, and to write them changes that page's granules alone.
pub record TransfersOnOnePage : Type 0 where
  pub covers : (c : Content) (region at n : ℕ) (access : Access) → 1 ≤ n → StayOnPage at n → covers_of c region at n access ≡ may_access access (page_at c region (page_of_place at))
  pub overlaps : (c : Content) (region at n : ℕ) (p : Page) → 1 ≤ n → LieOn c region at n p → (overlaps_tag c region at n ≡ true) ↔ HaveTagUnder p.granules (byte_of_place at) n
  pub read_bytes : (c : Content) (region at n : ℕ) (p : Page) → LieOn c region at n p → read_bytes_of c region at n ≡ bytes_at p.granules (byte_of_place at) n
  pub write_bytes : (c : Content) (region at : ℕ) (bytes : List ℕ) → StayOnPage at (length bytes)
      → write_bytes_of c region at bytes ≡ with_granules c region (page_of_place at) (λ granules. with_bytes granules (byte_of_place at) bytes)
