-- Laws of writes: what is written is read back, and all else stays.
-- After the laws of a load behind a store in formal memory models.
use Rattle.std.specs.Prelude.{ℕ, ◌≡◌, ◌≢◌, ◌≤◌, ◌<◌, ◌+◌, ◌%◌, ◌^◌, ◌*◌, ◌⊎◌, true, false, Some, None, Ok, List, length}
use Rattle.cap_format.specs.declared.cap.Cap.{Cap}
use Rattle.machine_types.specs.declared.touches.Access.TheVariants.{Read, Write}
use Rattle.machine_types.specs.declared.touches.Note.{Note}
use Rattle.machine_types.specs.Granules.{IsSize}
use Rattle.machine_types.specs.Rights.{is_allowed}
use Rattle.machine_types.specs.MemoryLaws.{AreBytes}
use Rattle.contents.specs.Content.{Content, page_at}
use Rattle.contents.specs.Accesses.{untouched, page_of_place, granule_of_place, read_of, read_cap_of, write_of, write_cap_of}
use Rattle.contents.specs.Regions.{begin_of, add_page_of, seed_cap_of}
use Rattle.contents.specs.Transfers.{byte_in, read_bytes_of, write_bytes_of}
use Rattle.contents.specs.Looks.{peek_of, rights_of}
use Rattle.contents.specs.Conditions.{IsOwn, Covers}
use Rattle.contents.specs.Reading.{seen, tag_seen, number_seen}
use Rattle.contents.specs.Whole.{IsWhole}

-- the page at a place is there and may be read
pub record IsReadable (c : Content) (region at : ℕ) : Type 0 where
  pub rights : ℕ
  pub there : rights_of c region (page_of_place at) ≡ Some rights
  pub allowed : is_allowed Read rights ≡ true

-- What was written is read back, where the page may be read; and the read touches nothing.
pub record WritesAreRead : Type 0 where
  pub number : (c : Content) (region at size v : ℕ) (note : Note) → IsWhole c → IsSize size → at % size ≡ 0 → IsReadable c region at → (write_of c region at size v).answer ≡ Ok note
      → (read_of (write_of c region at size v).after region at size).answer ≡ Ok (v % 2 ^ (8 * size), untouched)
  pub tag : (c : Content) (region at size v : ℕ) (note : Note) → (write_of c region at size v).answer ≡ Ok note → tag_seen (write_of c region at size v).after region at ≡ Some false
  pub cap_seen : (c : Content) (region at : ℕ) (cap : Cap) (note : Note) → IsWhole c → (write_cap_of c region at cap).answer ≡ Ok note → seen (write_cap_of c region at cap).after region at ≡ Some cap
  pub cap : (c : Content) (region at : ℕ) (cap : Cap) (note : Note) → IsWhole c → IsReadable c region at → (write_cap_of c region at cap).answer ≡ Ok note
      → (read_cap_of (write_cap_of c region at cap).after region at).answer ≡ Ok (cap, untouched)
  pub seed_seen : (c : Content) (region at : ℕ) (cap : Cap) → IsWhole c → IsOwn region (page_of_place at) c → seen (seed_cap_of c region at cap) region at ≡ Some cap
  pub seed : (c : Content) (region at : ℕ) (cap : Cap) → IsWhole c → IsOwn region (page_of_place at) c → IsReadable c region at
      → (read_cap_of (seed_cap_of c region at cap) region at).answer ≡ Ok (cap, untouched)
  pub bytes : (c : Content) (region at : ℕ) (bytes : List ℕ) → IsWhole c → AreBytes bytes → Covers region at (length bytes) Write c
      → read_bytes_of (write_bytes_of c region at bytes) region at (length bytes) ≡ bytes
  pub tags : (c : Content) (region at : ℕ) (bytes : List ℕ) (k : ℕ) → Covers region at (length bytes) Write c → k < length bytes
      → tag_seen (write_bytes_of c region at bytes) region (at + k) ≡ Some false

-- it is another page, or another granule of it
abbrev pub IsOtherGranule : ℕ → ℕ → ℕ → Type 0
IsOtherGranule at page g = (page ≢ page_of_place at) ⊎ (g ≢ granule_of_place at)

-- the byte at a place of a region, and 0 where there is no page
abbrev pub byte_seen : Content → ℕ → ℕ → ℕ
byte_seen c region at = byte_in (page_at c region (page_of_place at)) at

-- A call leaves all that it doesn't name, in its own region too: the rights of every page, every granule but those that
-- it stores to, and every byte but those that it stores.
pub record AllElseStays : Type 0 where
  pub write_rights : (c : Content) (region at size v page : ℕ) → rights_of (write_of c region at size v).after region page ≡ rights_of c region page
  pub write_granules : (c : Content) (region at size v page g : ℕ) → IsOtherGranule at page g → peek_of (write_of c region at size v).after region page g ≡ peek_of c region page g
  pub write_bytes : (c : Content) (region at size v k : ℕ) → IsSize size → at % size ≡ 0 → (k < at) ⊎ (at + size ≤ k) → byte_seen (write_of c region at size v).after region k ≡ byte_seen c region k
  pub cap_rights : (c : Content) (region at page : ℕ) (cap : Cap) → rights_of (write_cap_of c region at cap).after region page ≡ rights_of c region page
  pub cap_granules : (c : Content) (region at page g : ℕ) (cap : Cap) → IsOtherGranule at page g → peek_of (write_cap_of c region at cap).after region page g ≡ peek_of c region page g
  pub seed_rights : (c : Content) (region at page : ℕ) (cap : Cap) → rights_of (seed_cap_of c region at cap) region page ≡ rights_of c region page
  pub seed_granules : (c : Content) (region at page g : ℕ) (cap : Cap) → IsOtherGranule at page g → peek_of (seed_cap_of c region at cap) region page g ≡ peek_of c region page g
  pub bytes_rights : (c : Content) (region at page : ℕ) (bytes : List ℕ) → rights_of (write_bytes_of c region at bytes) region page ≡ rights_of c region page
  pub bytes_granules : (c : Content) (region at page g : ℕ) (bytes : List ℕ) → ((k : ℕ) → k < length bytes → IsOtherGranule (at + k) page g)
      → peek_of (write_bytes_of c region at bytes) region page g ≡ peek_of c region page g
  pub bytes_bytes : (c : Content) (region at k : ℕ) (bytes : List ℕ) → (k < at) ⊎ (at + length bytes ≤ k) → byte_seen (write_bytes_of c region at bytes) region k ≡ byte_seen c region k
  pub added : (c : Content) (region page rights : ℕ) (bytes : List ℕ) (other : ℕ) → other ≢ page → page_at (add_page_of c region page rights bytes).after region other ≡ page_at c region other
  pub begun : (c : Content) (region page : ℕ) → page_at (begin_of c region) region page ≡ None

-- A write stores its number, also in a page that may not be read.
abbrev pub WrittenNumbersAreSeen : Type 0
WrittenNumbersAreSeen = (c : Content) (region at size v : ℕ) (note : Note) → IsWhole c → IsSize size → at % size ≡ 0 → (write_of c region at size v).answer ≡ Ok note
    → number_seen (write_of c region at size v).after region at size ≡ Some (v % 2 ^ (8 * size))
