-- Laws of memory: what is stored is read back, and all else stays.
-- After tagged memory of the CHERI ISA v9 and the byte order of the RISC-V unprivileged ISA.
use Rattle.std.specs.Prelude.{ℕ, ◌≡◌, ◌≢◌, ◌≤◌, ◌<◌, ◌+◌, ◌*◌, ◌/◌, ◌%◌, ◌^◌, ◌⊎◌, ◌↔◌, ◌==◌, true, false, List, [], ◌∷◌, ◌++◌, All, length, slice_index_or}
use Rattle.cap_format.specs.Numbers.{page_bytes, page_granules, granule_bytes, most_regions}
use Rattle.cap_format.specs.declared.cap.Cap.{Cap}
use Rattle.cap_format.specs.Made.{root}
use Rattle.cap_format.specs.Region.{IsInside}
use Rattle.cap_format.specs.Moves.{moved}
use Rattle.machine_types.specs.Granules.{granule, IsSize, number_at, with_bits, with_number, bytes_at, with_bytes, is_tagged}
use Rattle.machine_types.specs.declared.touches.Access.TheVariants.{Read, Write, Fetch}
use Rattle.machine_types.specs.Rights.{is_allowed}
use Rattle.machine_types.specs.Held.{IsHeld, AreHeld}
use Rattle.machine_types.specs.Stores.{Page, page_of_bytes, moved_granules, moved_page}

-- byte i of a granule: its bits 8*i to 8*i + 7
abbrev pub byte_of : Cap → ℕ → ℕ
byte_of cap i = cap.bits / 2 ^ (8 * i) % 2 ^ 8

-- the number of these bytes, the lowest first
abbrev pub number_of : List ℕ → ℕ
number_of [] = 0
number_of (byte ∷ bytes) = byte + 256 * number_of bytes

-- each of them is a byte
abbrev pub AreBytes : List ℕ → Type 0
AreBytes bytes = All (λ byte. byte < 256) bytes

-- each of them is a pattern of 128 bits
abbrev pub ArePatterns : List Cap → Type 0
ArePatterns granules = All (λ cap. cap.bits < 2 ^ 128) granules

-- A number of this size lies at the place: it is 1, 2, 4 or 8 bytes, at a multiple of the size, within the granules.
pub record IsPlace (granules : List Cap) (at size : ℕ) : Type 0 where
  pub size_is : IsSize size
  pub aligned : at % size ≡ 0
  pub within : at + size ≤ length granules * granule_bytes

-- A number is its bytes, and a byte is eight bits of its granule. Sizes are 1, 2, 4 and 8.
pub record NumbersAreBytes : Type 0 where
  pub sizes : (size : ℕ) → IsSize size ↔ ((k : ℕ) × (k < 4) × (size ≡ 2 ^ k))
  pub byte : (granules : List Cap) (at : ℕ) → number_at granules at 1 ≡ byte_of (granule granules (at / granule_bytes)) (at % granule_bytes)
  pub number : (granules : List Cap) (at size : ℕ) → IsPlace granules at size → number_at granules at size ≡ number_of (bytes_at granules at size)
  pub count : (granules : List Cap) (at count : ℕ) → length (bytes_at granules at count) ≡ count
  pub each : (granules : List Cap) (at count k : ℕ) → k < count → slice_index_or (bytes_at granules at count) k 0 ≡ number_at granules (at + k) 1
  pub split : (granules : List Cap) (at m n : ℕ) → bytes_at granules at (m + n) ≡ bytes_at granules at m ++ bytes_at granules (at + m) n

-- A number that is stored is read back, without what doesn't fit its size. Its granule has no tag; every other granule
-- and every other byte stays.
pub record StoredNumbersAreRead : Type 0 where
  pub back : (granules : List Cap) (at size v : ℕ) → IsPlace granules at size → number_at (with_number granules at size v) at size ≡ v % 2 ^ (8 * size)
  pub bytes : (granules : List Cap) (at size v k : ℕ) → IsPlace granules at size → (k < at) ⊎ (at + size ≤ k) → number_at (with_number granules at size v) k 1 ≡ number_at granules k 1
  pub tag : (granules : List Cap) (at size v : ℕ) → is_tagged (with_number granules at size v) (at / granule_bytes) ≡ false
  pub others : (granules : List Cap) (at size v g : ℕ) → g ≢ at / granule_bytes → granule (with_number granules at size v) g ≡ granule granules g
  pub same_length : (granules : List Cap) (at size v : ℕ) → length (with_number granules at size v) ≡ length granules
  pub bits : (n low width v : ℕ) → low + width ≤ 128 → n < 2 ^ 128 → with_bits n low width v < 2 ^ 128
  pub patterns : (granules : List Cap) (at size v : ℕ) → IsPlace granules at size → ArePatterns granules → ArePatterns (with_number granules at size v)

-- Bytes that are stored are read back. Just the tags of the granules that they overlap are gone; every other granule and
-- every other byte stays.
pub record StoredBytesAreRead : Type 0 where
  pub back : (granules : List Cap) (at : ℕ) (bytes : List ℕ) → at + length bytes ≤ length granules * granule_bytes → AreBytes bytes
      → bytes_at (with_bytes granules at bytes) at (length bytes) ≡ bytes
  pub bytes : (granules : List Cap) (at : ℕ) (bytes : List ℕ) (k : ℕ) → at + length bytes ≤ length granules * granule_bytes → (k < at) ⊎ (at + length bytes ≤ k)
      → number_at (with_bytes granules at bytes) k 1 ≡ number_at granules k 1
  pub tags : (granules : List Cap) (at : ℕ) (bytes : List ℕ) (i : ℕ) → i < length bytes → is_tagged (with_bytes granules at bytes) ((at + i) / granule_bytes) ≡ false
  pub others : (granules : List Cap) (at : ℕ) (bytes : List ℕ) (g : ℕ) → ((i : ℕ) → i < length bytes → (at + i) / granule_bytes ≢ g)
      → granule (with_bytes granules at bytes) g ≡ granule granules g
  pub same_length : (granules : List Cap) (at : ℕ) (bytes : List ℕ) → length (with_bytes granules at bytes) ≡ length granules
  pub patterns : (granules : List Cap) (at : ℕ) (bytes : List ℕ) → at + length bytes ≤ length granules * granule_bytes → ArePatterns granules → ArePatterns (with_bytes granules at bytes)
  pub split : (granules : List Cap) (at : ℕ) (bytes more : List ℕ) → with_bytes granules at (bytes ++ more) ≡ with_bytes (with_bytes granules at bytes) (at + length bytes) more

-- A page that is made of bytes has its rights, these bytes, then zeros, no tag, and 256 granules.
pub record PagesAreMade : Type 0 where
  pub rights : (rights : ℕ) (bytes : List ℕ) → (page_of_bytes rights bytes).rights ≡ rights
  pub front : (rights : ℕ) (bytes : List ℕ) → length bytes ≤ page_bytes → AreBytes bytes → bytes_at (page_of_bytes rights bytes).granules 0 (length bytes) ≡ bytes
  pub zeros : (rights : ℕ) (bytes : List ℕ) (k : ℕ) → length bytes ≤ page_bytes → length bytes ≤ k → number_at (page_of_bytes rights bytes).granules k 1 ≡ 0
  pub tags : (rights : ℕ) (bytes : List ℕ) (g : ℕ) → is_tagged (page_of_bytes rights bytes).granules g ≡ false
  pub whole : (rights : ℕ) (bytes : List ℕ) → length (page_of_bytes rights bytes).granules ≡ page_granules
  pub patterns : (rights : ℕ) (bytes : List ℕ) → length bytes ≤ page_bytes → ArePatterns (page_of_bytes rights bytes).granules

-- A moved page has the same rights and as many granules: those without a tag bit for bit, and each with a tag moved. What
-- its region may hold goes to what the other may hold; a move to the same region is none, and two moves are one.
pub record PagesAreMoved : Type 0 where
  pub rights : (from to : ℕ) (p : Page) → (moved_page from to p).rights ≡ p.rights
  pub same_length : (from to : ℕ) (p : Page) → length (moved_page from to p).granules ≡ length p.granules
  pub untagged : (from to : ℕ) (p : Page) (g : ℕ) → is_tagged p.granules g ≡ false → granule (moved_page from to p).granules g ≡ granule p.granules g
  pub tagged : (from to : ℕ) (p : Page) (g : ℕ) → is_tagged p.granules g ≡ true → granule (moved_page from to p).granules g ≡ moved (granule p.granules g) from to
  pub tags : (from to : ℕ) (p : Page) (g : ℕ) → is_tagged (moved_page from to p).granules g ≡ is_tagged p.granules g
  pub held : (from to : ℕ) (granules : List Cap) → from < most_regions → to < most_regions → AreHeld from granules → AreHeld to (moved_granules from to granules)
  pub itself : (region : ℕ) (granules : List Cap) → region < most_regions → AreHeld region granules → moved_granules region region granules ≡ granules
  pub twice : (from over to : ℕ) (granules : List Cap) → from < most_regions → over < most_regions → to < most_regions → AreHeld from granules
      → moved_granules over to (moved_granules from over granules) ≡ moved_granules from to granules

-- What a region may hold: each pattern without a tag, its own root, and with a tag nothing but what is inside it.
pub record WhatMayBeHeld : Type 0 where
  pub untagged : (region bits : ℕ) → bits < 2 ^ 128 → IsHeld region (record { bits = bits; tag = false })
  pub root : (region perms : ℕ) → region < most_regions → perms < 2 ^ 16 → IsHeld region (root region perms)
  pub inside : (region : ℕ) (cap : Cap) → IsHeld region cap → cap.tag ≡ true → IsInside cap.bits region

-- For rights below 8, which are three bits, each access wants its own bit.
pub record RightsAreBits : Type 0 where
  pub read : (rights : ℕ) → rights < 8 → is_allowed Read rights ≡ (rights / 4 % 2 == 1)
  pub write : (rights : ℕ) → rights < 8 → is_allowed Write rights ≡ (rights / 2 % 2 == 1)
  pub fetch : (rights : ℕ) → rights < 8 → is_allowed Fetch rights ≡ (rights % 2 == 1)
