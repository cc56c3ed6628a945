-- What the steps of a start ask: of a segment, of a relocation, and of the content that gets them.
use Rattle.std.specs.Prelude.{◌≡◌, ℕ, ◌+◌, ◌%◌, ◌<◌, ◌≤◌, None, List, [], ◌∷◌, All, bit_and}
use Rattle.cap_format.specs.Numbers.{region_bytes, granule_bytes, page_bytes, all_permissions}
use Rattle.contents.specs.Content.{Content, page_at, used_frames}
use Rattle.contents.specs.Conditions.{HasStore, IsOwn}
use Rattle.contents.specs.Accesses.{page_of_place}
use Rattle.elf_loader.specs.declared.image.Segment.{Segment}
use Rattle.elf_loader.specs.declared.image.Reloc.{Reloc}
use Rattle.elf_loader.specs.Numbers.{process_region}
use Rattle.elf_loader.specs.Start.{first_page, page_count}

-- A segment in a file of n bytes: it has bytes, begins at a page, ends in the region, and its part is in the file.
pub record IsPlaced (n : ℕ) (segment : Segment) : Type 0 where
  pub some : 1 ≤ segment.size
  pub at_page : segment.start % page_bytes ≡ 0
  pub within : segment.start + segment.size ≤ region_bytes
  pub part : segment.from + segment.file_size ≤ n
  pub rights : segment.rights < 8

-- such segments in rising order: each begins at or behind the page where the one before it ends
abbrev pub ArePlaced : ℕ → ℕ → List Segment → Type 0
ArePlaced n first [] = Unit {0}
ArePlaced n first (segment ∷ segments) = IsPlaced n segment × (first ≤ first_page segment) × ArePlaced n (first_page segment + page_count segment) segments

-- how many pages segments have
abbrev pub page_total : List Segment → ℕ
page_total [] = 0
page_total (segment ∷ segments) = page_count segment + page_total segments

-- The process has a store with no page from a number on, and so many frames are free.
pub record HasRoom (first pages : ℕ) (c : Content) : Type 0 where
  pub store : HasStore process_region c
  pub absent : (page : ℕ) → first ≤ page → page_at c process_region page ≡ None
  pub frames : used_frames c + pages ≤ c.frames

-- A relocation in the region: it stands at a granule, its bounds and its address lie in the region, and there are its permissions.
pub record IsPlaceable (reloc : Reloc) : Type 0 where
  pub at_granule : reloc.place % granule_bytes ≡ 0
  pub place : reloc.place < region_bytes
  pub within : reloc.base + reloc.length ≤ region_bytes
  pub offset : reloc.offset ≤ reloc.length
  pub perms : bit_and reloc.perms all_permissions ≡ reloc.perms

-- the page on which a relocation stands is the process's own
abbrev pub HasOwnPlace : Content → Reloc → Type 0
HasOwnPlace c reloc = IsOwn process_region (page_of_place reloc.place) c

-- each of those pages is
abbrev pub HasOwnPlaces : List Reloc → Content → Type 0
HasOwnPlaces relocs c = All (HasOwnPlace c) relocs
