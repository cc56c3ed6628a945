-- What follows at once for an image.
use Rattle.std.specs.Prelude.{◌≡◌, ◌≢◌, ℕ, ◌+◌, ◌*◌, ◌%◌, ◌<◌, ◌≤◌, IsTrue, Some, List, [], ◌∷◌, length, Contains, bit_and}
use Rattle.cap_format.specs.Numbers.{region_bytes, region_pages, page_bytes, granule_bytes, image_bytes, table_bytes, all_permissions, file_header_bytes, program_header_bytes, relocation_bytes}
use Rattle.cap_format.specs.Region.{region_start}
use Rattle.cap_format.specs.SetBounds.{is_exact}
use Rattle.cap_format.specs.declared.image.ImageReason.TheVariants.{TooLong}
use Rattle.cap_format.specs.declared.image.ProgramHeader.{ProgramHeader}
use Rattle.cap_format.specs.declared.image.Relocation.{Relocation}
use Rattle.cap_format.specs.Image.{IsImage, fault_of, end_of, is_table, header_count, entry_of, headers_of, segments_of, relocations_of, pages_of}

-- A segment behind others that end at `past`: at a page, with bytes, in the region and in a file of n bytes, and readable.
pub record IsSegmentBehind (n past : ℕ) (segment : ProgramHeader) : Type 0 where
  pub behind : past ≤ segment.start
  pub at_page : segment.start % page_bytes ≡ 0
  pub some : 0 < segment.in_memory
  pub within : end_of segment ≤ region_bytes
  pub part : segment.in_file ≤ segment.in_memory
  pub in_file : segment.from + segment.in_file ≤ n
  pub readable : 4 ≤ segment.flags
  pub rights : segment.flags < 8

-- each begins at or behind the end of the one before it, rounded up to a page
abbrev pub AreSegmentsBehind : ℕ → ℕ → List ProgramHeader → Type 0
AreSegmentsBehind n past [] = Unit {0}
AreSegmentsBehind n past (segment ∷ segments) = IsSegmentBehind n past segment × AreSegmentsBehind n (end_of segment) segments

-- A relocation at or behind a place: on a page of a segment, at a granule, with exact bounds in the region, an address in them, and
-- no permission that there isn't.
pub record IsRelocationBehind (segments : List ProgramHeader) (least : ℕ) (relocation : Relocation) : Type 0 where
  pub behind : least ≤ relocation.place
  pub at_granule : relocation.place % granule_bytes ≡ 0
  pub segment : ProgramHeader
  pub one : Contains segments segment
  pub from : segment.start ≤ relocation.place
  pub to : relocation.place < end_of segment
  pub within : relocation.base + relocation.span ≤ region_bytes
  pub exact : IsTrue (is_exact (region_start 0 + relocation.base) relocation.span)
  pub offset : relocation.offset ≤ relocation.span
  pub perms : bit_and relocation.perms all_permissions ≡ relocation.perms

abbrev pub AreRelocationsBehind : List ProgramHeader → ℕ → List Relocation → Type 0
AreRelocationsBehind segments least [] = Unit {0}
AreRelocationsBehind segments least (relocation ∷ relocations) = IsRelocationBehind segments least relocation × AreRelocationsBehind segments (relocation.place + 1) relocations

-- the entry is an instruction's place on a page of one of the segments that may be executed
pub record IsEntry (segments : List ProgramHeader) (entry : ℕ) : Type 0 where
  pub aligned : entry % 4 ≡ 0
  pub segment : ProgramHeader
  pub one : Contains segments segment
  pub code : segment.flags % 2 ≡ 1
  pub from : segment.start ≤ entry
  pub to : entry < end_of segment

-- Of an image: its length; its headers are there; its segments rise without overlap, in the region and in the file, so a file that
-- ends before a segment's part is none; they have at most a region's pages; its entry; and its relocations, whose places rise.
pub record ImagesAreSound : Type 0 where
  pub most : (file : List ℕ) → IsImage file → length file ≤ image_bytes
  pub headers : (file : List ℕ) → IsImage file → file_header_bytes + program_header_bytes * header_count file ≤ length file
  pub segments : (file : List ℕ) → IsImage file → AreSegmentsBehind (length file) 0 (segments_of file)
  pub some : (file : List ℕ) → IsImage file → segments_of file ≢ []
  pub pages : (file : List ℕ) → IsImage file → pages_of (segments_of file) ≤ region_pages
  pub entry : (file : List ℕ) → IsImage file → IsEntry (segments_of file) (entry_of file)
  pub relocations : (file : List ℕ) → IsImage file → AreRelocationsBehind (segments_of file) 0 (relocations_of file)
  pub table : (file : List ℕ) (header : ProgramHeader) → IsImage file → Contains (headers_of file) header → IsTrue (is_table header)
      → (header.from + header.in_file ≤ length file) × (header.in_file ≤ table_bytes) × (header.in_file % relocation_bytes ≡ 0)
  pub one_table : (file : List ℕ) (one other : ProgramHeader) → IsImage file → Contains (headers_of file) one → Contains (headers_of file) other → IsTrue (is_table one) → IsTrue (is_table other) → one ≡ other

-- the one limit that no worked file reaches
pub record LongFilesAreNone : Type 0 where
  pub none : (file : List ℕ) → image_bytes < length file → fault_of file ≡ Some (record { reason = TooLong; place = image_bytes })
