-- Image files: an ELF64 file of loaded segments, with at most one table of relocations.
-- File header and program headers after ELF64 (System V ABI). The rules and the table are this project's own.
use Rattle.std.specs.Prelude.{◌≡◌, ℕ, zero, suc, ◌+◌, ◌-◌, ◌*◌, ◌/◌, ◌%◌, ◌==◌, Bool, true, not, ◌&&◌, nat_lt, nat_le, if◌then◌else◌, Option, Some, None, List, [], ◌∷◌, ◌++◌, length, replicate, filter, find, bit_and}
use Rattle.std.specs.List.{list_any}
use Rattle.cap_format.specs.Numbers.{region_bytes, page_bytes, granule_bytes, image_bytes, table_bytes, all_permissions, file_header_bytes, program_header_bytes, relocation_bytes, most_headers, segment_type, table_type}
use Rattle.cap_format.specs.Region.{region_start}
use Rattle.cap_format.specs.SetBounds.{up_to, is_exact}
use Rattle.cap_format.specs.declared.image.ProgramHeader.{ProgramHeader}
use Rattle.cap_format.specs.declared.image.Relocation.{Relocation}
use Rattle.cap_format.specs.declared.image.ImageFault.{ImageFault}
use Rattle.cap_format.specs.declared.image.ImageReason.TheVariants.{TooLong, Truncated, BadMagic, BadHeader, UnknownType, BadFlags, BadAddress, BadSize, Overlap, SecondTable, FileRange, NoSegment, BadEntry, BadPlace, BadBounds, BadOffset, BadPerms}
use Rattle.cap_format.specs.FileNumbers.{byte_at, u16_at, u32_at, u64_at}
use Rattle.cap_format.specs.Rules.{Rule, want◌else◌at◌, first_fault}

-- what is read of a program header at a place
abbrev pub header_at : List ℕ → ℕ → ProgramHeader
header_at file h = record {
  kind = u32_at file h;
  flags = u32_at file (h + 4);
  from = u64_at file (h + 8);
  start = u64_at file (h + 16);
  in_file = u64_at file (h + 32);
  in_memory = u64_at file (h + 40);
}

-- so many program headers from a place on
abbrev pub headers_at : List ℕ → ℕ → ℕ → List ProgramHeader
headers_at file h zero = []
headers_at file h (suc more) = header_at file h ∷ headers_at file (h + program_header_bytes) more

-- a relocation at a place
abbrev pub relocation_at : List ℕ → ℕ → Relocation
relocation_at file r = record {
  place = u64_at file r;
  base = u64_at file (r + 8);
  span = u64_at file (r + 16);
  offset = u64_at file (r + 24);
  perms = u64_at file (r + 32);
}

-- so many relocations from a place on
abbrev pub relocations_at : List ℕ → ℕ → ℕ → List Relocation
relocations_at file r zero = []
relocations_at file r (suc more) = relocation_at file r ∷ relocations_at file (r + relocation_bytes) more

abbrev pub is_segment : ProgramHeader → Bool
is_segment header = header.kind == segment_type

abbrev pub is_table : ProgramHeader → Bool
is_table header = header.kind == table_type

-- the end of a segment, rounded up to a page
abbrev pub end_of : ProgramHeader → ℕ
end_of header = up_to (header.start + header.in_memory) page_bytes

-- a place in the region is on a page of the segment
abbrev pub covers : ℕ → ProgramHeader → Bool
covers place header = is_segment header && (nat_le header.start place && nat_lt place (end_of header))

-- the same, of a segment that may be executed
abbrev pub covers_code : ℕ → ProgramHeader → Bool
covers_code place header = header.flags % 2 == 1 && covers place header

-- 1. the length
abbrev pub length_rules : ℕ → List Rule
length_rules n =
    (want nat_le n image_bytes else TooLong at image_bytes)
    ∷ (want nat_le file_header_bytes n else Truncated at n)
    ∷ []

-- 2. the identification: the magic number, 64-bit, little-endian, version 1, and zeros
abbrev pub identification : List ℕ
identification = 0x7f ∷ 0x45 ∷ 0x4c ∷ 0x46 ∷ 2 ∷ 1 ∷ 1 ∷ replicate 9 0

-- these bytes stand from a place on
abbrev pub byte_rules : List ℕ → ℕ → List ℕ → List Rule
byte_rules file place [] = []
byte_rules file place (byte ∷ bytes) = (want byte_at file place == byte else BadMagic at place) ∷ byte_rules file (place + 1) bytes

-- 3. type, machine, version, phoff, flags, ehsize, phentsize and phnum
abbrev pub field_rules : List ℕ → List Rule
field_rules file =
    (want u16_at file 16 == 3 else BadHeader at 16)
    ∷ (want u16_at file 18 == 243 else BadHeader at 18)
    ∷ (want u32_at file 20 == 1 else BadHeader at 20)
    ∷ (want u64_at file 32 == file_header_bytes else BadHeader at 32)
    ∷ (want u32_at file 48 == 0 else BadHeader at 48)
    ∷ (want u16_at file 52 == file_header_bytes else BadHeader at 52)
    ∷ (want u16_at file 54 == program_header_bytes else BadHeader at 54)
    ∷ (want nat_le 1 (u16_at file 56) && nat_le (u16_at file 56) most_headers else BadHeader at 56)
    ∷ []

-- the number of program headers, the entry
abbrev pub header_count : List ℕ → ℕ
header_count file = u16_at file 56

abbrev pub entry_of : List ℕ → ℕ
entry_of file = u64_at file 24

-- 4. the program headers are there
abbrev pub room_rules : List ℕ → List Rule
room_rules file = (want nat_le (file_header_bytes + program_header_bytes * header_count file) (length file) else Truncated at length file) ∷ []

-- the part of the file lies in a file of n bytes
abbrev pub is_in_file : ℕ → ProgramHeader → Bool
is_in_file n header = nat_le header.from n && nat_le header.in_file (n - header.from)

-- 5. the header at h of a segment, in a file of n bytes, behind segments that end at `past`
abbrev pub segment_rules : ℕ → ℕ → ℕ → ProgramHeader → List Rule
segment_rules n past h header =
    (want nat_le 4 header.flags && nat_le header.flags 7 else BadFlags at h + 4)
    ∷ (want header.start % page_bytes == 0 && nat_lt header.start region_bytes else BadAddress at h + 16)
    ∷ (want nat_le 1 header.in_memory && nat_le header.in_memory (region_bytes - header.start) else BadSize at h + 40)
    ∷ (want nat_le header.in_file header.in_memory else BadSize at h + 32)
    ∷ (want nat_le past header.start else Overlap at h + 16)
    ∷ (want is_in_file n header else FileRange at h + 8)
    ∷ []

-- the header at h of a table of relocations, which is the first table or isn't
abbrev pub table_rules : ℕ → Bool → ℕ → ProgramHeader → List Rule
table_rules n first h header =
    (want first else SecondTable at h)
    ∷ (want header.in_file % relocation_bytes == 0 && nat_le header.in_file table_bytes else BadSize at h + 32)
    ∷ (want is_in_file n header else FileRange at h + 8)
    ∷ []

-- a header of type 0 is skipped, and there is no other type
abbrev pub header_rules : ℕ → ℕ → Bool → ℕ → ProgramHeader → List Rule
header_rules n past first h header =
    if is_segment header then segment_rules n past h header
    else (if is_table header then table_rules n first h header
    else ((want header.kind == 0 else UnknownType at h) ∷ []))

-- where the segments end after a header, and whether there is no table yet
abbrev pub past_after : ℕ → ProgramHeader → ℕ
past_after past header = if is_segment header then end_of header else past

abbrev pub first_after : Bool → ProgramHeader → Bool
first_after first header = first && not (is_table header)

-- each header in order: the segments before end at `past`, and `first` says that none of the headers before is a table
abbrev pub headers_rules : ℕ → ℕ → Bool → ℕ → List ProgramHeader → List Rule
headers_rules n past first h [] = []
headers_rules n past first h (header ∷ headers) =
    header_rules n past first h header
    ++ headers_rules n (past_after past header) (first_after first header) (h + program_header_bytes) headers

-- 6. there is a segment, and the entry is a place for an instruction on a page that may be executed
abbrev pub entry_rules : ℕ → List ProgramHeader → List Rule
entry_rules entry headers =
    (want list_any is_segment headers else NoSegment at 56)
    ∷ (want entry % 4 == 0 && list_any (covers_code entry) headers else BadEntry at 24)
    ∷ []

-- 7. the relocation at r, whose place is not below `least`
abbrev pub relocation_rules : List ProgramHeader → ℕ → ℕ → Relocation → List Rule
relocation_rules headers least r relocation =
    (want relocation.place % granule_bytes == 0 && (list_any (covers relocation.place) headers && nat_le least relocation.place) else BadPlace at r)
    ∷ (want nat_le relocation.base region_bytes && (nat_le relocation.span (region_bytes - relocation.base) && is_exact (region_start 0 + relocation.base) relocation.span) else BadBounds at r + 8)
    ∷ (want nat_le relocation.offset relocation.span else BadOffset at r + 24)
    ∷ (want bit_and relocation.perms all_permissions == relocation.perms else BadPerms at r + 32)
    ∷ []

-- each relocation in order: a place is greater than the one before it
abbrev pub relocations_rules : List ProgramHeader → ℕ → ℕ → List Relocation → List Rule
relocations_rules headers least r [] = []
relocations_rules headers least r (relocation ∷ relocations) =
    relocation_rules headers least r relocation ++ relocations_rules headers (relocation.place + 1) (r + relocation_bytes) relocations

-- the relocations of the table, if there is one, and where they stand
abbrev pub relocations_in : List ℕ → Option ProgramHeader → List Relocation
relocations_in file None = []
relocations_in file (Some table) = relocations_at file table.from (table.in_file / relocation_bytes)

abbrev pub table_place : Option ProgramHeader → ℕ
table_place None = 0
table_place (Some table) = table.from

-- all rules that read the program headers
abbrev pub rules_with : List ℕ → List ProgramHeader → List Rule
rules_with file headers =
    headers_rules (length file) 0 true file_header_bytes headers
    ++ (entry_rules (entry_of file) headers
    ++ relocations_rules headers 0 (table_place (find is_table headers)) (relocations_in file (find is_table headers)))

-- the program headers, the segments among them, and the relocations
abbrev pub headers_of : List ℕ → List ProgramHeader
headers_of file = headers_at file file_header_bytes (header_count file)

abbrev pub segments_of : List ℕ → List ProgramHeader
segments_of file = filter is_segment (headers_of file)

abbrev pub relocations_of : List ℕ → List Relocation
relocations_of file = relocations_in file (find is_table (headers_of file))

-- the rules that come before the program headers
abbrev pub front_rules : List ℕ → List Rule
front_rules file = length_rules (length file) ++ (byte_rules file 0 identification ++ (field_rules file ++ room_rules file))

-- all rules
unfoldable pub rules : List ℕ → List Rule
rules file = front_rules file ++ rules_with file (headers_of file)

-- the fault of a file, by the first rule that it breaks; an image breaks none
abbrev pub fault_of : List ℕ → Option ImageFault
fault_of file = first_fault (rules file)

abbrev pub IsImage : List ℕ → Type 0
IsImage file = fault_of file ≡ None

-- how many pages a segment has, and how many segments have
abbrev pub pages_in : ProgramHeader → ℕ
pages_in segment = (end_of segment - segment.start) / page_bytes

abbrev pub pages_of : List ProgramHeader → ℕ
pages_of [] = 0
pages_of (segment ∷ segments) = pages_in segment + pages_of segments
