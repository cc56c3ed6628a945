-- Worked images, and files that differ from one in a few numbers and break a rule.
use Rattle.std.specs.Prelude.{◌≡◌, ℕ, ◌+◌, None, Some, List, [], ◌∷◌, ◌++◌, take, drop, length, replicate}
use Rattle.std.specs.Int.{w16, w32, w64, to_le_bytes}
use Rattle.cap_format.specs.declared.image.ImageReason.{ImageReason}
use Rattle.cap_format.specs.declared.image.ImageReason.TheVariants.{TooLong, Truncated, BadMagic, BadHeader, UnknownType, BadFlags, BadAddress, BadSize, Overlap, SecondTable, FileRange, NoSegment, BadEntry, BadPlace, BadBounds, BadOffset, BadPerms}
use Rattle.cap_format.specs.Rules.{first_fault}
use Rattle.cap_format.specs.declared.image.ProgramHeader.{ProgramHeader}
use Rattle.cap_format.specs.declared.image.Relocation.{Relocation}
use Rattle.cap_format.specs.Image.{length_rules, fault_of, segments_of, relocations_of, entry_of, pages_of}

-- numbers of 2, 4 and 8 bytes
abbrev pub half : ℕ → List ℕ
half n = to_le_bytes w16 n

abbrev pub word : ℕ → List ℕ
word n = to_le_bytes w32 n

abbrev pub quad : ℕ → List ℕ
quad n = to_le_bytes w64 n

-- one after another
abbrev pub joined : List (List ℕ) → List ℕ
joined [] = []
joined (bytes ∷ rest) = bytes ++ joined rest

-- A file header with this entry and so many program headers: identification; type, machine, version; entry, phoff, shoff; flags,
-- ehsize, phentsize, phnum; and three fields on sections, which may hold anything.
abbrev pub file_header : ℕ → ℕ → List ℕ
file_header entry count = joined
    ((0x7f ∷ 0x45 ∷ 0x4c ∷ 0x46 ∷ 2 ∷ 1 ∷ 1 ∷ replicate 9 0)
    ∷ half 3 ∷ half 243 ∷ word 1
    ∷ quad entry ∷ quad 64 ∷ quad 7
    ∷ word 0 ∷ half 64 ∷ half 56 ∷ half count
    ∷ half 7 ∷ half 7 ∷ half 7
    ∷ [])

-- a program header: type, flags; offset, vaddr, paddr; filesz, memsz; align. paddr and align may hold anything.
abbrev pub program_header : ProgramHeader → List ℕ
program_header header = joined (word header.kind ∷ word header.flags ∷ quad header.from ∷ quad header.start ∷ quad 7 ∷ quad header.in_file ∷ quad header.in_memory ∷ quad 7 ∷ [])

abbrev pub relocation : Relocation → List ℕ
relocation r = joined (quad r.place ∷ quad r.base ∷ quad r.span ∷ quad r.offset ∷ quad r.perms ∷ [])

-- a segment of code without bytes in the file, and a table of so many bytes at a place of the file
abbrev pub zeros : ℕ → ℕ → ProgramHeader
zeros start size = record { kind = 1; flags = 5; from = 0; start = start; in_file = 0; in_memory = size }

abbrev pub table : ℕ → ℕ → ProgramHeader
table from size = record { kind = 0x6b000001; flags = 4; from = from; start = 0; in_file = size; in_memory = 0 }

-- the capability of 16 bytes from a base on, to be stored at a place
abbrev pub pointer : ℕ → ℕ → Relocation
pointer place base = record { place = place; base = base; span = 16; offset = 0; perms = 0x3c }

-- An image of 216 bytes: a page of code, the file's headers at 64 and 120, and one relocation at 176.
abbrev pub small : List ℕ
small = joined (file_header 0 2 ∷ program_header (zeros 0 4096) ∷ program_header (table 176 40) ∷ relocation (pointer 16 32) ∷ [])

-- the same with other bytes at a place
abbrev pub small_with : ℕ → List ℕ → List ℕ
small_with place bytes = take place small ++ (bytes ++ drop (place + length bytes) small)

-- the same with a second relocation at this place, at byte 216
abbrev pub two_relocations : ℕ → List ℕ
two_relocations place = joined (file_header 0 2 ∷ program_header (zeros 0 4096) ∷ program_header (table 176 80) ∷ relocation (pointer 16 32) ∷ relocation (pointer place 0) ∷ [])

-- two segments of zeros, the second from this place on
abbrev pub two_segments : ℕ → List ℕ
two_segments start = joined (file_header 0 2 ∷ program_header (zeros 0 4097) ∷ program_header (zeros start 1) ∷ [])

-- a relocation with these bounds, offset and permissions
abbrev pub bounded : ℕ → ℕ → ℕ → ℕ → List ℕ
bounded base span offset perms = small_with 184 (joined (quad base ∷ quad span ∷ quad offset ∷ quad perms ∷ []))

-- a file breaks a rule at a place
abbrev pub Breaks : List ℕ → ImageReason → ℕ → Type 0
Breaks file reason place = fault_of file ≡ Some (record { reason = reason; place = place })

-- images and what they hold
pub record ImagesAreRead : Type 0 where
  pub small_one : fault_of small ≡ None
  pub segments : segments_of small ≡ zeros 0 4096 ∷ []
  pub relocations : relocations_of small ≡ pointer 16 32 ∷ []
  pub pages : pages_of (segments_of small) ≡ 1
  pub entry : entry_of (small_with 24 (quad 8)) ≡ 8
  -- the entry may lie on the last word of the page, also behind the bytes of the segment
  pub last_entry : fault_of (small_with 24 (quad 4092)) ≡ None
  pub entry_in_tail : fault_of (joined (file_header 4092 1 ∷ program_header (zeros 0 1) ∷ [])) ≡ None
  -- a header of type 0 may hold anything else
  pub skipped : fault_of (joined (file_header 0 2 ∷ program_header (record { kind = 0; flags = 9; from = 999; start = 5; in_file = 9; in_memory = 0 }) ∷ program_header (zeros 0 1) ∷ [])) ≡ None
  -- the second segment begins at the page behind the first, or further on
  pub next_page : fault_of (two_segments 8192) ≡ None
  pub two : segments_of (two_segments 8192) ≡ zeros 0 4097 ∷ zeros 8192 1 ∷ []
  pub three_pages : pages_of (segments_of (two_segments 8192)) ≡ 3
  pub last_page : fault_of (two_segments 1044480) ≡ None
  -- a relocation's place: the last granule of the page; two of them rise
  pub last_granule : fault_of (small_with 176 (quad 4080)) ≡ None
  pub rising : fault_of (two_relocations 32) ≡ None
  pub both : relocations_of (two_relocations 32) ≡ pointer 16 32 ∷ pointer 32 0 ∷ []
  -- bounds: none at the region's end; the offset at the length; no permission, and all of them
  pub at_the_end : fault_of (bounded 1048576 0 0 0) ≡ None
  pub whole_region : fault_of (bounded 0 1048576 1048576 0x3e) ≡ None
  -- a table without relocations
  pub empty_table : fault_of (small_with 152 (quad 0)) ≡ None
  -- the longest file; the most program headers
  pub longest : first_fault (length_rules 4194304) ≡ None
  pub sixteen_headers : fault_of (joined (file_header 0 16 ∷ program_header (zeros 0 1) ∷ replicate 840 0 ∷ [])) ≡ None
  -- all rights; an entry in the second segment, behind one that may only be read; a relocation on a page of data
  pub all_rights : fault_of (small_with 68 (word 7)) ≡ None
  pub entry_in_second : fault_of (joined (file_header 4096 2 ∷ program_header (record { kind = 1; flags = 4; from = 0; start = 0; in_file = 0; in_memory = 1 }) ∷ program_header (zeros 4096 1) ∷ [])) ≡ None
  pub place_in_data : fault_of (joined (file_header 0 3 ∷ program_header (zeros 0 1) ∷ program_header (record { kind = 1; flags = 6; from = 0; start = 4096; in_file = 0; in_memory = 1 }) ∷ program_header (table 232 40) ∷ relocation (pointer 8176 32) ∷ [])) ≡ None
  -- the whole region; the whole file, as long as the memory; a part at the file's end
  pub whole_memory : fault_of (small_with 104 (quad 1048576)) ≡ None
  pub whole_file : fault_of (small_with 72 (joined (quad 0 ∷ quad 0 ∷ quad 7 ∷ quad 216 ∷ quad 216 ∷ []))) ≡ None
  pub part_at_end : fault_of (small_with 72 (quad 216)) ≡ None
  -- the other fields of a table may hold anything; a relocation at the first granule
  pub table_fields : fault_of (small_with 124 (joined (word 9 ∷ quad 176 ∷ quad 5 ∷ []))) ≡ None
  pub place_zero : fault_of (small_with 176 (quad 0)) ≡ None

-- files that break a rule
pub record RulesAreBroken : Type 0 where
  pub nothing : Breaks [] Truncated 0
  pub short_header : Breaks (take 63 small) Truncated 63
  pub magic : Breaks (small_with 4 (1 ∷ [])) BadMagic 4
  pub last_magic : Breaks (small_with 15 (1 ∷ [])) BadMagic 15
  pub first_magic : Breaks (small_with 0 (0 ∷ 0 ∷ [])) BadMagic 0
  pub type : Breaks (small_with 16 (half 2)) BadHeader 16
  pub machine : Breaks (small_with 18 (half 62)) BadHeader 18
  pub version : Breaks (small_with 20 (word 0)) BadHeader 20
  pub phoff : Breaks (small_with 32 (quad 0)) BadHeader 32
  pub flags : Breaks (small_with 48 (word 1)) BadHeader 48
  pub ehsize : Breaks (small_with 52 (half 0)) BadHeader 52
  pub phentsize : Breaks (small_with 54 (half 0)) BadHeader 54
  pub no_headers : Breaks (small_with 56 (half 0)) BadHeader 56
  pub many_headers : Breaks (small_with 56 (half 17)) BadHeader 56
  pub cut_headers : Breaks (take 175 small) Truncated 175
  -- fields before the room for the headers, and that before the headers
  pub version_first : Breaks (take 100 (small_with 20 (word 0))) BadHeader 20
  pub room_first : Breaks (take 100 (small_with 64 (word 2))) Truncated 100
  pub unknown : Breaks (small_with 64 (word 2)) UnknownType 64
  pub unreadable : Breaks (small_with 68 (word 3)) BadFlags 68
  pub more_flags : Breaks (small_with 68 (word 12)) BadFlags 68
  pub off_page : Breaks (small_with 80 (quad 2048)) BadAddress 80
  pub past_region : Breaks (small_with 80 (quad 1048576)) BadAddress 80
  pub no_bytes : Breaks (small_with 104 (quad 0)) BadSize 104
  pub over_region : Breaks (small_with 104 (quad 1048577)) BadSize 104
  pub over_memory : Breaks (small_with 96 (quad 4097)) BadSize 96
  pub overlap : Breaks (two_segments 4096) Overlap 136
  pub falling : Breaks (two_segments 0) Overlap 136
  pub part_behind : Breaks (small_with 72 (quad 217)) FileRange 72
  pub part_over : Breaks (small_with 72 (joined (quad 216 ∷ quad 0 ∷ quad 0 ∷ quad 1 ∷ []))) FileRange 72
  -- a sum of offset and size that would wrap
  pub part_wraps : Breaks (small_with 72 (joined (quad 18446744073709551615 ∷ quad 0 ∷ quad 0 ∷ quad 1 ∷ []))) FileRange 72
  pub second_table : Breaks (small_with 64 (word 0x6b000001)) SecondTable 120
  pub part_of_one : Breaks (small_with 152 (quad 41)) BadSize 152
  pub long_table : Breaks (small_with 152 (quad 2621480)) BadSize 152
  pub table_behind : Breaks (small_with 128 (quad 177)) FileRange 128
  pub no_segment : Breaks (small_with 64 (word 0)) NoSegment 56
  pub odd_entry : Breaks (small_with 24 (quad 2)) BadEntry 24
  pub entry_off_page : Breaks (small_with 24 (quad 4096)) BadEntry 24
  pub no_code : Breaks (small_with 68 (word 6)) BadEntry 24
  pub entry_first : Breaks (joined (take 24 small ∷ quad 2 ∷ drop 32 (small_with 176 (quad 8)) ∷ [])) BadEntry 24
  pub off_granule : Breaks (small_with 176 (quad 8)) BadPlace 176
  pub place_off_page : Breaks (small_with 176 (quad 4096)) BadPlace 176
  pub same_place : Breaks (two_relocations 16) BadPlace 216
  pub falling_place : Breaks (two_relocations 0) BadPlace 216
  pub base_behind : Breaks (bounded 1048577 0 0 0) BadBounds 184
  pub length_over : Breaks (bounded 1048576 1 0 0) BadBounds 184
  pub inexact : Breaks (bounded 1 4096 0 0) BadBounds 184
  pub offset_over : Breaks (bounded 0 16 17 0) BadOffset 200
  pub no_such_permission : Breaks (bounded 0 16 0 0x40) BadPerms 208
  pub bit_zero : Breaks (bounded 0 16 0 1) BadPerms 208
  -- in one relocation: the place before the bounds, the bounds before the offset, the offset before the permissions
  pub place_first : Breaks (small_with 176 (joined (quad 8 ∷ quad 1048577 ∷ []))) BadPlace 176
  pub bounds_first : Breaks (bounded 1 4096 5000 1) BadBounds 184
  pub offset_first : Breaks (bounded 0 16 17 1) BadOffset 200
  -- a file that is too long; one that ends with its file header is read that far
  pub over_limit : first_fault (length_rules 4194305) ≡ Some (record { reason = TooLong; place = 4194304 })
  pub just_a_header : Breaks (take 64 (small_with 4 (1 ∷ []))) BadMagic 4
  -- of two that fail the first counts
  pub magic_before_fields : Breaks (small_with 15 (1 ∷ 2 ∷ [])) BadMagic 15
  pub type_before_machine : Breaks (small_with 16 (half 2 ++ half 62)) BadHeader 16
  pub machine_before_version : Breaks (small_with 18 (half 62 ++ word 0)) BadHeader 18
  pub version_before_phoff : Breaks (small_with 20 (joined (word 0 ∷ quad 0 ∷ quad 0 ∷ []))) BadHeader 20
  pub phoff_before_flags : Breaks (small_with 32 (joined (quad 0 ∷ quad 7 ∷ word 1 ∷ []))) BadHeader 32
  pub flags_before_ehsize : Breaks (small_with 48 (word 1 ++ half 0)) BadHeader 48
  pub ehsize_before_phentsize : Breaks (small_with 52 (half 0 ++ half 0)) BadHeader 52
  pub phentsize_before_phnum : Breaks (small_with 54 (half 0 ++ half 0)) BadHeader 54
  pub flags_before_address : Breaks (small_with 68 (joined (word 3 ∷ quad 0 ∷ quad 2048 ∷ []))) BadFlags 68
  pub memory_before_file : Breaks (small_with 96 (quad 1 ++ quad 0)) BadSize 104
  pub file_before_overlap : Breaks (joined (file_header 0 2 ∷ program_header (zeros 0 4097) ∷ program_header (record { kind = 1; flags = 5; from = 0; start = 4096; in_file = 2; in_memory = 1 }) ∷ [])) BadSize 152
  pub overlap_before_range : Breaks (joined (file_header 0 2 ∷ program_header (zeros 0 4097) ∷ program_header (record { kind = 1; flags = 5; from = 177; start = 4096; in_file = 0; in_memory = 1 }) ∷ [])) Overlap 136
  pub second_before_size : Breaks (joined (take 64 small ∷ word 0x6b000001 ∷ drop 68 (small_with 152 (quad 41)) ∷ [])) SecondTable 120
  pub both_unknown : Breaks (joined (take 64 small ∷ word 2 ∷ drop 68 (small_with 120 (word 2)) ∷ [])) UnknownType 64
  pub relocations_in_order : Breaks (joined (take 208 (two_relocations 8) ∷ quad 1 ∷ drop 216 (two_relocations 8) ∷ [])) BadPerms 208
  -- the highest byte of each number counts
  pub type_byte : Breaks (small_with 17 (1 ∷ [])) BadHeader 16
  pub machine_byte : Breaks (small_with 19 (1 ∷ [])) BadHeader 18
  pub version_byte : Breaks (small_with 23 (1 ∷ [])) BadHeader 20
  pub phoff_byte : Breaks (small_with 39 (1 ∷ [])) BadHeader 32
  pub flags_byte : Breaks (small_with 51 (1 ∷ [])) BadHeader 48
  pub ehsize_byte : Breaks (small_with 53 (1 ∷ [])) BadHeader 52
  pub phentsize_byte : Breaks (small_with 55 (1 ∷ [])) BadHeader 54
  pub phnum_byte : Breaks (small_with 57 (1 ∷ [])) BadHeader 56
  pub entry_byte : Breaks (small_with 31 (1 ∷ [])) BadEntry 24
  pub kind_byte : Breaks (small_with 67 (1 ∷ [])) UnknownType 64
  pub rights_byte : Breaks (small_with 71 (1 ∷ [])) BadFlags 68
  pub from_byte : Breaks (small_with 79 (1 ∷ [])) FileRange 72
  pub start_byte : Breaks (small_with 87 (1 ∷ [])) BadAddress 80
  pub in_file_byte : Breaks (small_with 103 (1 ∷ [])) BadSize 96
  pub in_memory_byte : Breaks (small_with 111 (1 ∷ [])) BadSize 104
  pub place_byte : Breaks (small_with 183 (1 ∷ [])) BadPlace 176
  pub base_byte : Breaks (small_with 191 (1 ∷ [])) BadBounds 184
  pub span_byte : Breaks (small_with 199 (1 ∷ [])) BadBounds 184
  pub offset_byte : Breaks (small_with 207 (1 ∷ [])) BadOffset 200
  pub perms_byte : Breaks (small_with 215 (1 ∷ [])) BadPerms 208
  -- the longest table, which is tested against the file then
  pub longest_table : Breaks (small_with 152 (quad 2621440)) FileRange 128
  pub part_of_eight : Breaks (small_with 152 (quad 8)) BadSize 152
  -- the second header's places
  pub second_unknown : Breaks (small_with 120 (word 2)) UnknownType 120
  pub second_unreadable : Breaks (joined (take 124 (two_segments 8192) ∷ word 3 ∷ drop 128 (two_segments 8192) ∷ [])) BadFlags 124
  -- a size over what the region has from the start on; an overlap behind a header that is skipped; a table of the same kind again
  pub over_rest : Breaks (small_with 80 (joined (quad 4096 ∷ quad 7 ∷ quad 0 ∷ quad 1044481 ∷ []))) BadSize 104
  pub overlap_behind_skipped : Breaks (joined (file_header 0 3 ∷ program_header (zeros 0 4097) ∷ replicate 56 0 ∷ program_header (zeros 4096 1) ∷ [])) Overlap 192
  pub table_again : Breaks (joined (file_header 0 3 ∷ program_header (table 0 0) ∷ program_header (zeros 0 1) ∷ program_header (table 0 0) ∷ [])) SecondTable 176
  pub flags_eight : Breaks (small_with 68 (word 8)) BadFlags 68
  -- an entry on a page of data, below the segment, and in a header that is skipped
  pub entry_in_data : Breaks (joined (file_header 4096 2 ∷ program_header (zeros 0 1) ∷ program_header (record { kind = 1; flags = 6; from = 0; start = 4096; in_file = 0; in_memory = 1 }) ∷ [])) BadEntry 24
  pub entry_below : Breaks (small_with 80 (quad 4096)) BadEntry 24
  pub entry_in_skipped : Breaks (joined (file_header 4096 2 ∷ program_header (zeros 0 1) ∷ program_header (record { kind = 0; flags = 5; from = 0; start = 4096; in_file = 0; in_memory = 1 }) ∷ [])) BadEntry 24

pub record WorkedImagesHold : Type 0 where
  pub images : ImagesAreRead
  pub broken : RulesAreBroken
