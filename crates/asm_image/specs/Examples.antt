-- Sources that were worked out by hand: the faults of some, and what the others come to, to the bytes of their files.
use Rattle.std.specs.Prelude.{◌≡◌, ℕ, Option, Some, None, Result, Ok, Err, List, [], ◌∷◌, ◌++◌, codes, flat_map, replicate}
use Rattle.std.specs.Int.{w32, to_le_bytes}
use Rattle.cap_format.specs.ImageExamples.{word, quad, joined}
use Rattle.cap_format.specs.declared.image.ProgramHeader.{ProgramHeader}
use Rattle.cap_format.specs.declared.image.Relocation.{Relocation}
use Rattle.asm_text.specs.declared.source.SourceReason.{SourceReason}
use Rattle.asm_text.specs.declared.source.SourceReason.TheVariants.{BadText, BadStatement, NoSegment, BadSegment, TooMany, BadAlign, AfterBss, Misplaced, TooLarge, Empty, Twice, UnknownLabel, OutOfRange, BadCap, NoEntry}
use Rattle.asm_text.specs.declared.source.SourceFault.{SourceFault}
use Rattle.asm_text.specs.declared.listing.Item.{Item}
use Rattle.asm_text.specs.Source.{fault, source_of}
use Rattle.asm_image.specs.Program.{Segment, Program, program_headers}
use Rattle.asm_image.specs.Assembled.{program_of, fault_of, place_fault, file_from}

-- a text is refused at a line
abbrev pub Refuses : List ℕ → ℕ → SourceReason → Type 0
Refuses text line reason = file_from text ≡ Err (fault line reason)

-- the fault of a text by a pass over its items, or by their reading
abbrev pub fault_by : (List Item → Option SourceFault) → Result (List Item) SourceFault → Option SourceFault
fault_by pass (Err fault) = Some fault
fault_by pass (Ok items) = pass items

-- a text has no fault
abbrev pub Accepts : List ℕ → Type 0
Accepts text = fault_by (fault_of text) (source_of text) ≡ None

-- The places of a text are refused at a line, or they have no fault. So it is said where the bytes are too many to be written.
abbrev pub RefusesPlaces : List ℕ → ℕ → SourceReason → Type 0
RefusesPlaces text line reason = fault_by (place_fault text) (source_of text) ≡ Some (fault line reason)

abbrev pub AcceptsPlaces : List ℕ → Type 0
AcceptsPlaces text = fault_by (place_fault text) (source_of text) ≡ None

-- the program that a text without a fault comes to
abbrev pub program_unless : Option SourceFault → Program → Option Program
program_unless None program = Some program
program_unless (Some fault) program = None

abbrev pub program_by : List ℕ → Result (List Item) SourceFault → Option Program
program_by text (Err fault) = None
program_by text (Ok items) = program_unless (fault_of text items) (program_of text items)

abbrev pub program_from : List ℕ → Option Program
program_from text = program_by text (source_of text)

-- the program headers of that program
abbrev pub headers_by : Option Program → List ProgramHeader
headers_by None = []
headers_by (Some program) = program_headers program

abbrev pub headers_from : List ℕ → List ProgramHeader
headers_from text = headers_by (program_from text)

-- a segment from a place on, a relocation at a place, and a program header
abbrev pub segment : ℕ → ℕ → List ℕ → ℕ → Segment
segment start rights bytes bss = record { start = start; rights = rights; bytes = bytes; bss = bss }

abbrev pub relocation : ℕ → ℕ → ℕ → ℕ → ℕ → Relocation
relocation place base span offset perms = record { place = place; base = base; span = span; offset = offset; perms = perms }

abbrev pub header : ℕ → ℕ → ℕ → ℕ → ℕ → ℕ → ProgramHeader
header kind flags from start in_file in_memory = record { kind = kind; flags = flags; from = from; start = start; in_file = in_file; in_memory = in_memory }

-- a text has no fault, and comes to this
abbrev pub ComesTo : List ℕ → List Segment → List Relocation → ℕ → Type 0
ComesTo text segments relocations entry = program_from text ≡ Some (record { segments = segments; relocations = relocations; entry = entry })

-- lines in a segment of code, where the entry is their first statement, on line 3 and at place 0
abbrev pub in_code : List ℕ → List ℕ
in_code lines = codes ".segment 0 rx\n.entry a\na: " ++ lines

-- they come to these bytes
abbrev pub Makes : List ℕ → List ℕ → Type 0
Makes lines bytes = ComesTo (in_code lines) (segment 0 5 bytes 0 ∷ []) [] 0

-- the bytes of words
abbrev pub words : List ℕ → List ℕ
words numbers = flat_map (to_le_bytes w32) numbers

abbrev pub zeros : ℕ → List ℕ
zeros count = replicate count 0

-- fifteen segments, of which the last one has no content yet; the next line is line 31
abbrev pub fifteen : List ℕ
fifteen = codes ".segment 0 rx\n.entry a\na: .bss 1\n.segment 0x1000 r\n.bss 1\n.segment 0x2000 r\n.bss 1\n.segment 0x3000 r\n.bss 1\n.segment 0x4000 r\n.bss 1\n.segment 0x5000 r\n.bss 1\n.segment 0x6000 r\n.bss 1\n.segment 0x7000 r\n.bss 1\n.segment 0x8000 r\n.bss 1\n.segment 0x9000 r\n.bss 1\n.segment 0xa000 r\n.bss 1\n.segment 0xb000 r\n.bss 1\n.segment 0xc000 r\n.bss 1\n.segment 0xd000 r\n.bss 1\n.segment 0xe000 r\n"

-- Faults of places.
pub record PlacesAreRefused : Type 0 where
  -- before the first segment
  pub label_before_segments : Refuses (codes "a:") 1 NoSegment
  pub data_before_segments : Refuses (codes ".byte 1\n.segment 0 rx") 1 NoSegment
  pub no_bytes_before_segments : Refuses (codes "\n.ascii \"\"") 2 NoSegment
  pub no_space_before_segments : Refuses (codes ".space 0") 1 NoSegment
  pub align_before_segments : Refuses (codes ".align 1") 1 NoSegment
  pub no_bss_before_segments : Refuses (codes ".bss 0") 1 NoSegment
  pub cap_before_segments : Refuses (codes ".cap a, 0, 0, 0") 1 NoSegment
  pub instruction_before_segments : Refuses (codes "ecall") 1 NoSegment
  pub label_of_first_segment : Refuses (codes "a: .segment 0 rx\n.entry a\n.byte 0") 1 NoSegment
  pub entry_before_segments : Accepts (codes ".entry a\n.segment 0 rx\na: .byte 0")
  -- where a segment begins
  pub segment_off_page : Refuses (codes ".segment 1 rx\n.byte 0") 1 BadSegment
  pub segment_at_half_page : Refuses (codes ".segment 2048 rx\n.byte 0") 1 BadSegment
  pub segment_at_last_page : ComesTo (codes ".segment 0xff000 rx\n.entry a\na: .byte 7") (segment 1044480 5 (7 ∷ []) 0 ∷ []) [] 1044480
  pub segment_behind_region : Refuses (codes ".segment 0x100000 rx\n.byte 0") 1 BadSegment
  pub segment_far_behind_region : Refuses (codes ".segment 0xfffffffffffff000 rx\n.byte 0") 1 BadSegment
  pub segment_at_next_page : Accepts (in_code (codes ".byte 0\n.bss 4095\n.segment 4096 r\n.bss 1"))
  pub segment_before_end_of_bss : Refuses (in_code (codes ".byte 0\n.bss 4096\n.segment 4096 r\n.bss 1")) 5 BadSegment
  pub segment_behind_bytes : Accepts (in_code (codes ".space 4096\n.segment 4096 r\n.bss 1"))
  pub segment_before_end_of_bytes : Refuses (in_code (codes ".space 4097\n.segment 4096 r\n.bss 1")) 4 BadSegment
  pub segment_at_same_place : Refuses (in_code (codes ".byte 0\n.segment 0 r\n.byte 0")) 4 BadSegment
  pub segment_before_another : Refuses (codes ".segment 0x2000 rx\n.byte 0\n.segment 0x1000 r\n.byte 0") 3 BadSegment
  -- how many there are
  pub fifteen_segments : Accepts (fifteen ++ codes ".bss 1")
  pub sixteen_segments : Refuses (fifteen ++ codes ".bss 1\n.segment 0xf000 r\n.bss 1") 32 TooMany
  -- numbers of `.align`
  pub each_alignment : Makes (codes ".align 1\n.align 2\n.align 4\n.align 8\n.align 16\n.align 32\n.align 64\n.align 128\n.align 256\n.align 512\n.align 1024\n.align 2048\n.align 4096\n.byte 5") (5 ∷ [])
  pub align_to_zero : Refuses (in_code (codes ".byte 0\n.align 0")) 4 BadAlign
  pub align_to_negative : Refuses (in_code (codes ".byte 0\n.align -1")) 4 BadAlign
  pub align_to_negative_four : Refuses (in_code (codes ".byte 0\n.align -4")) 4 BadAlign
  pub align_to_three : Refuses (in_code (codes ".byte 0\n.align 3")) 4 BadAlign
  pub align_to_twelve : Refuses (in_code (codes ".byte 0\n.align 12")) 4 BadAlign
  pub align_below_page : Refuses (in_code (codes ".byte 0\n.align 4095")) 4 BadAlign
  pub align_to_two_pages : Refuses (in_code (codes ".byte 0\n.align 8192")) 4 BadAlign
  -- behind `.bss`
  pub data_behind_bss : Refuses (in_code (codes ".bss 4\n.byte 0")) 4 AfterBss
  pub no_bytes_behind_bss : Refuses (in_code (codes ".bss 4\n.ascii \"\"")) 4 AfterBss
  pub no_space_behind_bss : Refuses (in_code (codes ".bss 4\n.space 0")) 4 AfterBss
  pub align_behind_bss : Refuses (in_code (codes ".bss 4\n.align 1")) 4 AfterBss
  pub second_bss : Refuses (in_code (codes ".bss 4\n.bss 0")) 4 AfterBss
  pub cap_behind_bss : Refuses (in_code (codes ".bss 16\n.cap a, 0, 0, 0")) 4 AfterBss
  pub instruction_behind_bss : Refuses (in_code (codes ".bss 4\necall")) 4 AfterBss
  pub data_behind_empty_bss : Refuses (in_code (codes ".byte 0\n.bss 0\n.byte 0")) 5 AfterBss
  pub label_and_entry_behind_bss : ComesTo (codes ".segment 0 rx\n.bss 4\na:\n.entry a") (segment 0 5 [] 4 ∷ []) [] 4
  pub data_behind_bss_and_label : Refuses (codes ".segment 0 rx\n.bss 4\na:\n.entry a\n.byte 0") 5 AfterBss
  pub data_in_next_segment : Accepts (in_code (codes ".bss 4\n.segment 0x1000 r\n.byte 0"))
  -- at which multiple a statement stands
  pub instruction_at_one : Refuses (in_code (codes ".byte 0\necall")) 4 Misplaced
  pub instruction_at_two : Refuses (in_code (codes ".half 0\necall")) 4 Misplaced
  pub instruction_at_three : Refuses (in_code (codes ".ascii \"abc\"\necall")) 4 Misplaced
  pub instruction_at_four : Makes (codes ".word 0\necall") (words (0 ∷ 115 ∷ []))
  pub cap_at_eight : Refuses (in_code (codes ".quad 0\n.cap a, 0, 0, 0")) 4 Misplaced
  pub cap_at_four : Refuses (in_code (codes "ecall\n.cap a, 0, 0, 0")) 4 Misplaced
  pub cap_at_one : Refuses (in_code (codes ".byte 0\n.cap a, 0, 0, 0")) 4 Misplaced
  pub cap_at_sixteen : Accepts (in_code (codes ".space 16\n.cap a, 0, 0, 0"))
  pub odd_data : Makes (codes ".byte 1\n.half 2\n.word 3\n.quad 4") (1 ∷ 2 ∷ 0 ∷ 3 ∷ 0 ∷ 0 ∷ 0 ∷ 4 ∷ zeros 7)
  -- the region's end
  pub whole_region : AcceptsPlaces (codes ".segment 0 rx\n.space 1048576")
  pub over_region : RefusesPlaces (codes ".segment 0 rx\n.space 1048577") 2 TooLarge
  pub far_over_region : RefusesPlaces (codes ".segment 0 rx\n.space 18446744073709551615") 2 TooLarge
  pub bss_to_the_end : Accepts (in_code (codes ".byte 0\n.bss 1048575"))
  pub bss_over_the_end : Refuses (in_code (codes ".byte 0\n.bss 1048576")) 4 TooLarge
  pub last_page : AcceptsPlaces (codes ".segment 0xff000 rx\n.space 4080\n.cap a, 0, 0, 0\n.space 0\na:")
  pub cap_past_the_end : RefusesPlaces (codes ".segment 0 rx\n.space 1048572\necall\n.cap a, 0, 0, 0") 4 TooLarge
  pub instruction_to_the_end : AcceptsPlaces (codes ".segment 0 rx\n.space 1048572\necall")
  pub instruction_behind_the_end : RefusesPlaces (codes ".segment 0 rx\n.space 1048576\necall") 3 TooLarge
  pub quad_to_the_end : AcceptsPlaces (codes ".segment 0 rx\n.space 1048568\n.quad 0")
  pub quad_over_the_end : RefusesPlaces (codes ".segment 0 rx\n.space 1048569\n.quad 0") 3 TooLarge
  pub second_number_over_the_end : RefusesPlaces (codes ".segment 0 rx\n.space 1048575\n.byte 0, 0") 3 TooLarge
  pub string_to_the_end : AcceptsPlaces (codes ".segment 0 rx\n.space 1048574\n.ascii \"\\n\\n\"")
  pub string_over_the_end : RefusesPlaces (codes ".segment 0 rx\n.space 1048574\n.ascii \"abc\"") 3 TooLarge
  pub align_to_the_end : AcceptsPlaces (codes ".segment 0 rx\n.space 1048575\n.align 4096\na:")
  pub behind_align_to_the_end : RefusesPlaces (codes ".segment 0 rx\n.space 1048575\n.align 2\n.byte 0") 4 TooLarge
  -- a segment has bytes
  pub nothing_in_segment : Refuses (codes ".segment 0 rx") 1 Empty
  pub label_in_segment : Refuses (codes "\n.segment 0 rx\n.entry a\na:") 2 Empty
  pub no_bytes_in_segment : Refuses (codes ".segment 0 rx\n.ascii \"\"\n.space 0\n.bss 0") 1 Empty
  pub align_in_segment : Refuses (codes ".segment 0 rx\n.align 4096") 1 Empty
  pub refused_align_in_segment : Refuses (codes ".segment 0 rx\n.align 3") 1 Empty
  pub refused_align_and_a_byte : Refuses (codes ".segment 0 rx\n.align 3\n.byte 0") 2 BadAlign
  pub refused_byte_counts : Refuses (codes ".segment 0 rx\n.bss 0\n.byte 0") 3 AfterBss
  pub refused_bss_counts : Refuses (codes ".segment 0 rx\n.bss 0\n.bss 1") 3 AfterBss
  pub refused_instruction_counts : Refuses (codes ".segment 0 rx\n.bss 0\necall") 3 AfterBss
  pub refused_cap_counts : Refuses (codes ".segment 0 rx\n.bss 0\n.cap a, 0, 0, 0") 3 AfterBss
  pub refused_long_bss_counts : Refuses (codes ".segment 0 rx\n.bss 1048577") 2 TooLarge
  pub byte_of_bss : ComesTo (in_code (codes ".bss 1")) (segment 0 5 [] 1 ∷ []) [] 0
  pub nothing_in_second_segment : Refuses (in_code (codes ".byte 0\n.segment 0x1000 r\n.segment 0x2000 r\n.byte 0")) 4 Empty
  pub nothing_in_last_segment : Refuses (in_code (codes ".byte 0\n.segment 0x1000 r\nb:")) 4 Empty
  pub entry_in_segment : Refuses (codes ".segment 0 rx\n.entry a\n.segment 0x1000 rx\na: .byte 0") 1 Empty
  -- again
  pub label_again : Refuses (in_code (codes ".byte 0\na:")) 4 Twice
  pub label_again_behind_another : Refuses (in_code (codes ".byte 0\nb:\na:")) 5 Twice
  pub label_again_on_line : Refuses (in_code (codes "a: .byte 0")) 3 Twice
  pub label_again_in_other_segment : Refuses (in_code (codes ".byte 0\nb:\n.segment 0x1000 r\nb: .byte 0")) 6 Twice
  pub other_labels : Accepts (in_code (codes "A: aa: a1: _a: .byte 0"))
  pub entry_again : Refuses (in_code (codes ".byte 0\n.entry a")) 4 Twice
  pub entry_of_other_label : Refuses (in_code (codes ".byte 0\nb:\n.entry b\n.entry b")) 5 Twice
  pub entry_of_no_label : Refuses (in_code (codes ".byte 0\n.entry b")) 4 Twice

-- Of faults on one line the first by the order of the reasons counts, whatever their places on it, and of faults on two lines that on the
-- first line. A pass is done before the next one.
pub record FaultsAreOrdered : Type 0 where
  -- two on one line
  pub no_segment_and_bad_segment : Refuses (codes "a: .segment 1 rx\n.byte 0") 1 NoSegment
  pub no_segment_and_bad_align : Refuses (codes ".align 3") 1 NoSegment
  pub no_segment_and_empty : Refuses (codes "a: .segment 0 rx") 1 NoSegment
  pub no_segment_and_twice : Refuses (codes "a: a:") 1 NoSegment
  pub no_segment_and_entry_again : Refuses (codes ".entry a\nb: .entry a") 2 NoSegment
  pub bad_segment_and_too_many : Refuses (fifteen ++ codes ".bss 1\n.segment 0xe000 r\n.bss 1") 32 BadSegment
  pub bad_segment_and_empty : Refuses (codes ".segment 1 rx") 1 BadSegment
  pub bad_segment_and_twice : Refuses (in_code (codes ".byte 0\na: .segment 1 r\n.byte 0")) 4 BadSegment
  pub too_many_and_empty : Refuses (fifteen ++ codes ".bss 1\n.segment 0xf000 r") 32 TooMany
  pub too_many_and_twice : Refuses (fifteen ++ codes ".bss 1\na: .segment 0xf000 r\n.bss 1") 32 TooMany
  pub bad_align_and_after_bss : Refuses (in_code (codes ".bss 1\n.align 3")) 4 BadAlign
  pub bad_align_and_twice : Refuses (in_code (codes ".byte 0\na: .align 3")) 4 BadAlign
  pub after_bss_and_misplaced : Refuses (in_code (codes ".bss 1\necall")) 4 AfterBss
  pub after_bss_and_too_large : Refuses (codes ".segment 0xff000 rx\n.bss 4096\n.byte 0") 3 AfterBss
  pub after_bss_and_twice : Refuses (in_code (codes ".bss 1\na: .byte 0")) 4 AfterBss
  pub misplaced_and_too_large : RefusesPlaces (codes ".segment 0 rx\n.space 1048574\necall") 3 Misplaced
  pub misplaced_and_twice : Refuses (in_code (codes ".byte 0\na: ecall")) 4 Misplaced
  pub too_large_and_twice : Refuses (in_code (codes ".byte 0\na: .bss 1048576")) 4 TooLarge
  pub empty_and_twice : Refuses (in_code (codes ".byte 0\na: .segment 0x1000 r")) 4 Empty
  pub misplaced_and_unknown : Refuses (in_code (codes ".byte 0\nbeq x0, x0, z")) 4 Misplaced
  pub twice_and_out_of_range : Refuses (in_code (codes "a: .byte 256")) 3 Twice
  pub unknown_behind_out_of_range : Refuses (in_code (codes ".byte 256, z")) 3 UnknownLabel
  pub unknown_before_out_of_range : Refuses (in_code (codes ".byte z, 256")) 3 UnknownLabel
  pub unknown_and_bad_cap : Refuses (in_code (codes ".cap z, -1, 0, 0")) 3 UnknownLabel
  -- two on two lines
  pub align_before_instruction : Refuses (in_code (codes ".byte 0\n.align 3\necall")) 4 BadAlign
  pub instruction_before_align : Refuses (in_code (codes ".byte 0\necall\n.align 3")) 4 Misplaced
  pub twice_before_align : Refuses (in_code (codes ".byte 0\na:\n.align 3")) 4 Twice
  pub align_before_twice : Refuses (in_code (codes ".byte 0\n.align 3\na:")) 4 BadAlign
  pub empty_before_segment : Refuses (codes ".segment 0 rx\n.segment 1 r\n.byte 0") 1 Empty
  pub empty_before_align : Refuses (in_code (codes ".byte 0\n.segment 0x1000 r\n.align 3")) 4 Empty
  pub empty_before_twice : Refuses (in_code (codes ".byte 0\n.segment 0x1000 r\na:")) 4 Empty
  pub align_before_empty : Refuses (in_code (codes ".byte 0\n.align 3\n.segment 0x1000 r")) 4 BadAlign
  pub twice_before_empty : Refuses (in_code (codes ".byte 0\na:\n.segment 0x1000 r")) 4 Twice
  pub empty_before_empty : Refuses (codes ".segment 0 rx\n.segment 0x1000 rx") 1 Empty
  pub empty_before_too_many : Refuses (fifteen ++ codes ".segment 0xf000 r\n.bss 1") 30 Empty
  pub range_before_label : Refuses (in_code (codes ".byte 256\n.byte z")) 3 OutOfRange
  pub label_before_range : Refuses (in_code (codes ".byte z\n.byte 256")) 3 UnknownLabel
  pub cap_before_range : Refuses (in_code (codes ".cap a, -1, 0, 0\n.byte 256")) 3 BadCap
  pub range_before_cap : Refuses (in_code (codes ".quad 0, 0\naddi x1, x0, 2048\n.align 16\n.cap a, -1, 0, 0")) 4 OutOfRange
  -- of two passes
  pub text_on_later_line : Refuses (codes "ecall\n.align 3\n;") 3 BadText
  pub statement_on_later_line : Refuses (codes ".segment 0 rx\n.bss -1") 2 BadStatement
  pub align_behind_range : Refuses (in_code (codes ".byte 256\n.align 3")) 4 BadAlign
  pub twice_behind_label : Refuses (in_code (codes ".byte z\na:")) 4 Twice
  pub empty_behind_cap : Refuses (in_code (codes ".cap a, -1, 0, 0\n.segment 0x1000 r")) 4 Empty
  pub range_without_entry : Refuses (codes ".segment 0 rx\n.byte 256") 2 OutOfRange
  pub cap_without_entry : Refuses (codes ".segment 0 rx\na: .cap a, -1, 0, 0") 2 BadCap
  pub entry_of_unknown_label : Refuses (codes ".entry a") 1 UnknownLabel

-- Faults of values and of the entry, and values at their limits.
pub record ValuesAreRefused : Type 0 where
  -- a label that no line defines
  pub unknown_entry : Refuses (codes ".segment 0 rx\n.entry a\n.byte 0") 2 UnknownLabel
  pub unknown_in_data : Refuses (in_code (codes ".quad 0, z")) 3 UnknownLabel
  pub unknown_in_instruction : Refuses (in_code (codes "addi x1, x0, z")) 3 UnknownLabel
  pub unknown_in_branch : Refuses (in_code (codes "beq x0, x0, z")) 3 UnknownLabel
  pub unknown_in_cap : Refuses (in_code (codes ".cap z, 0, 0, 0")) 3 UnknownLabel
  pub other_case : Refuses (in_code (codes ".byte A")) 3 UnknownLabel
  pub longer_name : Refuses (in_code (codes ".byte aa")) 3 UnknownLabel
  pub shorter_name : Refuses (in_code (codes "bc: .byte b")) 3 UnknownLabel
  -- data of each size, with a sign and without
  pub bytes : Makes (codes ".byte -128, 255, -1, 127") (128 ∷ 255 ∷ 255 ∷ 127 ∷ [])
  pub byte_below : Refuses (in_code (codes ".byte -129")) 3 OutOfRange
  pub byte_above : Refuses (in_code (codes ".byte 256")) 3 OutOfRange
  pub halves : Makes (codes ".half -32768, 65535, 258") (0 ∷ 128 ∷ 255 ∷ 255 ∷ 2 ∷ 1 ∷ [])
  pub half_below : Refuses (in_code (codes ".half -32769")) 3 OutOfRange
  pub half_above : Refuses (in_code (codes ".half 65536")) 3 OutOfRange
  pub four_bytes : Makes (codes ".word -2147483648, 4294967295, 0x01020304") (0 ∷ 0 ∷ 0 ∷ 128 ∷ 255 ∷ 255 ∷ 255 ∷ 255 ∷ 4 ∷ 3 ∷ 2 ∷ 1 ∷ [])
  pub word_below : Refuses (in_code (codes ".word -2147483649")) 3 OutOfRange
  pub word_above : Refuses (in_code (codes ".word 4294967296")) 3 OutOfRange
  pub quads : Makes (codes ".quad -9223372036854775808, 18446744073709551615, 0x0102030405060708, -2") (zeros 7 ++ (128 ∷ replicate 8 255 ++ (8 ∷ 7 ∷ 6 ∷ 5 ∷ 4 ∷ 3 ∷ 2 ∷ 1 ∷ 254 ∷ replicate 7 255)))
  pub second_number : Refuses (in_code (codes ".byte 0\n.byte 0, 0, 256")) 4 OutOfRange
  -- labels in data
  pub label_to_a_byte : ComesTo (in_code (codes ".byte b\n.bss 254\nb:")) (segment 0 5 (255 ∷ []) 254 ∷ []) [] 0
  pub label_over_a_byte : Refuses (in_code (codes ".byte b\n.bss 255\nb:")) 3 OutOfRange
  pub label_over_a_later_byte : Refuses (in_code (codes ".byte 0\n.byte b\n.bss 254\nb:")) 4 OutOfRange
  pub label_to_a_half : ComesTo (in_code (codes ".half b\n.bss 65533\nb:")) (segment 0 5 (255 ∷ 255 ∷ []) 65533 ∷ []) [] 0
  pub label_over_a_half : Refuses (in_code (codes ".half b\n.bss 65534\nb:")) 3 OutOfRange
  pub label_at_the_end : ComesTo (in_code (codes ".word b\n.bss 1048572\nb:")) (segment 0 5 (0 ∷ 0 ∷ 16 ∷ 0 ∷ []) 1048572 ∷ []) [] 0
  -- immediates with a sign
  pub immediates : Makes (codes "addi x1, x0, -2048\naddi x1, x0, 2047\naddiw x1, x0, -1\ncincoffsetimm c1, c2, -2048") (words (0x80000093 ∷ 0x7ff00093 ∷ 0xfff0009b ∷ 0x800110db ∷ []))
  pub immediate_below : Refuses (in_code (codes "addi x1, x0, -2049")) 3 OutOfRange
  pub immediate_above : Refuses (in_code (codes "addi x1, x0, 2048")) 3 OutOfRange
  pub narrow_immediate_above : Refuses (in_code (codes "addiw x1, x0, 2048")) 3 OutOfRange
  pub offset_immediate_above : Refuses (in_code (codes "cincoffsetimm c1, c2, 2048")) 3 OutOfRange
  pub loads : Makes (codes "lb x1, -2048(x2)\nclc c1, 2047(c2)") (words (0x80010083 ∷ 0x7ff1208f ∷ []))
  pub load_below : Refuses (in_code (codes "lb x1, -2049(x2)")) 3 OutOfRange
  pub load_above : Refuses (in_code (codes "clc c1, 2048(c2)")) 3 OutOfRange
  pub stores : Makes (codes "sd x1, -2048(x2)\nsd x1, 2047(x2)\ncsc c1, 0(c2)") (words (0x80113023 ∷ 0x7e113fa3 ∷ 0x00114023 ∷ []))
  pub store_below : Refuses (in_code (codes "sd x1, -2049(x2)")) 3 OutOfRange
  pub store_above : Refuses (in_code (codes "sd x1, 2048(x2)")) 3 OutOfRange
  pub register_jumps : Makes (codes "cjalr c0, c1, -2048\ncjalr c0, c1, 2047") (words (0x80008067 ∷ 0x7ff08067 ∷ []))
  pub register_jump_below : Refuses (in_code (codes "cjalr c0, c1, -2049")) 3 OutOfRange
  pub register_jump_above : Refuses (in_code (codes "cjalr c0, c1, 2048")) 3 OutOfRange
  -- and without one
  pub lengths : Makes (codes "csetboundsimm c1, c2, 0\ncsetboundsimm c1, c2, 4095") (words (0x000120db ∷ 0xfff120db ∷ []))
  pub length_below : Refuses (in_code (codes "csetboundsimm c1, c2, -1")) 3 OutOfRange
  pub length_above : Refuses (in_code (codes "csetboundsimm c1, c2, 4096")) 3 OutOfRange
  pub shifts : Makes (codes "slli x1, x2, 63\nsrai x1, x2, 63\nsrli x1, x2, 0") (words (0x03f11093 ∷ 0x43f15093 ∷ 0x00015093 ∷ []))
  pub shift_below : Refuses (in_code (codes "slli x1, x2, -1")) 3 OutOfRange
  pub shift_above : Refuses (in_code (codes "srai x1, x2, 64")) 3 OutOfRange
  pub narrow_shifts : Makes (codes "slliw x1, x2, 31\nsraiw x1, x2, 31\nsrliw x1, x2, 0") (words (0x01f1109b ∷ 0x41f1509b ∷ 0x0001509b ∷ []))
  pub narrow_shift_below : Refuses (in_code (codes "srliw x1, x2, -1")) 3 OutOfRange
  pub narrow_shift_above : Refuses (in_code (codes "sraiw x1, x2, 32")) 3 OutOfRange
  pub uppers : Makes (codes "lui x1, 0\nlui x1, 1048575\nauipcc c1, 1048575") (words (0x000000b7 ∷ 0xfffff0b7 ∷ 0xfffff097 ∷ []))
  pub upper_below : Refuses (in_code (codes "lui x1, -1")) 3 OutOfRange
  pub upper_above : Refuses (in_code (codes "lui x1, 1048576")) 3 OutOfRange
  pub code_upper_below : Refuses (in_code (codes "auipcc c1, -1")) 3 OutOfRange
  pub code_upper_above : Refuses (in_code (codes "auipcc c1, 1048576")) 3 OutOfRange
  -- distances
  pub branches : Makes (codes "beq x0, x0, -4096\nbeq x0, x0, 4094\nbgeu x1, x2, 2\nbeq x0, x0, 0") (words (0x80000063 ∷ 0x7e000fe3 ∷ 0x0020f163 ∷ 0x00000063 ∷ []))
  pub branch_below : Refuses (in_code (codes "beq x0, x0, -4098")) 3 OutOfRange
  pub branch_above : Refuses (in_code (codes "beq x0, x0, 4096")) 3 OutOfRange
  pub odd_branch : Refuses (in_code (codes "beq x0, x0, 1")) 3 OutOfRange
  pub odd_branch_back : Refuses (in_code (codes "beq x0, x0, -1")) 3 OutOfRange
  pub odd_branch_at_limit : Refuses (in_code (codes "beq x0, x0, 4095")) 3 OutOfRange
  pub jumps : Makes (codes "cjal c0, -1048576\ncjal c1, 1048574") (words (0x8000006f ∷ 0x7ffff0ef ∷ []))
  pub jump_below : Refuses (in_code (codes "cjal c0, -1048578")) 3 OutOfRange
  pub jump_above : Refuses (in_code (codes "cjal c0, 1048576")) 3 OutOfRange
  pub odd_jump : Refuses (in_code (codes "cjal c0, 3")) 3 OutOfRange
  pub odd_jump_back : Refuses (in_code (codes "cjal c0, -1")) 3 OutOfRange
  -- distances to labels
  pub branch_to_itself : Makes (codes "beq x0, x0, a") (words (0x00000063 ∷ []))
  pub branch_back : Makes (codes ".word 0\nbeq x0, x0, a") (words (0 ∷ 0xfe000ee3 ∷ []))
  pub branch_over_a_half : Makes (codes "beq x0, x0, b\n.half 1\nb:") (0x63 ∷ 3 ∷ 0 ∷ 0 ∷ 1 ∷ 0 ∷ [])
  pub branch_over_a_byte : Refuses (in_code (codes "beq x0, x0, b\n.byte 0\nb:")) 3 OutOfRange
  pub branch_far : ComesTo (in_code (codes "beq x0, x0, b\n.bss 4090\nb:")) (segment 0 5 (words (0x7e000fe3 ∷ [])) 4090 ∷ []) [] 0
  pub branch_too_far : Refuses (in_code (codes "beq x0, x0, b\n.bss 4092\nb:")) 3 OutOfRange
  pub branch_over_space : Accepts (in_code (codes "beq x0, x0, b\n.space 4090\nb:"))
  pub branch_far_back : ComesTo (in_code (codes "ecall\n.segment 0x1000 rx\nbeq x0, x0, a")) (segment 0 5 (words (115 ∷ [])) 0 ∷ segment 4096 5 (words (0x80000063 ∷ [])) 0 ∷ []) [] 0
  pub branch_too_far_back : Refuses (in_code (codes "ecall\n.segment 0x1000 rx\n.word 0\nbeq x0, x0, a")) 6 OutOfRange
  pub jump_far : ComesTo (in_code (codes "cjal c0, b\n.bss 1048570\nb:")) (segment 0 5 (words (0x7ffff06f ∷ [])) 1048570 ∷ []) [] 0
  pub jump_too_far : Refuses (in_code (codes "cjal c0, b\n.bss 1048572\nb:")) 3 OutOfRange
  pub jump_back : ComesTo (in_code (codes "ecall\n.segment 0x1000 rx\necall\ncjal c1, a")) (segment 0 5 (words (115 ∷ [])) 0 ∷ segment 4096 5 (words (115 ∷ 0xffdfe0ef ∷ [])) 0 ∷ []) [] 0
  -- a label in another instruction is its offset
  pub label_immediates : Makes (codes "ecall\naddi x1, x0, b\nld x1, b(c2)\nsd x1, b(c2)\ncjalr c0, c1, b\nlui x1, b\nauipcc c1, b\nb:") (words (115 ∷ 0x01c00093 ∷ 0x01c13083 ∷ 0x00113e23 ∷ 0x01c08067 ∷ 0x0001c0b7 ∷ 0x0001c097 ∷ []))
  pub label_to_an_immediate : Accepts (in_code (codes "addi x1, x0, b\n.bss 2043\nb:"))
  pub label_over_an_immediate : Refuses (in_code (codes "addi x1, x0, b\n.bss 2044\nb:")) 3 OutOfRange
  pub label_over_a_later_immediate : Refuses (in_code (codes "ecall\naddi x1, x0, b\n.bss 2040\nb:")) 4 OutOfRange
  pub label_to_a_length : Accepts (in_code (codes "csetboundsimm c1, c2, b\n.bss 4091\nb:"))
  pub label_over_a_length : Refuses (in_code (codes "csetboundsimm c1, c2, b\n.bss 4092\nb:")) 3 OutOfRange
  pub label_to_an_upper : Accepts (in_code (codes "lui x1, b\n.bss 1048571\nb:"))
  pub label_over_an_upper : Refuses (in_code (codes "lui x1, b\n.bss 1048572\nb:")) 3 OutOfRange
  -- instructions without a value
  pub other_instructions : Makes (codes "add x1, x2, x31\ncmove c1, c2\nfence\nebreak\necall") (words (0x01f100b3 ∷ 0xfea100db ∷ 0x0ff0000f ∷ 0x00100073 ∷ 0x00000073 ∷ []))
  -- capabilities
  pub cap_of_nothing : ComesTo (in_code (codes ".cap a, 0, 0, 0")) (segment 0 5 (zeros 16) 0 ∷ []) (relocation 0 0 0 0 0 ∷ []) 0
  pub cap_of_negative_zeros : ComesTo (in_code (codes ".cap a, -0, -0, -0")) (segment 0 5 (zeros 16) 0 ∷ []) (relocation 0 0 0 0 0 ∷ []) 0
  pub cap_of_region : ComesTo (in_code (codes ".cap a, 1048576, 1048576, 0x3e")) (segment 0 5 (zeros 16) 0 ∷ []) (relocation 0 0 1048576 1048576 62 ∷ []) 0
  pub cap_with_negative_length : Refuses (in_code (codes ".cap a, -1, 0, 0")) 3 BadCap
  pub cap_with_negative_offset : Refuses (in_code (codes ".cap a, 0, -1, 0")) 3 BadCap
  pub cap_with_negative_permissions : Refuses (in_code (codes ".cap a, 0, 0, -1")) 3 BadCap
  pub cap_to_the_end : Accepts (in_code (codes ".cap b, 524288, 0, 0\n.segment 0x80000 rw\nb: .bss 1"))
  pub cap_over_the_end : Refuses (in_code (codes ".cap b, 1048576, 0, 0\n.segment 0x80000 rw\nb: .bss 1")) 3 BadCap
  pub cap_at_the_end : ComesTo (in_code (codes ".cap b, 0, 0, 0\n.segment 0xff000 rw\n.bss 4096\nb:")) (segment 0 5 (zeros 16) 0 ∷ segment 1044480 6 [] 4096 ∷ []) (relocation 0 1048576 0 0 0 ∷ []) 0
  pub cap_behind_the_end : Refuses (in_code (codes ".cap b, 1, 0, 0\n.segment 0xff000 rw\n.bss 4096\nb:")) 3 BadCap
  pub cap_of_a_page : Accepts (in_code (codes ".cap a, 4096, 0, 0"))
  pub cap_of_page_and_byte : Refuses (in_code (codes ".cap a, 4097, 0, 0")) 3 BadCap
  pub cap_of_page_and_eight : Accepts (in_code (codes ".cap a, 4104, 0, 0"))
  pub cap_of_page_from_odd_base : Refuses (in_code (codes ".cap b, 4096, 0, 0\n.byte 0\nb:")) 3 BadCap
  pub cap_below_a_page_from_odd_base : Accepts (in_code (codes ".cap b, 4095, 0, 0\n.byte 0\nb:"))
  pub cap_of_page_from_eight : Accepts (in_code (codes ".cap b, 4096, 0, 0\n.quad 0\nb:"))
  pub address_at_end_of_cap : Accepts (in_code (codes ".cap a, 4, 4, 0"))
  pub address_behind_cap : Refuses (in_code (codes ".cap a, 4, 5, 0")) 3 BadCap
  pub each_permission : Accepts (in_code (codes ".cap a, 0, 0, 62"))
  pub lowest_bit : Refuses (in_code (codes ".cap a, 0, 0, 1")) 3 BadCap
  pub next_bit : Refuses (in_code (codes ".cap a, 0, 0, 64")) 3 BadCap
  pub all_bits : Refuses (in_code (codes ".cap a, 0, 0, 63")) 3 BadCap
  pub greatest_numbers : Refuses (in_code (codes ".cap a, 18446744073709551615, 18446744073709551615, 18446744073709551615")) 3 BadCap
  -- the entry
  pub nothing : Refuses [] 0 NoEntry
  pub no_entry : Refuses (codes ".segment 0 rx\na: .byte 0") 0 NoEntry
  pub entry_on_read_page : Refuses (codes ".segment 0 r\n.entry a\na: .byte 0") 0 NoEntry
  pub entry_on_written_page : Refuses (codes ".segment 0 rw\n.entry a\na: .byte 0") 0 NoEntry
  pub entry_on_page_with_all_rights : ComesTo (codes ".segment 0 rwx\n.entry a\na: .byte 0") (segment 0 7 (0 ∷ []) 0 ∷ []) [] 0
  pub entry_at_one : Refuses (codes ".segment 0 rx\n.entry a\n.byte 0\na:") 0 NoEntry
  pub entry_at_two : Refuses (codes ".segment 0 rx\n.entry a\n.half 0\na: .half 0") 0 NoEntry
  pub entry_behind_bytes : ComesTo (codes ".segment 0 rx\n.entry a\n.word 0\na:") (segment 0 5 (zeros 4) 0 ∷ []) [] 4
  pub entry_at_last_place : ComesTo (codes ".segment 0 rx\n.entry a\n.bss 4092\na:") (segment 0 5 [] 4092 ∷ []) [] 4092
  pub entry_behind_page : Refuses (codes ".segment 0 rx\n.entry a\n.bss 4096\na:") 0 NoEntry
  pub entry_between_segments : Refuses (codes ".segment 0 rx\n.entry a\n.bss 4096\na:\n.segment 0x2000 rx\n.byte 0") 0 NoEntry
  pub entry_on_next_page : ComesTo (codes ".segment 0 r\n.entry a\n.bss 4096\na:\n.segment 0x1000 rx\n.bss 1") (segment 0 4 [] 4096 ∷ segment 4096 5 [] 1 ∷ []) [] 4096
  pub entry_on_second_segment : Refuses (codes ".segment 0 rx\n.byte 0\n.segment 0x1000 rw\n.entry a\na: .byte 0") 0 NoEntry
  pub entry_in_second_segment : ComesTo (codes ".segment 0 rw\n.bss 1\n.segment 0x1000 rx\n.word 0\n.entry a\na: .word 0") (segment 0 6 [] 1 ∷ segment 4096 5 (zeros 8) 0 ∷ []) [] 4100

-- What sources come to.
pub record ProgramsAreMade : Type 0 where
  pub escapes : Makes (codes ".ascii \"\\n\\t\\\\\\\"\\0a\\\\n\"\n.byte b\nb:") (10 ∷ 9 ∷ 92 ∷ 34 ∷ 0 ∷ 97 ∷ 92 ∷ 110 ∷ 9 ∷ [])
  pub bytes_of_string : Makes (codes ".ascii \"nt0\t #'\"") (110 ∷ 116 ∷ 48 ∷ 9 ∷ 32 ∷ 35 ∷ 39 ∷ [])
  pub strings : Makes (codes ".ascii \"\"\n.ascii \"ab\"\n.ascii \"\"\n.ascii \"c\"") (97 ∷ 98 ∷ 99 ∷ [])
  pub gaps : Makes (codes ".byte 1\n.align 1\n.align 2\n.byte 2\n.align 4\n.byte 3\n.align 8\n.align 8\n.byte 4\n.align 16") (1 ∷ 0 ∷ 2 ∷ 0 ∷ 3 ∷ 0 ∷ 0 ∷ 0 ∷ 4 ∷ zeros 7)
  pub gap_of_a_page : ComesTo (codes ".segment 0 rx\n.entry e\n.byte 1\n.align 4096\ne: ecall") (segment 0 5 (1 ∷ zeros 4095 ++ (115 ∷ zeros 3)) 0 ∷ []) [] 4096
  pub zeros_of_space : Makes (codes ".byte 1\n.space 3\n.byte 2\n.space 0\n.byte 3") (1 ∷ 0 ∷ 0 ∷ 0 ∷ 2 ∷ 3 ∷ [])
  pub place_behind_each : Makes (codes ".byte 1\n.half 1\n.word 1\n.quad 1\n.ascii \"ab\"\n.space 3\n.byte b, b\nb: .byte b") (1 ∷ 1 ∷ 0 ∷ 1 ∷ 0 ∷ 0 ∷ 0 ∷ 1 ∷ zeros 7 ++ (97 ∷ 98 ∷ 0 ∷ 0 ∷ 0 ∷ 22 ∷ 22 ∷ 22 ∷ []))
  pub place_behind_cap_and_instruction : ComesTo (in_code (codes ".cap b, 1, 1, 2\necall\n.byte b\nb:")) (segment 0 5 (zeros 16 ++ (115 ∷ 0 ∷ 0 ∷ 0 ∷ 21 ∷ [])) 0 ∷ []) (relocation 0 21 1 1 2 ∷ []) 0
  pub label_of_later_segment : ComesTo (in_code (codes ".quad b\n.segment 0x1000 r\n.byte 0\nb: .byte 1")) (segment 0 5 (1 ∷ 16 ∷ zeros 6) 0 ∷ segment 4096 4 (0 ∷ 1 ∷ []) 0 ∷ []) [] 0
  pub label_of_earlier_segment : ComesTo (in_code (codes ".byte 0\nb: .byte 1\n.segment 0x3000 rw\n.byte b")) (segment 0 5 (0 ∷ 1 ∷ []) 0 ∷ segment 12288 6 (1 ∷ []) 0 ∷ []) [] 0
  pub labels_behind_bss : ComesTo (in_code (codes ".half b, c\n.byte 7\n.bss 9\nb:\nc: .segment 0x1000 r\n.byte 0")) (segment 0 5 (14 ∷ 0 ∷ 14 ∷ 0 ∷ 7 ∷ []) 9 ∷ segment 4096 4 (0 ∷ []) 0 ∷ []) [] 0
  pub label_of_begun_segment : ComesTo (in_code (codes ".half b, c\nb: .segment 0x1000 r\nc: .byte 0")) (segment 0 5 (4 ∷ 0 ∷ 0 ∷ 16 ∷ []) 0 ∷ segment 4096 4 (0 ∷ []) 0 ∷ []) [] 0
  pub labels_of_one_place : Makes (codes "b: c: .byte a, b, c, d\nd: e:\nf: .byte e, f") (0 ∷ 0 ∷ 0 ∷ 4 ∷ 4 ∷ 4 ∷ [])
  pub entry_behind_label : ComesTo (codes ".segment 0 rx\n.word 0\na: .entry a\n.byte 7") (segment 0 5 (zeros 4 ++ (7 ∷ [])) 0 ∷ []) [] 4
  pub entry_before_label : ComesTo (codes "# code\n.entry e\n.segment 0x1000 rx # and its rights\n\n.word 7\ne:\tecall\r\n") (segment 4096 5 (7 ∷ 0 ∷ 0 ∷ 0 ∷ 115 ∷ 0 ∷ 0 ∷ 0 ∷ []) 0 ∷ []) [] 4100
  pub rights : ComesTo (codes ".segment 0 r\n.bss 1\n.segment 0x1000 rw\n.bss 2\n.segment 0x2000 rx\n.entry a\na: .bss 3\n.segment 0x3000 rwx\n.bss 4") (segment 0 4 [] 1 ∷ segment 4096 6 [] 2 ∷ segment 8192 5 [] 3 ∷ segment 12288 7 [] 4 ∷ []) [] 8192
  pub caps_of_segments : ComesTo (in_code (codes ".cap b, 8, 3, 4\n.cap a, 16, 0, 8\n.segment 0x2000 rw\nb: .cap a, 1, 1, 16")) (segment 0 5 (zeros 32) 0 ∷ segment 8192 6 (zeros 16) 0 ∷ []) (relocation 0 8192 8 3 4 ∷ relocation 16 0 16 0 8 ∷ relocation 8192 0 1 1 16 ∷ []) 0
  pub writer : ComesTo (codes ".segment 0 rx\n.entry start\nstart:\naddi x10, x0, 1\ncincoffsetimm c11, c2, msg\naddi x12, x0, 3\naddi x17, x0, 8\necall\naddi x10, x0, 0\naddi x17, x0, 1\necall\nmsg: .ascii \"hi\\n\"") (segment 0 5 (words (0x00100513 ∷ 0x020115db ∷ 0x00300613 ∷ 0x00800893 ∷ 0x00000073 ∷ 0x00000513 ∷ 0x00100893 ∷ 0x00000073 ∷ []) ++ (104 ∷ 105 ∷ 10 ∷ [])) 0 ∷ []) [] 0
  pub pointers : ComesTo (codes ".segment 0 rx\n.entry start\nstart:\nlui x5, 1\ncincoffset c8, c2, x5\naddi x17, x0, 2\necall\nbne x10, x0, parent\nloop: cincoffsetimm c11, c8, 16\naddi x10, x0, 1\naddi x12, x0, 1\naddi x17, x0, 8\necall\nclc c8, 0(c8)\ncgettag x6, c8\nbne x6, x0, loop\ncjal c0, end\nparent:\naddi x17, x0, 3\necall\nend:\naddi x10, x0, 0\naddi x17, x0, 1\necall\n.segment 0x1000 rw\n.cap b, 32, 0, 0x3c\n.byte 120\n.align 16\nb: .cap c, 32, 0, 0x3c\n.byte 121\n.align 16\nc: .quad 0, 0\n.byte 122") (segment 0 5 (words (0x000012b7 ∷ 0x2251045b ∷ 0x00200893 ∷ 0x00000073 ∷ 0x02051463 ∷ 0x010415db ∷ 0x00100513 ∷ 0x00100613 ∷ 0x00800893 ∷ 0x00000073 ∷ 0x0004240f ∷ 0xfe44035b ∷ 0xfe0312e3 ∷ 0x00c0006f ∷ 0x00300893 ∷ 0x00000073 ∷ 0x00000513 ∷ 0x00100893 ∷ 0x00000073 ∷ [])) 0 ∷ segment 4096 6 (zeros 16 ++ (120 ∷ zeros 31 ++ (121 ∷ zeros 31 ++ (122 ∷ [])))) 0 ∷ []) (relocation 4096 4128 32 0 60 ∷ relocation 4128 4160 32 0 60 ∷ []) 0

-- a file header with this entry and so many program headers
abbrev pub file_header : ℕ → ℕ → List ℕ
file_header entry count = joined
    ((127 ∷ 69 ∷ 76 ∷ 70 ∷ 2 ∷ 1 ∷ 1 ∷ zeros 9)
    ∷ (3 ∷ 0 ∷ 243 ∷ 0 ∷ 1 ∷ 0 ∷ 0 ∷ 0 ∷ [])
    ∷ quad entry
    ∷ (64 ∷ zeros 7)
    ∷ zeros 12
    ∷ (64 ∷ 0 ∷ 56 ∷ 0 ∷ count ∷ 0 ∷ [])
    ∷ zeros 6
    ∷ [])

-- the program header of a segment: flags, offset, vaddr, filesz, memsz
abbrev pub segment_header : ℕ → ℕ → ℕ → ℕ → ℕ → List ℕ
segment_header flags from start in_file in_memory =
    joined ((1 ∷ 0 ∷ 0 ∷ 0 ∷ []) ∷ word flags ∷ quad from ∷ quad start ∷ quad start ∷ quad in_file ∷ quad in_memory ∷ (0 ∷ 16 ∷ zeros 6) ∷ [])

-- that of a table: offset, filesz
abbrev pub table_header : ℕ → ℕ → List ℕ
table_header from in_file = joined ((1 ∷ 0 ∷ 0 ∷ 107 ∷ 4 ∷ 0 ∷ 0 ∷ 0 ∷ []) ∷ quad from ∷ zeros 16 ∷ quad in_file ∷ zeros 8 ∷ (8 ∷ zeros 7) ∷ [])

-- The files of sources.
pub record FilesAreMade : Type 0 where
  -- one instruction: each byte
  pub one_instruction : file_from (codes ".segment 0 rx\n.entry a\na: ecall") ≡ Ok (joined
      ((127 ∷ 69 ∷ 76 ∷ 70 ∷ 2 ∷ 1 ∷ 1 ∷ 0 ∷ 0 ∷ 0 ∷ 0 ∷ 0 ∷ 0 ∷ 0 ∷ 0 ∷ 0 ∷ [])
      ∷ (3 ∷ 0 ∷ 243 ∷ 0 ∷ 1 ∷ 0 ∷ 0 ∷ 0 ∷ [])
      ∷ (0 ∷ 0 ∷ 0 ∷ 0 ∷ 0 ∷ 0 ∷ 0 ∷ 0 ∷ [])
      ∷ (64 ∷ 0 ∷ 0 ∷ 0 ∷ 0 ∷ 0 ∷ 0 ∷ 0 ∷ [])
      ∷ (0 ∷ 0 ∷ 0 ∷ 0 ∷ 0 ∷ 0 ∷ 0 ∷ 0 ∷ [])
      ∷ (0 ∷ 0 ∷ 0 ∷ 0 ∷ 64 ∷ 0 ∷ 56 ∷ 0 ∷ 1 ∷ 0 ∷ 0 ∷ 0 ∷ 0 ∷ 0 ∷ 0 ∷ 0 ∷ [])
      ∷ (1 ∷ 0 ∷ 0 ∷ 0 ∷ 5 ∷ 0 ∷ 0 ∷ 0 ∷ [])
      ∷ (0 ∷ 16 ∷ 0 ∷ 0 ∷ 0 ∷ 0 ∷ 0 ∷ 0 ∷ [])
      ∷ (0 ∷ 0 ∷ 0 ∷ 0 ∷ 0 ∷ 0 ∷ 0 ∷ 0 ∷ [])
      ∷ (0 ∷ 0 ∷ 0 ∷ 0 ∷ 0 ∷ 0 ∷ 0 ∷ 0 ∷ [])
      ∷ (4 ∷ 0 ∷ 0 ∷ 0 ∷ 0 ∷ 0 ∷ 0 ∷ 0 ∷ [])
      ∷ (4 ∷ 0 ∷ 0 ∷ 0 ∷ 0 ∷ 0 ∷ 0 ∷ 0 ∷ [])
      ∷ (0 ∷ 16 ∷ 0 ∷ 0 ∷ 0 ∷ 0 ∷ 0 ∷ 0 ∷ [])
      ∷ zeros 3976
      ∷ (115 ∷ 0 ∷ 0 ∷ 0 ∷ [])
      ∷ []))
  -- two segments and a table, which begins at the next multiple of 8
  pub two_segments_and_table : file_from (codes ".segment 0 rx\n.entry go\n.byte 1\n.align 4\ngo: ecall\n.segment 0x2000 rw\n.ascii \"ab\"\n.align 16\np: .cap p, 16, 8, 0x3c\n.cap go, 8, 0, 2\n.byte 7\n.bss 100") ≡ Ok (joined
      (file_header 4 3
      ∷ segment_header 5 4096 0 8 8
      ∷ segment_header 6 8192 8192 49 149
      ∷ table_header 8248 80
      ∷ zeros 3864
      ∷ (1 ∷ 0 ∷ 0 ∷ 0 ∷ 115 ∷ 0 ∷ 0 ∷ 0 ∷ [])
      ∷ zeros 4088
      ∷ (97 ∷ 98 ∷ zeros 46)
      ∷ (7 ∷ zeros 7)
      ∷ quad 8208 ∷ quad 8208 ∷ quad 16 ∷ quad 8 ∷ quad 60
      ∷ quad 8224 ∷ quad 4 ∷ quad 8 ∷ quad 0 ∷ quad 2
      ∷ []))
  -- a first segment without bytes in the file, and a last one without
  pub first_in_memory_alone : file_from (in_code (codes ".bss 4\n.segment 0x1000 rw\n.byte 9")) ≡ Ok (joined (file_header 0 2 ∷ segment_header 5 4096 0 0 4 ∷ segment_header 6 4096 4096 1 1 ∷ zeros 3920 ∷ (9 ∷ []) ∷ []))
  pub last_in_memory_alone : file_from (in_code (codes ".byte 9\n.segment 0x1000 rw\n.bss 3")) ≡ Ok (joined (file_header 0 2 ∷ segment_header 5 4096 0 1 1 ∷ segment_header 6 8192 4096 0 3 ∷ zeros 3920 ∷ (9 ∷ zeros 4095) ∷ []))
  pub in_memory_alone : file_from (in_code (codes ".bss 5000")) ≡ Ok (joined (file_header 0 1 ∷ segment_header 5 4096 0 0 5000 ∷ zeros 3976 ∷ []))
  pub table_behind_empty_part : file_from (in_code (codes ".cap a, 0, 0, 0\n.segment 0x1000 rw\n.bss 3")) ≡ Ok (joined (file_header 0 3 ∷ segment_header 5 4096 0 16 16 ∷ segment_header 6 8192 4096 0 3 ∷ table_header 8192 40 ∷ zeros 3864 ∷ zeros 4096 ∷ zeros 40 ∷ []))
  -- a segment of a whole page needs no zeros behind it
  pub whole_page : headers_from (in_code (codes ".space 4096\n.segment 0x1000 r\n.byte 9")) ≡ header 1 5 4096 0 4096 4096 ∷ header 1 4 8192 4096 1 1 ∷ []
  pub page_and_a_byte : headers_from (in_code (codes ".space 4097\n.segment 0x2000 r\n.byte 9")) ≡ header 1 5 4096 0 4097 4097 ∷ header 1 4 12288 8192 1 1 ∷ []
  -- places of tables behind parts of several lengths
  pub table_behind_sixteen : headers_from (in_code (codes ".cap a, 0, 0, 0")) ≡ header 1 5 4096 0 16 16 ∷ header 0x6b000001 4 4112 0 40 0 ∷ []
  pub table_behind_seventeen : headers_from (in_code (codes ".cap a, 0, 0, 0\n.byte 0")) ≡ header 1 5 4096 0 17 17 ∷ header 0x6b000001 4 4120 0 40 0 ∷ []
  pub table_behind_twenty_four : headers_from (in_code (codes ".cap a, 0, 0, 0\n.quad 0\n.bss 9")) ≡ header 1 5 4096 0 24 33 ∷ header 0x6b000001 4 4120 0 40 0 ∷ []
  -- a program of 74 instructions, with room for 512 bytes
  pub room_in_memory : headers_from (codes ".segment 0 rx\n.entry start\nstart:\nlui x5, 1\ncincoffset c8, c2, x5\naddi x17, x0, 6\necall\necall\naddi x17, x0, 2\necall\nbeq x10, x0, producer\naddi x17, x0, 2\necall\nbeq x10, x0, filter\naddi x17, x0, 9\naddi x10, x0, 2\necall\naddi x10, x0, 3\necall\naddi x10, x0, 5\necall\naddi x18, x0, 4\naddi x19, x0, 1\naddi x20, x0, 0\ncjal c1, pump\naddi x17, x0, 3\necall\naddi x17, x0, 3\necall\ncjal c0, finish\nproducer: addi x17, x0, 9\naddi x10, x0, 2\necall\naddi x10, x0, 4\necall\naddi x10, x0, 5\necall\naddi x18, x0, 0\naddi x19, x0, 3\naddi x20, x0, 0\ncjal c1, pump\ncjal c0, finish\nfilter: addi x17, x0, 9\naddi x10, x0, 3\necall\naddi x10, x0, 4\necall\naddi x18, x0, 2\naddi x19, x0, 5\naddi x20, x0, 32\ncjal c1, pump\nfinish:\naddi x10, x0, 0\naddi x17, x0, 1\necall\npump: addi x10, x18, 0\ncmove c11, c8\naddi x12, x0, 512\naddi x17, x0, 7\necall\nbeq x10, x0, back\naddi x21, x10, 0\nbeq x20, x0, send\naddi x22, x21, 0\ncmove c9, c8\neach: lbu x6, 0(c9)\nxor x6, x6, x20\nsb x6, 0(c9)\ncincoffsetimm c9, c9, 1\naddi x22, x22, -1\nbne x22, x0, each\nsend: addi x10, x19, 0\ncmove c11, c8\naddi x12, x21, 0\naddi x17, x0, 8\necall\ncjal c0, pump\nback: cjalr c0, c1, 0\n.segment 0x1000 rw\n.bss 512") ≡ header 1 5 4096 0 296 296 ∷ header 1 6 8192 4096 0 512 ∷ []
  -- sixteen program headers
  pub sixteen_headers : file_from (fifteen ++ codes ".cap a, 1, 0, 4") ≡ Ok (joined
      (file_header 0 16
      ∷ segment_header 5 4096 0 0 1
      ∷ segment_header 4 4096 4096 0 1
      ∷ segment_header 4 4096 8192 0 1
      ∷ segment_header 4 4096 12288 0 1
      ∷ segment_header 4 4096 16384 0 1
      ∷ segment_header 4 4096 20480 0 1
      ∷ segment_header 4 4096 24576 0 1
      ∷ segment_header 4 4096 28672 0 1
      ∷ segment_header 4 4096 32768 0 1
      ∷ segment_header 4 4096 36864 0 1
      ∷ segment_header 4 4096 40960 0 1
      ∷ segment_header 4 4096 45056 0 1
      ∷ segment_header 4 4096 49152 0 1
      ∷ segment_header 4 4096 53248 0 1
      ∷ segment_header 4 4096 57344 16 16
      ∷ table_header 4112 40
      ∷ zeros 3136
      ∷ zeros 16
      ∷ quad 57344 ∷ quad 0 ∷ quad 1 ∷ quad 0 ∷ quad 4
      ∷ []))

pub record WorkedSourcesHold : Type 0 where
  pub places : PlacesAreRefused
  pub orders : FaultsAreOrdered
  pub values : ValuesAreRefused
  pub programs : ProgramsAreMade
  pub files : FilesAreMade
