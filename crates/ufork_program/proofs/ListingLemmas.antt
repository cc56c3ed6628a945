-- The lines of the words of a file, one after another.
use Rattle.std.proofs.Common.{◌≡◌, ◌≢◌, ◌∙◌, refl, ap, ℕ, zero, suc, ◌+◌, ◌-◌, ◌*◌, ◌/◌, ◌%◌, ◌<◌, ◌≤◌, List, [], ◌∷◌, ◌++◌, length, take, drop, get_or, map, All, Result, Ok, Err, Some, slice_get, arith}
use Rattle.std.specs.Prelude.{flat_map}
use Rattle.std.proofs.lemmas.List.{drop_more, drop_all}
use Rattle.std.proofs.lemmas.List.Elements.{All-cons, All-nil}
use Rattle.byteorder.specs.Endian.{little_number}
use Rattle.outside_io.specs.States.{SinkState, PrintsText}
use Rattle.outside_io.specs.Parts.{Part, out_part, console, Prints}
use Rattle.outside_io.proofs.PartLemmas.{Prints-out}
use Rattle.cap_format.specs.Numbers.{file_header_bytes, program_header_bytes}
use Rattle.cap_format.specs.declared.image.ProgramHeader.{ProgramHeader}
use Rattle.cap_format.specs.FileNumbers.{u32_at}
use Rattle.cap_format.specs.Image.{IsImage, header_count, end_of}
use Rattle.cap_format.specs.ImageLaws.{AreSegmentsBehind}
use Rattle.elf_loader.specs.declared.image.Segment.{Segment}
use Rattle.elf_loader.specs.declared.image.Image.{Image}
use Rattle.elf_loader.specs.Loaded.{segment_of}
use Rattle.elf_loader.proofs.LittleNumbers.{from-place, little-32}
use Rattle.trace_tools.specs.Statements.{instr_line}
use Rattle.ufork_program.specs.Tools.{HasWords, word_parts, segment_parts, summary_of}

-- a line that is printed on the output is one part
pub printed-line : {T E : Type 0} (text : List ℕ) (old new err : SinkState) (result : Result T E) → text ≢ [] → PrintsText text old new result
    → Prints (out_part text ∷ []) (console old err) (console new err) result
printed-line text old new err (Ok x) some prints = Prints-out text old new err (Ok x) tt prints
printed-line text old new err (Err x) some prints = Prints-out text old new err (Err x) some prints

-- the line of a word has bytes
pub line-some : (offset word : ℕ) → instr_line offset word ≢ []
line-some offset word is = cc

-- the first of some words, and the others
words-next : (file : List ℕ) (place offset count : ℕ) → 0 < count
    → word_parts file place offset count ≡ out_part (instr_line offset (u32_at file place)) ∷ word_parts file (place + 4) (offset + 4) (count - 1)
words-next file place offset zero some = absurd (omega arith)
words-next file place offset (suc count) some =
    let left : count ≡ suc count - 1 = omega arith in
    ap (λ n. out_part (instr_line offset (u32_at file place)) ∷ word_parts file (place + 4) (offset + 4) n) left

-- the next of the words that are left behind so many
pub words-left : (file : List ℕ) (place offset count at : ℕ) → at < count
    → word_parts file (place + 4 * at) (offset + 4 * at) (count - at)
    ≡ out_part (instr_line (offset + 4 * at) (u32_at file (place + 4 * at))) ∷ word_parts file (place + 4 * (at + 1)) (offset + 4 * (at + 1)) (count - (at + 1))
words-left file place offset count at below =
    let next : place + 4 * (at + 1) ≡ place + 4 * at + 4 = omega arith in
    let further : offset + 4 * (at + 1) ≡ offset + 4 * at + 4 = omega arith in
    let fewer : count - (at + 1) ≡ count - at - 1 = omega arith in
    rw (next, further, fewer) (words-next file (place + 4 * at) (offset + 4 * at) (count - at) (omega arith))

-- none is left behind all of them
pub words-over : (file : List ℕ) (place offset count at : ℕ) → count ≤ at → word_parts file place offset (count - at) ≡ []
words-over file place offset count at over = let none : count - at ≡ 0 = omega arith in ap (word_parts file place offset) none

-- a word that was read is the one that stands there
pub word-read : (file : List ℕ) (place word : ℕ) → word ≡ little_number 4 (take (length file - place) (drop place file)) → word ≡ u32_at file place
unfolding u32_at
word-read file place word is = is ∙ ap (little_number 4) (from-place place file) ∙ little-32 (drop place file)

-- an image isn't empty
pub image-some : (file : List ℕ) → ((file : List ℕ) → IsImage file → file_header_bytes + program_header_bytes * header_count file ≤ length file) → IsImage file → file ≢ []
image-some file headers is none = let long = headers file is in let short = ap length none in omega (arith, long, short)

-- the parts of segments behind others lie in the file and in the region
pub segments-have : (file : List ℕ) (past : ℕ) (headers : List ProgramHeader) → AreSegmentsBehind (length file) past headers → All (HasWords file) (map segment_of headers)
segments-have file past [] behind = All-nil (HasWords file)
segments-have file past (header ∷ headers) behind =
    let first = behind.0 in
    let within : header.start + header.in_file ≤ 1048576 = omega (arith, first.within, first.part) in
    All-cons (HasWords file) (segment_of header) (map segment_of headers) (record { within = first.in_file; region = within }) (segments-have file (end_of header) headers behind.1)

-- so many words have so many lines
words-count : (file : List ℕ) (place offset count : ℕ) → length (word_parts file place offset count) ≡ count
words-count file place offset zero = refl
words-count file place offset (suc count) = ap suc (words-count file (place + 4) (offset + 4) count)

-- each is that of its word
words-each : (file : List ℕ) (place offset count at : ℕ) (part : Part) → slice_get (word_parts file place offset count) at ≡ Some part
    → part ≡ out_part (instr_line (offset + 4 * at) (u32_at file (place + 4 * at)))
words-each file place offset zero at part is = cc
words-each file place offset (suc count) zero part is =
    let here : offset + 4 * 0 ≡ offset = omega arith in
    let there : place + 4 * 0 ≡ place = omega arith in
    rw (here, there) cc
words-each file place offset (suc count) (suc at) part is =
    let here : offset + 4 * suc at ≡ offset + 4 + 4 * at = omega arith in
    let there : place + 4 * suc at ≡ place + 4 + 4 * at = omega arith in
    rw (here, there) (words-each file (place + 4) (offset + 4) count at part is)

-- nothing is listed of a segment whose pages may not be executed
pub listed-none : (file : List ℕ) (segment : Segment) → segment.rights % 2 ≡ 0 → segment_parts file segment ≡ []
listed-none file segment even = rw even refl

-- and else its words are
pub listed-words : (file : List ℕ) (segment : Segment) → segment.rights % 2 ≡ 1 → segment_parts file segment ≡ word_parts file segment.from segment.start (segment.file_size / 4)
listed-words file segment odd = rw odd refl

pub listed-count : (file : List ℕ) (segment : Segment) → segment.rights % 2 ≡ 1 → length (segment_parts file segment) ≡ segment.file_size / 4
listed-count file segment odd = ap length (listed-words file segment odd) ∙ words-count file segment.from segment.start (segment.file_size / 4)

pub listed-word : (file : List ℕ) (segment : Segment) (at : ℕ) (part : Part) → segment.rights % 2 ≡ 1 → slice_get (segment_parts file segment) at ≡ Some part
    → part ≡ out_part (instr_line (segment.start + 4 * at) (u32_at file (segment.from + 4 * at)))
listed-word file segment at part odd is = words-each file segment.from segment.start (segment.file_size / 4) at part (rw (listed-words file segment odd) at is)

-- the line on an image has bytes
pub summary-some : (image : Image) → summary_of image ≢ []
summary-some image is = cc

-- the next of the segments that are left
pub segments-left : (file : List ℕ) (segments : List Segment) (i : ℕ) (d : Segment) → i < length segments
    → flat_map (segment_parts file) (drop i segments) ≡ segment_parts file (get_or segments i d) ++ flat_map (segment_parts file) (drop (i + 1) segments)
segments-left file segments i d below = ap (flat_map (segment_parts file)) (drop_more segments i d below)

-- none is left behind all of them
pub segments-over : (file : List ℕ) (segments : List Segment) (i : ℕ) → length segments ≤ i → flat_map (segment_parts file) (drop i segments) ≡ []
segments-over file segments i past = ap (flat_map (segment_parts file)) (drop_all i segments past)
