-- What is shown of a file, where nothing is run: the image of a source, the instructions of an image, and a line on an image.
use Rattle.std.specs.Prelude.{ℕ, zero, suc, ◌+◌, ◌/◌, ◌%◌, ◌==◌, ◌≤◌, List, [], ◌∷◌, flat_map, if◌then◌else◌, length}
use Rattle.outside_io.specs.Parts.{Part, out_part}
use Rattle.cap_format.specs.Numbers.{region_bytes}
use Rattle.cap_format.specs.FileNumbers.{u32_at}
use Rattle.elf_loader.specs.declared.image.Segment.{Segment}
use Rattle.elf_loader.specs.declared.image.Image.{Image}
use Rattle.elf_loader.specs.Loaded.{image_of}
use Rattle.trace_tools.specs.Statements.{instr_line}
use Rattle.ufork_program.specs.Lines.{image_line}

-- So many words of a file from a place on, each as a line with its offset in the region. Words have 4 bytes, the lowest first.
abbrev pub word_parts : List ℕ → ℕ → ℕ → ℕ → List Part
word_parts file place offset zero = []
word_parts file place offset (suc count) = out_part (instr_line offset (u32_at file place)) ∷ word_parts file (place + 4) (offset + 4) count

-- The whole words of a segment's part of the file, where its pages may be executed. Its rights are the bits r 4, w 2 and x 1.
abbrev pub segment_parts : List ℕ → Segment → List Part
segment_parts file segment = if segment.rights % 2 == 1 then word_parts file segment.from segment.start (segment.file_size / 4) else []

-- the segment's part lies in the file, and in the region
pub record HasWords (file : List ℕ) (segment : Segment) : Type 0 where
  pub within : segment.from + segment.file_size ≤ length file
  pub region : segment.start + segment.file_size ≤ region_bytes

-- those of all segments, in order
abbrev pub instr_parts : List ℕ → List Part
instr_parts file = flat_map (segment_parts file) (image_of file).segments

-- how many pages and relocations an image has, and its entry
abbrev pub summary_of : Image → List ℕ
summary_of image = image_line image.pages (length image.relocs) image.entry

abbrev pub summary_parts : List ℕ → List Part
summary_parts file = out_part (summary_of (image_of file)) ∷ []

-- the file that a source was assembled to, as one part
abbrev pub file_parts : List ℕ → List Part
file_parts file = out_part file ∷ []
