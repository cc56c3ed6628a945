-- What an image holds, as it is read.
use Rattle.std.specs.Prelude.{◌≡◌, ℕ, Some, List, map, filter, find, Result, Ok, Err}
use Rattle.cap_format.specs.declared.image.ProgramHeader.{ProgramHeader}
use Rattle.cap_format.specs.declared.image.Relocation.{Relocation}
use Rattle.cap_format.specs.Image.{IsImage, fault_of, entry_of, headers_of, is_segment, is_table, relocations_in, pages_of}
use Rattle.elf_loader.specs.declared.image.Segment.{Segment}
use Rattle.elf_loader.specs.declared.image.Reloc.{Reloc}
use Rattle.elf_loader.specs.declared.image.Image.{Image}
use Rattle.elf_loader.specs.declared.image.ImageRefusal.{ImageRefusal}
use Rattle.elf_loader.specs.declared.image.ImageRefusal.TheVariants.{Fault, NoMemory}

-- a segment and a relocation
abbrev pub segment_of : ProgramHeader → Segment
segment_of header = record { start = header.start; size = header.in_memory; from = header.from; file_size = header.in_file; rights = header.flags }

abbrev pub reloc_of : Relocation → Reloc
reloc_of relocation = record { place = relocation.place; base = relocation.base; length = relocation.span; offset = relocation.offset; perms = relocation.perms }

-- what the fields of a file with these program headers say, and what those of a file do
abbrev pub image_with : List ℕ → List ProgramHeader → Image
image_with file headers = record {
  entry = entry_of file;
  segments = map segment_of (filter is_segment headers);
  relocs = map reloc_of (relocations_in file (find is_table headers));
  pages = pages_of (filter is_segment headers);
}

abbrev pub image_of : List ℕ → Image
image_of file = image_with file (headers_of file)

-- An image is read with its fields, or memory was wanted for it. Every other file is refused, by the first rule that it breaks.
abbrev pub IsRead : List ℕ → Result Image ImageRefusal → Type 0
IsRead file (Ok image) = IsImage file × (image ≡ image_of file)
IsRead file (Err (Fault fault)) = fault_of file ≡ Some fault
IsRead file (Err NoMemory) = IsImage file
