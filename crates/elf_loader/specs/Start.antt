-- The start of an image: the pages of its segments, the capabilities of its relocations, and the registers.
-- Segments after ELF64 (System V ABI); relocations and registers are this project's own.
use Rattle.std.specs.Prelude.{◌≡◌, ℕ, zero, suc, ◌+◌, ◌-◌, ◌*◌, ◌/◌, ◌<◌, ◌≤◌, List, [], ◌∷◌, take, drop, replicate, Result, Ok, Err}
use Rattle.cap_format.specs.Numbers.{page_bytes}
use Rattle.cap_format.specs.declared.cap.Cap.{Cap}
use Rattle.cap_format.specs.Made.{null, root, with_address}
use Rattle.cap_format.specs.Region.{region_start}
use Rattle.cap_format.specs.SetBounds.{up_to, set_bounds}
use Rattle.machine_types.specs.Registers.{with_register}
use Rattle.machine_types.specs.declared.touches.NoFrame.{NoFrame}
use Rattle.contents.specs.Content.{Content, free_frames}
use Rattle.contents.specs.Regions.{no_frame, begin_of, with_new_page, seed_cap_of}
use Rattle.elf_loader.specs.declared.image.Segment.{Segment}
use Rattle.elf_loader.specs.declared.image.Reloc.{Reloc}
use Rattle.elf_loader.specs.declared.image.Image.{Image}
use Rattle.elf_loader.specs.declared.starts.StartState.{StartState}
use Rattle.elf_loader.specs.Numbers.{process_region, code_permissions, data_permissions}

-- the number of a segment's first page, and how many pages it has
abbrev pub first_page : Segment → ℕ
first_page segment = segment.start / page_bytes

abbrev pub page_count : Segment → ℕ
page_count segment = (up_to (segment.start + segment.size) page_bytes - segment.start) / page_bytes

-- the bytes of a segment that stand in the file, and those of them that are on one of its pages, counted from its first
abbrev pub part_of : List ℕ → Segment → List ℕ
part_of file segment = take segment.file_size (drop segment.from file)

abbrev pub page_part : List ℕ → Segment → ℕ → List ℕ
page_part file segment number = take page_bytes (drop (number * page_bytes) (part_of file segment))

-- A content with so many pages of a segment, from its first on: each has the segment's rights, and the file's bytes and then zeros.
unfoldable pub with_pages : List ℕ → Segment → Content → ℕ → Content
with_pages file segment c zero = c
with_pages file segment c (suc n) = with_new_page (with_pages file segment c n) process_region (first_page segment + n) segment.rights (page_part file segment n)

-- with all pages of segments
unfoldable pub with_segments : List ℕ → Content → List Segment → Content
with_segments file c [] = c
with_segments file c (segment ∷ segments) = with_segments file (with_pages file segment c (page_count segment)) segments

-- What a relocation stores: the root of the region with its permissions, with its bounds, and with the address at its offset.
abbrev pub capability_for : Reloc → Cap
capability_for reloc =
    let base = region_start process_region + reloc.base in
    with_address (set_bounds (with_address (root process_region reloc.perms) base) reloc.length).cap (base + reloc.offset)

-- with what relocations store, each at its place
unfoldable pub with_relocations : Content → List Reloc → Content
with_relocations c [] = c
with_relocations c (reloc ∷ relocs) = with_relocations (seed_cap_of c process_region reloc.place (capability_for reloc)) relocs

-- The content with a store for the process, which has the image's pages and then the capabilities of its relocations.
abbrev pub started : List ℕ → Image → Content → Content
started file image c = with_relocations (with_segments file (begin_of c process_region) image.segments) image.relocs

-- Register 2 is the whole region for data, and the others are null.
abbrev pub start_registers : List Cap
start_registers = with_register (replicate 32 null) 2 (root process_region data_permissions)

-- PCC is the whole region for code, at the entry.
abbrev pub start_pcc : ℕ → Cap
start_pcc entry = with_address (root process_region code_permissions) (region_start process_region + entry)

abbrev pub start_state : Image → StartState
start_state image = record { regs = start_registers; pcc = start_pcc image.entry }

-- The image was started, in a space that stands for the content with its pages; or it has more pages than frames are free, and the
-- space stands for what it stood for.
abbrev pub IsStarted : List ℕ → Image → Content → Result StartState NoFrame → (Content → Type 0) → Type 0
IsStarted file image c (Ok state) stands = (image.pages ≤ free_frames c) × (state ≡ start_state image) × stands (started file image c)
IsStarted file image c (Err refused) stands = (free_frames c < image.pages) × (refused ≡ no_frame) × stands c
