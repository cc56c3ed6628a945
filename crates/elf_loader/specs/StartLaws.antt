-- What stands where an image is started, in the words of those who write images.
use Rattle.std.specs.Prelude.{◌≡◌, ◌≢◌, ℕ, ◌+◌, ◌*◌, ◌^◌, ◌%◌, ◌<◌, ◌≤◌, ◌⊎◌, false, IsTrue, IsSome, pos, nat_lt, if◌then◌else◌, Some, None, Ok, Err, List, All, Contains, get_or}
use Rattle.cap_format.specs.Numbers.{page_bytes, region_bytes}
use Rattle.cap_format.specs.declared.cap.Cap.{Cap}
use Rattle.cap_format.specs.Pattern.{address_of, kind_of, perms_of, base_of, top_of}
use Rattle.cap_format.specs.Made.{null}
use Rattle.cap_format.specs.Code.{IsCode}
use Rattle.cap_format.specs.Region.{region_start, IsInside}
use Rattle.cap_format.specs.Image.{IsImage}
use Rattle.machine_types.specs.MemoryLaws.{AreBytes}
use Rattle.machine_types.specs.Registers.{register, IsRegisterFile, AreInside}
use Rattle.machine_types.specs.declared.touches.NoFrame.{NoFrame}
use Rattle.contents.specs.Accesses.{untouched, page_of_place}
use Rattle.contents.specs.Content.{Content, page_at, class_at, used_frames, free_frames}
use Rattle.contents.specs.Conditions.{HasStore, HasNoStore, IsOwn}
use Rattle.contents.specs.Laws.{OthersStay, HasSameSetting}
use Rattle.contents.specs.Looks.{peek_of, rights_of}
use Rattle.contents.specs.Reading.{seen}
use Rattle.contents.specs.Whole.{IsWhole}
use Rattle.contents.specs.Writing.{IsOtherGranule, byte_seen}
use Rattle.elf_loader.specs.declared.image.Segment.{Segment}
use Rattle.elf_loader.specs.declared.image.Reloc.{Reloc}
use Rattle.elf_loader.specs.declared.image.Image.{Image}
use Rattle.elf_loader.specs.declared.starts.StartState.{StartState}
use Rattle.elf_loader.specs.Numbers.{process_region, code_permissions, data_permissions}
use Rattle.elf_loader.specs.Loaded.{image_of}
use Rattle.elf_loader.specs.Start.{first_page, page_count, capability_for, started, start_registers, start_pcc, IsStarted}

-- An image may be started in a content: the region has no store, and a frame is free for each page.
pub record MayStart (file : List ℕ) (c : Content) : Type 0 where
  pub image : IsImage file
  pub bytes : AreBytes file
  pub whole : IsWhole c
  pub none : HasNoStore process_region c
  pub room : (image_of file).pages ≤ free_frames c

-- a segment, and a relocation, of the image in a file
abbrev pub HasSegment : List ℕ → Segment → Type 0
HasSegment file segment = Contains (image_of file).segments segment

abbrev pub HasReloc : List ℕ → Reloc → Type 0
HasReloc file reloc = Contains (image_of file).relocs reloc

-- the page is none of the segment's
abbrev pub IsOffSegment : ℕ → Segment → Type 0
IsOffSegment page segment = (page < first_page segment) ⊎ (first_page segment + page_count segment ≤ page)

-- the place is in no granule that the relocation stores
abbrev pub IsOffReloc : ℕ → Reloc → Type 0
IsOffReloc at reloc = (at < reloc.place) ⊎ (reloc.place + 16 ≤ at)

-- a byte of a segment's pages, from its start on: that of the file, and zero past the part that stands there
abbrev pub byte_of : List ℕ → Segment → ℕ → ℕ
byte_of file segment k = if nat_lt k segment.file_size then get_or file (segment.from + k) 0 else 0

-- what the content is where the image in a file was started
abbrev pub started_from : List ℕ → Content → Content
started_from file c = started file (image_of file) c

-- the page is there, and may be executed
pub record HasCode (c : Content) (page : ℕ) : Type 0 where
  pub rights : ℕ
  pub there : rights_of c process_region page ≡ Some rights
  pub code : rights % 2 ≡ 1

-- Where an image is started: each page of a segment has the segment's rights, and no other page is there; a page has the file's bytes,
-- and zeros past them, but where a relocation stores its capability; and there alone is a tag. The
-- page of the entry may be executed. Each page takes a frame, and is alone
-- in its class, with its region as home. The content is whole, and the stores and classes of other regions, the rule and the number
-- of frames are as they were.
pub record StartsAreExact : Type 0 where
  pub rights : (file : List ℕ) (c : Content) (segment : Segment) (n : ℕ) → MayStart file c → HasSegment file segment → n < page_count segment
      → rights_of (started_from file c) process_region (first_page segment + n) ≡ Some segment.rights
  pub absent : (file : List ℕ) (c : Content) (page : ℕ) → MayStart file c → All (IsOffSegment page) (image_of file).segments
      → page_at (started_from file c) process_region page ≡ None
  pub bytes : (file : List ℕ) (c : Content) (segment : Segment) (k : ℕ) → MayStart file c → HasSegment file segment → k < page_count segment * page_bytes
      → All (IsOffReloc (segment.start + k)) (image_of file).relocs → byte_seen (started_from file c) process_region (segment.start + k) ≡ byte_of file segment k
  pub capabilities : (file : List ℕ) (c : Content) (reloc : Reloc) → MayStart file c → HasReloc file reloc
      → seen (started_from file c) process_region reloc.place ≡ Some (capability_for reloc)
  pub untagged : (file : List ℕ) (c : Content) (page g : ℕ) (cap : Cap) → MayStart file c → All (λ reloc. IsOtherGranule reloc.place page g) (image_of file).relocs
      → peek_of (started_from file c) process_region page g ≡ Some cap → cap.tag ≡ false
  pub entry : (file : List ℕ) (c : Content) → MayStart file c → HasCode (started_from file c) (page_of_place (image_of file).entry)
  pub own : (file : List ℕ) (c : Content) (page : ℕ) → MayStart file c → IsSome (page_at (started_from file c) process_region page) → IsOwn process_region page (started_from file c)
  pub used : (file : List ℕ) (c : Content) → MayStart file c → used_frames (started_from file c) ≡ used_frames c + (image_of file).pages
  pub whole : (file : List ℕ) (c : Content) → MayStart file c → IsWhole (started_from file c)
  pub store : (file : List ℕ) (c : Content) → HasStore process_region (started_from file c)
  pub others : (file : List ℕ) (c : Content) → OthersStay process_region c (started_from file c)
  pub classes : (file : List ℕ) (c : Content) (region page : ℕ) → region ≢ process_region → class_at (started_from file c) region page ≡ class_at c region page
  pub setting : (file : List ℕ) (c : Content) → HasSameSetting c (started_from file c)

-- What is answered and left is decided: with Ok there were frames for all pages, the registers and PCC are those of the start, and
-- the content is the started one; and a refusal wanted a frame, names no touch, and left the content.
pub record StartsAreDecided : Type 0 where
  pub started : (file : List ℕ) (image : Image) (c d : Content) (state : StartState) → IsStarted file image c (Ok state) (λ left. left ≡ d)
      → (image.pages ≤ free_frames c) × (state.regs ≡ start_registers) × (state.pcc ≡ start_pcc image.entry) × (started file image c ≡ d)
  pub refused : (file : List ℕ) (image : Image) (c d : Content) (lack : NoFrame) → IsStarted file image c (Err lack) (λ left. left ≡ d)
      → (free_frames c < image.pages) × (lack.before ≡ untouched) × (c ≡ d)

-- where the region of the process begins, and where it ends
abbrev pub region_first : ℕ
region_first = region_start process_region

abbrev pub region_past : ℕ
region_past = region_first + region_bytes

-- a tagged plain capability with these permissions, from a base to a top, and with this address
pub record IsPlainCap (rights low high at : ℕ) (cap : Cap) : Type 0 where
  pub tagged : IsTrue cap.tag
  pub plain : kind_of cap.bits ≡ 0
  pub perms : perms_of cap.bits ≡ rights
  pub base : base_of cap.bits ≡ pos low
  pub top : top_of cap.bits ≡ pos high
  pub address : address_of cap.bits ≡ at
  pub pattern : cap.bits < 2 ^ 128

-- what a relocation says
abbrev pub IsCapabilityOf : Reloc → Cap → Type 0
IsCapabilityOf reloc cap =
    let base = region_first + reloc.base in
    IsPlainCap reloc.perms base (base + reloc.length) (base + reloc.offset) cap

-- Each relocation of an image stores such a capability, which is inside the region.
pub record RelocationsAreExact : Type 0 where
  pub capability : (file : List ℕ) (reloc : Reloc) → IsImage file → HasReloc file reloc → IsCapabilityOf reloc (capability_for reloc)
  pub inside : (file : List ℕ) (reloc : Reloc) → IsImage file → HasReloc file reloc → IsInside (capability_for reloc).bits process_region

-- At the start of an image PCC is the whole region for code, at the entry, where an instruction may be fetched. Register 2 is the whole
-- region for data, at its start, and every other register is null. So all are what a process of the region may have.
pub record StartsMayRun : Type 0 where
  pub pcc : (file : List ℕ) → IsImage file → IsPlainCap code_permissions region_first region_past (region_first + (image_of file).entry) (start_pcc (image_of file).entry)
  pub code : (file : List ℕ) → IsImage file → IsCode (start_pcc (image_of file).entry)
  pub counter : (file : List ℕ) → IsImage file → IsInside (start_pcc (image_of file).entry).bits process_region
  pub register_2 : IsPlainCap data_permissions region_first region_past region_first (register start_registers 2)
  pub others : (n : ℕ) → n ≢ 2 → register start_registers n ≡ null
  pub registers : IsRegisterFile start_registers
  pub inside : AreInside start_registers process_region
