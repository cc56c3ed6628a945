-- The content where an image was started, over the laws of what it is made of.
use Rattle.std.proofs.Common.{◌≡◌, ◌≢◌, ◌∙◌, ℕ, ◌+◌, ◌*◌, ◌/◌, ◌<◌, false, is_some, Option, Some, None, List, length, get_or, All, refl, ap, sym, arith}
use Rattle.std.specs.Option.{option_map}
use Rattle.std.proofs.lemmas.List.Elements.{All-weaker, All-contains, All-contains_itself}
use Rattle.cap_format.specs.Numbers.{page_bytes}
use Rattle.cap_format.specs.declared.cap.Cap.{Cap}
use Rattle.cap_format.specs.Image.{IsImage}
use Rattle.cap_format.specs.ImageLaws.{ImagesAreSound}
use Rattle.machine_types.specs.MemoryLaws.{NumbersAreBytes, PagesAreMade}
use Rattle.machine_types.specs.Stores.{Page, page_of_bytes}
use Rattle.contents.specs.Content.{Content, page_at, class_at, used_frames}
use Rattle.contents.specs.Accesses.{page_of_place, granule_of_place}
use Rattle.contents.specs.Regions.{begin_of, seed_cap_of}
use Rattle.contents.specs.Conditions.{HasStore}
use Rattle.contents.specs.Laws.{OthersStay, OtherStoresStay, HasSameSetting, SettingsStay, RegionsAreKept}
use Rattle.contents.specs.Looks.{peek_of, rights_of}
use Rattle.contents.specs.Reading.{seen}
use Rattle.contents.specs.Whole.{CallsKeepWhole}
use Rattle.contents.specs.Writing.{WritesAreRead, AllElseStays, IsOtherGranule, byte_seen}
use Rattle.contents.proofs.OtherStores.{changed-elsewhere}
use Rattle.contents.proofs.PageRights.{some-rights}
use Rattle.elf_loader.specs.declared.image.Segment.{Segment}
use Rattle.elf_loader.specs.declared.image.Reloc.{Reloc}
use Rattle.elf_loader.specs.Numbers.{process_region}
use Rattle.elf_loader.specs.Loaded.{image_of}
use Rattle.elf_loader.specs.Start.{first_page, page_count, page_part, capability_for, with_segments}
use Rattle.elf_loader.specs.StartLaws.{MayStart, HasCode, HasSegment, HasReloc, IsOffSegment, IsOffReloc, byte_of, started_from, RelocationsAreExact}
use Rattle.elf_loader.specs.Adding.{IsPlaced, page_total, HasRoom}
use Rattle.elf_loader.proofs.ImageParts.{IsOnPage, HasParts, each-placed, image-parts}
use Rattle.elf_loader.proofs.AddedPage.{put-store, class-other}
use Rattle.elf_loader.proofs.StartedSteps.{by-segments, by-relocs, segments-used, relocs-used}
use Rattle.elf_loader.proofs.RoomForPages.{room-begun}
use Rattle.elf_loader.proofs.SegmentPages.{segments-off, segments-there, on-page-there}
use Rattle.elf_loader.proofs.SegmentBytes.{segment-byte}
use Rattle.elf_loader.proofs.PlainPages.{IsPlain, none-plain, put-plain}
use Rattle.elf_loader.proofs.OwnPages.{IsOwned, placed-owned}
use Rattle.elf_loader.proofs.AfterRelocations.{MayStore, off-granule, byte-same, relocs-owned, relocs-rights, relocs-granules, relocs-seen}

-- the segments of the image in a file
abbrev segments_in : List ℕ → List Segment
segments_in file = (image_of file).segments

-- its relocations
abbrev relocs_in : List ℕ → List Reloc
relocs_in file = (image_of file).relocs

-- the content with the segments' pages
abbrev loaded : List ℕ → Content → Content
loaded file c = with_segments file (begin_of c process_region) (segments_in file)

-- an option that isn't some is none
none-there : {A : Type 0} (o : Option A) → is_some o ≡ false → o ≡ None
none-there None none = refl
none-there (Some x) none = absurd (cc)

-- What stands whatever the file and the content.

-- the region has a store with the segments' pages, and then too
pub started-store : RegionsAreKept → (file : List ℕ) (c : Content) → HasStore process_region (started_from file c)
started-store regions file c =
    by-relocs (HasStore process_region) (λ d at cap is. regions.seed_cap d process_region at cap process_region ∙ is) (relocs_in file) (loaded file c)
    (by-segments (HasStore process_region) (λ d. put-store d process_region) file (segments_in file) (begin_of c process_region) (regions.begin c process_region))

-- the stores of the others are as they were
pub started-others : OtherStoresStay → (file : List ℕ) (c : Content) → OthersStay process_region c (started_from file c)
started-others others file c =
    by-relocs (OthersStay process_region c) (λ d at cap is r other. others.seed_cap d process_region at cap r other ∙ is r other) (relocs_in file) (loaded file c)
    (by-segments (OthersStay process_region c) (λ d page rights bytes is r other. changed-elsewhere d.stores process_region r _ other ∙ is r other) file (segments_in file)
    (begin_of c process_region) (others.begin c process_region))

-- their pages have the classes that they had
pub started-classes : (file : List ℕ) (c : Content) (region page : ℕ) → region ≢ process_region → class_at (started_from file c) region page ≡ class_at c region page
unfolding begin_of seed_cap_of
started-classes file c region page other =
    by-relocs (λ d. class_at d region page ≡ class_at c region page) (λ d at cap is. is) (relocs_in file) (loaded file c)
    (by-segments (λ d. class_at d region page ≡ class_at c region page) (λ d new rights bytes is. class-other d.account process_region new region page other ∙ is) file (segments_in file)
    (begin_of c process_region) refl)

-- and so are the rule and the number of frames
pub started-setting : SettingsStay → (file : List ℕ) (c : Content) → HasSameSetting c (started_from file c)
started-setting settings file c =
    by-relocs (HasSameSetting c)
    (λ d at cap is. let same = settings.seed_cap d process_region at cap in record { rule = same.rule ∙ is.rule; frames = same.frames ∙ is.frames }) (relocs_in file) (loaded file c)
    (by-segments (HasSameSetting c) (λ d page rights bytes is. record { rule = is.rule; frames = is.frames }) file (segments_in file) (begin_of c process_region) (settings.begin c process_region))

-- The laws that say what is made where an image may be started.
pub record LawsBelow : Type 0 where
  pub images : ImagesAreSound
  pub exact : RelocationsAreExact
  pub made : PagesAreMade
  pub numbers : NumbersAreBytes
  pub keep : CallsKeepWhole
  pub stays : AllElseStays
  pub written : WritesAreRead
  pub regions : RegionsAreKept

-- What stands where an image may be started.
module _ (laws : LawsBelow) (file : List ℕ) (c : Content) (may : MayStart file c) where
  -- what is known of the image
  parts : HasParts file (image_of file)
  parts = image-parts laws.images file may.image

  -- there is room for its pages at first
  begin-room : HasRoom 0 (page_total (segments_in file)) (begin_of c process_region)
  begin-room =
      let count = parts.pages in
      let room = may.room in
      let within = may.whole.used in
      room-begun c (page_total (segments_in file)) (omega arith)

  -- they are their own
  loaded-owned : IsOwned process_region (loaded file c)
  loaded-owned = placed-owned laws.keep file (length file) (segments_in file) (begin_of c process_region) (laws.keep.begin c process_region may.whole may.none) parts.placed begin-room

  -- each of them is there
  loaded-there : (segment : Segment) (k : ℕ) → HasSegment file segment → k < page_count segment
      → page_at (loaded file c) process_region (first_page segment + k) ≡ Some (page_of_bytes segment.rights (page_part file segment k))
  loaded-there segment k one below = segments-there file (segments_in file) (begin_of c process_region) (length file) 0 k segment begin-room.store parts.placed one below

  -- the page of each relocation is one of them
  relocs-may : All (MayStore (loaded file c)) (relocs_in file)
  relocs-may = All-weaker (HasReloc file) (MayStore (loaded file c)) each (relocs_in file) (All-contains_itself (relocs_in file))
    where
      each : (reloc : Reloc) → HasReloc file reloc → MayStore (loaded file c) reloc
      each reloc one = record {
        there =
            on-page-there file (segments_in file) (begin_of c process_region) (length file) 0 reloc.place begin-room.store parts.placed
            (All-contains (λ (r : Reloc). IsOnPage (segments_in file) r.place) (relocs_in file) reloc parts.on_pages one);
        pattern = (laws.exact.capability file reloc may.image one).pattern;
        may = λ tagged. laws.exact.inside file reloc may.image one;
      }

  -- each page is its own, and the content is whole
  pub started-owned : IsOwned process_region (started_from file c)
  started-owned = relocs-owned laws.keep laws.stays laws.regions (relocs_in file) (loaded file c) loaded-owned relocs-may

  -- each page of a segment has its rights
  pub started-rights : (segment : Segment) (n : ℕ) → HasSegment file segment → n < page_count segment → rights_of (started_from file c) process_region (first_page segment + n) ≡ Some segment.rights
  unfolding rights_of
  started-rights segment n one below =
      relocs-rights laws.stays (relocs_in file) (loaded file c) (first_page segment + n) ∙ ap (option_map (λ (p : Page). p.rights)) (loaded-there segment n one below)

  -- and that of the entry may be executed
  pub started-entry : HasCode (started_from file c) (page_of_place (image_of file).entry)
  started-entry =
      let on = parts.code.on in record {
        rights = on.segment.rights;
        there = ap (rights_of (started_from file c) process_region) on.here ∙ started-rights on.segment on.number on.one on.below;
        code = parts.code.code;
      }

  -- no other page is there
  pub started-absent : (page : ℕ) → All (IsOffSegment page) (segments_in file) → page_at (started_from file c) process_region page ≡ None
  started-absent page off =
      none-there (page_at (started_from file c) process_region page)
      (sym (some-rights (started_from file c) process_region page)
      ∙ ap (λ (o : Option ℕ). is_some o) (relocs-rights laws.stays (relocs_in file) (loaded file c) page)
      ∙ some-rights (loaded file c) process_region page
      ∙ ap (λ (o : Option Page). is_some o) (segments-off file (segments_in file) (begin_of c process_region) page begin-room.store off ∙ begin-room.absent page (omega arith)))

  -- a byte that no relocation stores is the segment's
  pub started-bytes : (segment : Segment) (k : ℕ) → HasSegment file segment → k < page_count segment * page_bytes → All (IsOffReloc (segment.start + k)) (relocs_in file)
      → byte_seen (started_from file c) process_region (segment.start + k) ≡ byte_of file segment k
  started-bytes segment k one below off =
      byte-same (started_from file c) (loaded file c) process_region (segment.start + k)
      (relocs-granules laws.stays (relocs_in file) (loaded file c) (page_of_place (segment.start + k)) (granule_of_place (segment.start + k)) apart)
      ∙ segment-byte laws.made laws.numbers file segment (loaded file c) process_region k may.bytes at_page (loaded-there segment (k / page_bytes) one (omega arith))
    where
      apart : All (λ (r : Reloc). IsOtherGranule r.place (page_of_place (segment.start + k)) (granule_of_place (segment.start + k))) (relocs_in file)
      apart i d within = off-granule (segment.start + k) (get_or (relocs_in file) i d) (parts.placeable i d within).at_granule (off i d within)

      at_page : segment.start ≡ first_page segment * page_bytes
      at_page =
          let placed = All-contains (IsPlaced (length file)) (segments_in file) segment (each-placed (length file) 0 (segments_in file) parts.placed) one in
          let at_page = placed.at_page in
          omega arith

  -- each capability is seen at its place
  pub started-seen : (reloc : Reloc) → HasReloc file reloc → seen (started_from file c) process_region reloc.place ≡ Some (capability_for reloc)
  started-seen reloc one = relocs-seen laws.keep laws.stays laws.regions laws.written (relocs_in file) (loaded file c) 0 reloc loaded-owned relocs-may parts.placeable parts.rising one

  -- no other granule has a tag
  pub started-untagged : (page g : ℕ) (cap : Cap) → All (λ (r : Reloc). IsOtherGranule r.place page g) (relocs_in file)
      → peek_of (started_from file c) process_region page g ≡ Some cap → cap.tag ≡ false
  started-untagged page g cap apart there =
      let plain =
      by-segments (IsPlain process_region) (λ d. put-plain laws.made d process_region) file (segments_in file) (begin_of c process_region)
      (none-plain process_region (begin_of c process_region) begin-room.store (λ page. begin-room.absent page (omega arith))) in
      plain.plain page g cap (sym (relocs-granules laws.stays (relocs_in file) (loaded file c) page g apart) ∙ there)

-- as many frames more are used as there are pages
pub started-used : ImagesAreSound → (file : List ℕ) (c : Content) → IsImage file → used_frames (started_from file c) ≡ used_frames c + (image_of file).pages
unfolding begin_of
started-used images file c image =
    let more = segments-used file (segments_in file) (begin_of c process_region) in
    let count = (image-parts images file image).pages in
    relocs-used (relocs_in file) (loaded file c) ∙ omega arith
