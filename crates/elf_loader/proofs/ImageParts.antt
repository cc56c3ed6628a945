-- What is known of the segments, the relocations and the entry of an image, as they are read.
use Rattle.std.proofs.Common.{◌≡◌, ◌∙◌, ℕ, zero, suc, ◌+◌, ◌*◌, ◌<◌, ◌≤◌, ◌-◌, ◌%◌, IsTrue, Ok, List, [], ◌∷◌, All, map, length, refl, ap, sym, subst, arith}
use Rattle.std.specs.Prelude.{Contains}
use Rattle.std.proofs.lemmas.List.{get_or-map, length-map}
use Rattle.std.proofs.lemmas.List.Elements.{All-cons, All-nil, All-weaker}
use Rattle.cap_format.specs.Numbers.{region_bytes, page_bytes}
use Rattle.cap_format.specs.declared.image.ProgramHeader.{ProgramHeader}
use Rattle.cap_format.specs.declared.image.Relocation.{Relocation}
use Rattle.cap_format.specs.Region.{region_start}
use Rattle.cap_format.specs.SetBounds.{is_exact}
use Rattle.cap_format.specs.Image.{IsImage, end_of, entry_of, segments_of, relocations_of, pages_of}
use Rattle.cap_format.specs.ImageLaws.{IsSegmentBehind, AreSegmentsBehind, IsRelocationBehind, AreRelocationsBehind, ImagesAreSound}
use Rattle.contents.specs.Accesses.{page_of_place}
use Rattle.elf_loader.specs.declared.image.Segment.{Segment}
use Rattle.elf_loader.specs.declared.image.Reloc.{Reloc}
use Rattle.elf_loader.specs.declared.image.Image.{Image}
use Rattle.elf_loader.specs.Numbers.{process_region}
use Rattle.elf_loader.specs.Loaded.{segment_of, reloc_of, image_of, IsRead}
use Rattle.elf_loader.specs.Start.{first_page, page_count}
use Rattle.elf_loader.specs.Adding.{IsPlaced, ArePlaced, page_total, IsPlaceable}

-- a relocation has exact bounds in the region
abbrev pub HasExactBounds : Reloc → Type 0
HasExactBounds reloc = IsTrue (is_exact (region_start process_region + reloc.base) reloc.length)

-- A place lies on a page of a segment.
pub record IsOnPage (segments : List Segment) (place : ℕ) : Type 0 where
  pub segment : Segment
  pub one : Contains segments segment
  pub number : ℕ
  pub below : number < page_count segment
  pub here : page_of_place place ≡ first_page segment + number

-- and that segment may be executed
pub record IsOnCode (segments : List Segment) (place : ℕ) : Type 0 where
  pub on : IsOnPage segments place
  pub code : on.segment.rights % 2 ≡ 1

-- relocations in a row: each at or behind a place, which is past that of the one before it
abbrev pub AreRising : ℕ → List Reloc → Type 0
AreRising least [] = Unit {0}
AreRising least (reloc ∷ relocs) = (least ≤ reloc.place) × AreRising (reloc.place + 1) relocs

-- What is known of an image that was read from a file.
pub record HasParts (file : List ℕ) (image : Image) : Type 0 where
  pub placed : ArePlaced (length file) 0 image.segments
  pub pages : page_total image.segments ≡ image.pages
  pub entry : image.entry < region_bytes
  pub code : IsOnCode image.segments image.entry
  pub placeable : All IsPlaceable image.relocs
  pub exact : All HasExactBounds image.relocs
  pub on_pages : All (λ reloc. IsOnPage image.segments reloc.place) image.relocs
  pub rising : AreRising 0 image.relocs

-- each segment of those in a row is at its place
pub each-placed : (n first : ℕ) (segments : List Segment) → ArePlaced n first segments → All (IsPlaced n) segments
each-placed n first [] are = All-nil (IsPlaced n)
each-placed n first (segment ∷ segments) are = All-cons (IsPlaced n) segment segments are.0 (each-placed n (first_page segment + page_count segment) segments are.2)

-- and relocations in a row are all at or behind the place
pub rising-behind : (least : ℕ) (relocs : List Reloc) → AreRising least relocs → All (λ reloc. least ≤ reloc.place) relocs
rising-behind least [] are = All-nil (λ (reloc : Reloc). least ≤ reloc.place)
rising-behind least (reloc ∷ relocs) are =
    All-cons (λ (reloc : Reloc). least ≤ reloc.place) reloc relocs are.0
    (All-weaker (λ (r : Reloc). reloc.place + 1 ≤ r.place) (λ (reloc : Reloc). least ≤ reloc.place) (λ r behind. let first = are.0 in omega arith) relocs
    (rising-behind (reloc.place + 1) relocs are.1))

-- The segments, as program headers say them.

-- a segment among others stands behind some place
segment-among : (n past : ℕ) (headers : List ProgramHeader) (header : ProgramHeader) → AreSegmentsBehind n past headers → Contains headers header → (from : ℕ) × IsSegmentBehind n from header
segment-among n past [] header behind (i, below, here) = absurd (omega arith)
segment-among n past (first ∷ headers) header behind (zero, below, here) = (past, subst (IsSegmentBehind n past) here behind.0)
segment-among n past (first ∷ headers) header behind (suc i, below, here) = segment-among n (end_of first) headers header behind.1 (i, omega arith, here)

-- it begins at a page and ends in the region
segment-placed : (n past : ℕ) (header : ProgramHeader) → IsSegmentBehind n past header → IsPlaced n (segment_of header)
segment-placed n past header is = record {
  some = is.some;
  at_page = is.at_page;
  within = let within = is.within in omega arith;
  part = is.in_file;
  rights = is.rights;
}

-- and so do all, in rising order
segments-placed : (n past first : ℕ) (headers : List ProgramHeader) → first * page_bytes ≤ past → AreSegmentsBehind n past headers → ArePlaced n first (map segment_of headers)
segments-placed n past first [] from behind = tt
segments-placed n past first (header ∷ headers) from behind =
    let before = behind.0.behind in
    let at_page = behind.0.at_page in (
      segment-placed n past header behind.0,
      omega arith,
      segments-placed n (end_of header) (first_page (segment_of header) + page_count (segment_of header)) headers (omega arith) behind.1,
    )

-- they have as many pages as their headers say
segments-pages : (headers : List ProgramHeader) → page_total (map segment_of headers) ≡ pages_of headers
segments-pages [] = refl
segments-pages (header ∷ headers) = ap (λ n. page_count (segment_of header) + n) (segments-pages headers)

-- The relocations, as their table says them.

-- relocations in a row stay so
relocations-rising : (headers : List ProgramHeader) (least : ℕ) (relocations : List Relocation) → AreRelocationsBehind headers least relocations → AreRising least (map reloc_of relocations)
relocations-rising headers least [] are = tt
relocations-rising headers least (relocation ∷ relocations) are = (are.0.behind, relocations-rising headers (relocation.place + 1) relocations are.1)

-- what each has all have
relocations-all : (headers : List ProgramHeader) (P : Reloc → Type 0) → ((least : ℕ) (relocation : Relocation) → IsRelocationBehind headers least relocation → P (reloc_of relocation))
    → (least : ℕ) (relocations : List Relocation) → AreRelocationsBehind headers least relocations → All P (map reloc_of relocations)
relocations-all headers P each least [] are = All-nil P
relocations-all headers P each least (relocation ∷ relocations) are =
    All-cons P (reloc_of relocation) (map reloc_of relocations) (each least relocation are.0) (relocations-all headers P each (relocation.place + 1) relocations are.1)

-- a place of one of the segments is on a page of it
on-page : (n : ℕ) (headers : List ProgramHeader) (header : ProgramHeader) (place : ℕ) → AreSegmentsBehind n 0 headers → Contains headers header → header.start ≤ place → place < end_of header
    → IsOnPage (map segment_of headers) place
on-page n headers header place behind one from to =
    let segment = segment-among n 0 headers header behind one in
    let at_page = segment.1.at_page in
    record {
      segment = segment_of header;
      one = (one.0, rw length-map one.1, get_or-map segment_of headers one.0 header (segment_of header) one.1 ∙ ap segment_of one.2);
      number = page_of_place place - first_page (segment_of header);
      below = omega arith;
      here = omega arith;
    }

module _ (n : ℕ) (headers : List ProgramHeader) (behind : AreSegmentsBehind n 0 headers) (least : ℕ) (relocation : Relocation) (is : IsRelocationBehind headers least relocation) where
  -- one that is behind a place can be stored
  relocation-placeable : IsPlaceable (reloc_of relocation)
  relocation-placeable =
      let segment = segment-among n 0 headers is.segment behind is.one in
      record {
        at_granule = is.at_granule;
        place = let end = segment.1.within in let to = is.to in omega arith;
        within = is.within;
        offset = is.offset;
        perms = is.perms;
      }

  -- it stands on a page of its segment
  relocation-on-page : IsOnPage (map segment_of headers) relocation.place
  relocation-on-page = on-page n headers is.segment relocation.place behind is.one is.from is.to

-- What is known of the image in a file that is one.
pub image-parts : ImagesAreSound → (file : List ℕ) → IsImage file → HasParts file (image_of file)
unfolding on-page
image-parts sound file is =
    let n = length file in
    let headers = segments_of file in
    let behind = sound.segments file is in
    let relocations = sound.relocations file is in
    let entry = sound.entry file is in
    let code = segment-among n 0 headers entry.segment behind entry.one in
    record {
      placed = segments-placed n 0 0 headers (omega arith) behind;
      pages = segments-pages headers;
      entry = let end = code.1.within in let to = entry.to in omega arith;
      code = record { on = on-page n headers entry.segment (entry_of file) behind entry.one entry.from entry.to; code = entry.code };
      placeable = relocations-all headers IsPlaceable (relocation-placeable n headers behind) 0 (relocations_of file) relocations;
      exact = relocations-all headers HasExactBounds (λ _ _ is. is.exact) 0 (relocations_of file) relocations;
      on_pages = relocations-all headers (λ reloc. IsOnPage (map segment_of headers) reloc.place) (relocation-on-page n headers behind) 0 (relocations_of file) relocations;
      rising = relocations-rising headers 0 (relocations_of file) relocations;
    }

-- and of one that was read from it
pub has-parts : ImagesAreSound → (file : List ℕ) (image : Image) → IsRead file (Ok image) → HasParts file image
has-parts sound file image read = subst (HasParts file) (sym read.1) (image-parts sound file read.0)
