-- The content where an image was started and nothing else was: each class is of one page, and rights are three bits.
use Rattle.std.proofs.Common.{◌≡◌, ◌≢◌, ◌∙◌, ◌⊎◌, inl, inr, sym, ap, refl, subst, ℕ, zero, suc, ◌+◌, ◌-◌, ◌≤◌, ◌<◌, nat_eq, nat_le, Option, Some, None, List, [], ◌∷◌, map, cond, true, false, Bool, All, arith}
use Rattle.std.specs.Prelude.{Contains}
use Rattle.std.specs.Option.{option_map}
use Rattle.std.proofs.lemmas.Bool.Decides.{eqb_tells, leb_tells, nat_tests}
use Rattle.std.proofs.lemmas.List.Elements.{All-nil, All-cons, All-push, All-weaker, All-contains}
use Rattle.cap_format.specs.declared.cap.Cap.{Cap}
use Rattle.cap_format.specs.declared.image.ProgramHeader.{ProgramHeader}
use Rattle.cap_format.specs.Image.{segments_of, end_of}
use Rattle.cap_format.specs.ImageLaws.{AreSegmentsBehind, ImagesAreSound}
use Rattle.machine_types.specs.declared.config.Rule.{Rule}
use Rattle.machine_types.specs.Held.{AreHeld}
use Rattle.machine_types.specs.MemoryLaws.{PagesAreMoved}
use Rattle.machine_types.specs.Stores.{Page, moved_page}
use Rattle.machine_types.specs.Accounts.{Class, has_member, class_for}
use Rattle.contents.specs.Content.{Content, nothing, page_in, page_at}
use Rattle.contents.specs.Looks.{rights_of}
use Rattle.contents.specs.Regions.{begin_of, seed_cap_of}
use Rattle.contents.specs.Whole.{IsWhole, CallsKeepWhole}
use Rattle.elf_loader.specs.declared.image.Segment.{Segment}
use Rattle.elf_loader.specs.declared.image.Reloc.{Reloc}
use Rattle.elf_loader.specs.declared.image.Image.{Image}
use Rattle.elf_loader.specs.Numbers.{process_region}
use Rattle.elf_loader.specs.Loaded.{segment_of, image_of}
use Rattle.elf_loader.specs.Start.{first_page, page_count, capability_for, with_pages, with_segments, with_relocations, started}
use Rattle.elf_loader.specs.StartLaws.{MayStart, IsOffSegment, StartsAreExact, started_from}
use Rattle.machine.specs.Sound.{IsClassOf, IsInRange, IsAlone}
use Rattle.machine.specs.Steady.{ContentIsSound}
use Rattle.machine_steps.specs.Laws.{MayBoot}
use Rattle.machine_steps.specs.Runs.{Setup}

-- Classes.

-- a class of one page of the process, which is at home
record IsOwnClass (class : Class) : Type 0 where
  page : ℕ
  is : class ≡ class_for process_region page

-- the pages of a segment put such classes
pages-own : (file : List ℕ) (segment : Segment) (c : Content) (n : ℕ) → All IsOwnClass c.account → All IsOwnClass (with_pages file segment c n).account
unfolding with_pages
pages-own file segment c zero own = own
pages-own file segment c (suc n) own =
    let page = first_page segment + n in
    All-push IsOwnClass (with_pages file segment c n).account (class_for process_region page) (pages-own file segment c n own) (record { page = page; is = refl })

-- and so do those of segments
segments-own : (file : List ℕ) (segments : List Segment) (c : Content) → All IsOwnClass c.account → All IsOwnClass (with_segments file c segments).account
unfolding with_segments
segments-own file [] c own = own
segments-own file (segment ∷ segments) c own = segments-own file segments (with_pages file segment c (page_count segment)) (pages-own file segment c (page_count segment) own)

-- relocations put none
relocs-own : (relocs : List Reloc) (c : Content) → All IsOwnClass c.account → All IsOwnClass (with_relocations c relocs).account
unfolding with_relocations seed_cap_of
relocs-own [] c own = own
relocs-own (reloc ∷ relocs) c own = relocs-own relocs (seed_cap_of c process_region reloc.place (capability_for reloc)) own

-- so each class of a started image is such a class
started-own : (file : List ℕ) (image : Image) (rule : Rule) (frames : ℕ) → All IsOwnClass (started file image (nothing rule frames)).account
unfolding begin_of
started-own file image rule frames =
    let begun = begin_of (nothing rule frames) process_region in
    relocs-own image.relocs (with_segments file begun image.segments) (segments-own file image.segments begun (All-nil IsOwnClass))

-- its one member is its page
own-member : (page r p : ℕ) → has_member r p (class_for process_region page) ≡ true → (process_region ≡ r) × (page ≡ p)
own-member page r p h = grind (arith, nat_tests)

-- a move to the same region changes nothing of a page that holds what the region may hold
same-page : PagesAreMoved → (o : Option Page) → ((p : Page) → o ≡ Some p → AreHeld process_region p.granules) → option_map (moved_page process_region process_region) o ≡ o
same-page moves None held = refl
same-page moves (Some p) held =
    ap (λ (granules : List Cap). Some (record { rights = p.rights; granules = granules })) (moves.itself process_region p.granules (omega arith) (held p refl))

-- such a class is exact in a whole content
own-is-class : PagesAreMoved → (c : Content) → IsWhole c → (class : Class) → IsOwnClass class → IsClassOf c class
own-is-class moves c whole class own = subst (IsClassOf c) (sym own.is) (record {
  one_page = λ r p s q h k. let a = own-member own.page r p h in let b = own-member own.page s q k in sym a.1 ∙ b.1;
  different = λ r. by (nat_eq process_region r);
  moves = λ r s p h k.
      let a = own-member own.page r p h in
      let b = own-member own.page s p k in
      rw (← a.0, ← b.0) (sym (same-page moves (page_at c process_region p) (whole.held process_region p)));
})
  where
    by : (b : Bool) → cond b (1 + 0) 0 ≤ 1
    by true = omega arith
    by false = omega arith

-- in range where there is a region
own-in-range : (n : ℕ) → 1 ≤ n → (class : Class) → IsOwnClass class → IsInRange n class
own-in-range n some class own = subst (IsInRange n) (sym own.is) (record { home = omega arith; members = λ r p h. let a = own-member own.page r p h in omega arith })

-- and alone
own-is-alone : (class : Class) → IsOwnClass class → IsAlone class
own-is-alone class own = subst IsAlone (sym own.is) (record { one = refl; home = λ r p h. let a = own-member own.page r p h in sym a.0 })

-- Rights.

-- a page is one of those of a segment
record IsOnSegment (page : ℕ) (segments : List Segment) : Type 0 where
  segment : Segment
  one : Contains segments segment
  number : ℕ
  below : number < page_count segment
  here : page ≡ first_page segment + number

-- A page number lies among so many from the first on, or not.
among : (first count page : ℕ) → ((first ≤ page) × (page < first + count)) ⊎ ((page < first) ⊎ (first + count ≤ page))
among first count page = by (leb_tells first page) (leb_tells (first + count) page)
  where
    by : ((nat_le first page ≡ true) × (first ≤ page)) ⊎ ((nat_le first page ≡ false) × (page < first))
        → ((nat_le (first + count) page ≡ true) × (first + count ≤ page)) ⊎ ((nat_le (first + count) page ≡ false) × (page < first + count))
        → ((first ≤ page) × (page < first + count)) ⊎ ((page < first) ⊎ (first + count ≤ page))
    by (inr (t, before)) o = inr (inl before)
    by (inl (t, from)) (inl (u, behind)) = inr (inr behind)
    by (inl (t, from)) (inr (u, to)) = inl (from, to)

-- A page is one of a segment's, or it is none of any.
on-or-off : (page : ℕ) (segments : List Segment) → IsOnSegment page segments ⊎ All (IsOffSegment page) segments
on-or-off page [] = inr (All-nil (IsOffSegment page))
on-or-off page (segment ∷ segments) = by (among (first_page segment) (page_count segment) page) (on-or-off page segments)
  where
    by : ((first_page segment ≤ page) × (page < first_page segment + page_count segment)) ⊎ IsOffSegment page segment → IsOnSegment page segments ⊎ All (IsOffSegment page) segments
        → IsOnSegment page (segment ∷ segments) ⊎ All (IsOffSegment page) (segment ∷ segments)
    by (inl (from, to)) rest = inl (record { segment = segment; one = (zero, omega arith, refl); number = page - first_page segment; below = omega arith; here = omega arith })
    by (inr off) (inl on) = inl (record { segment = on.segment; one = (suc on.one.0, (let w = on.one.1 in omega arith), on.one.2); number = on.number; below = on.below; here = on.here })
    by (inr off) (inr rest) = inr (All-cons (IsOffSegment page) segment segments off rest)

-- the rights of each segment are three bits
segments-low : (n past : ℕ) (headers : List ProgramHeader) → AreSegmentsBehind n past headers → All (λ (segment : Segment). segment.rights < 8) (map segment_of headers)
segments-low n past [] behind = All-nil (λ (segment : Segment). segment.rights < 8)
segments-low n past (header ∷ headers) behind =
    All-cons (λ (segment : Segment). segment.rights < 8) (segment_of header) (map segment_of headers) behind.0.rights (segments-low n (end_of header) headers behind.1)

-- a page with the rights of a segment has three bits
rights-low : (o : Option Page) (p : Page) (rights : ℕ) → o ≡ Some p → option_map (λ q. q.rights) o ≡ Some rights → rights < 8 → p.rights < 8
rights-low None p rights there is low = absurd (cc)
rights-low (Some q) p rights there is low = let same : p.rights ≡ rights = cc in rw same low

-- The content of an image that may be booted.
module _ (images : ImagesAreSound) (moves : PagesAreMoved) (keep : CallsKeepWhole) (exact : StartsAreExact) (setup : Setup) (boot : MayBoot setup) where
  abbrev file : List ℕ
  file = setup.file

  abbrev before : Content
  before = nothing setup.config.rule setup.config.frames

  -- the image may be started where nothing is
  may-start : MayStart setup.file (nothing setup.config.rule setup.config.frames)
  may-start = record { image = boot.image; bytes = boot.bytes; whole = keep.first setup.config.rule setup.config.frames; none = refl; room = let room = boot.room in omega arith }

  -- each page of the process has three bits of rights
  own-rights : (page : ℕ) (p : Page) → page_at (started_from file before) process_region page ≡ Some p → p.rights < 8
  unfolding rights_of
  own-rights page p there = by (on-or-off page (image_of file).segments)
    where
      by : IsOnSegment page (image_of file).segments ⊎ All (IsOffSegment page) (image_of file).segments → p.rights < 8
      by (inl on) =
          rights-low (page_at (started_from file before) process_region page) p on.segment.rights there
          (rw on.here (exact.rights file before on.segment on.number may-start on.one on.below))
          (All-contains (λ (segment : Segment). segment.rights < 8) (image_of file).segments on.segment (segments-low _ 0 (segments_of file) (images.segments file boot.image)) on.one)
      by (inr off) = let none = exact.absent file before page may-start off in absurd (cc)

  -- and no other region has a page
  all-rights : (region page : ℕ) (p : Page) → page_at (started_from file before) region page ≡ Some p → p.rights < 8
  all-rights region page p there = by (eqb_tells region process_region)
    where
      by : ((nat_eq region process_region ≡ true) × (region ≡ process_region)) ⊎ ((nat_eq region process_region ≡ false) × (region ≢ process_region)) → p.rights < 8
      by (inl (test, same)) = own-rights page p (rw same at there)
      by (inr (test, other)) = let none = ap (λ o. page_in o page) (exact.others file before region other) in absurd (cc)

  -- the content is sound
  pub started-sound : ContentIsSound setup.config.regions (started_from setup.file (nothing setup.config.rule setup.config.frames))
  started-sound =
      let own = started-own file (image_of file) setup.config.rule setup.config.frames in
      let whole = exact.whole file before may-start in
      let account = (started_from file before).account in
      record {
        whole = whole;
        classes = All-weaker IsOwnClass (IsClassOf (started_from file before)) (own-is-class moves (started_from file before) whole) account own;
        range = All-weaker IsOwnClass (IsInRange setup.config.regions) (own-in-range setup.config.regions boot.config.some_regions) account own;
        alone = λ full. All-weaker IsOwnClass IsAlone own-is-alone account own;
        rights = all-rights;
      }
