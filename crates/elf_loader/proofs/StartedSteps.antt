-- What holds through all pages that a start adds, and through all granules that it stores.
use Rattle.std.proofs.Common.{◌≡◌, ◌∙◌, ℕ, zero, suc, ◌+◌, List, [], ◌∷◌, refl, arith}
use Rattle.cap_format.specs.declared.cap.Cap.{Cap}
use Rattle.contents.specs.Content.{Content, used_frames}
use Rattle.contents.specs.Regions.{with_new_page, seed_cap_of}
use Rattle.elf_loader.specs.declared.image.Segment.{Segment}
use Rattle.elf_loader.specs.declared.image.Reloc.{Reloc}
use Rattle.elf_loader.specs.Numbers.{process_region}
use Rattle.elf_loader.specs.Adding.{page_total}
use Rattle.elf_loader.specs.Start.{first_page, page_count, page_part, capability_for, with_pages, with_segments, with_relocations}
use Rattle.elf_loader.proofs.AddedPage.{put-used}

-- What each page that is put keeps.
module _ (P : Content → Type 0) (put : (c : Content) (page rights : ℕ) (bytes : List ℕ) → P c → P (with_new_page c process_region page rights bytes)) where
  -- the pages of a segment keep it
  pub by-pages : (file : List ℕ) (segment : Segment) (c : Content) (n : ℕ) → P c → P (with_pages file segment c n)
  unfolding with_pages
  by-pages file segment c zero is = is
  by-pages file segment c (suc n) is = put (with_pages file segment c n) (first_page segment + n) segment.rights (page_part file segment n) (by-pages file segment c n is)

  -- and those of segments do
  pub by-segments : (file : List ℕ) (segments : List Segment) (c : Content) → P c → P (with_segments file c segments)
  unfolding with_segments
  by-segments file [] c is = is
  by-segments file (segment ∷ segments) c is = by-segments file segments (with_pages file segment c (page_count segment)) (by-pages file segment c (page_count segment) is)

-- what each granule that is stored keeps is kept by relocations
pub by-relocs : (P : Content → Type 0) → ((c : Content) (at : ℕ) (cap : Cap) → P c → P (seed_cap_of c process_region at cap))
    → (relocs : List Reloc) (c : Content) → P c → P (with_relocations c relocs)
unfolding with_relocations
by-relocs P seed [] c is = is
by-relocs P seed (reloc ∷ relocs) c is = by-relocs P seed relocs (seed_cap_of c process_region reloc.place (capability_for reloc)) (seed c reloc.place (capability_for reloc) is)

-- each page of a segment takes a frame
pages-used : (file : List ℕ) (segment : Segment) (c : Content) (n : ℕ) → used_frames (with_pages file segment c n) ≡ used_frames c + n
unfolding with_pages
pages-used file segment c zero = omega arith
pages-used file segment c (suc n) =
    put-used (with_pages file segment c n) process_region (first_page segment + n) segment.rights (page_part file segment n) ∙ (let rest = pages-used file segment c n in omega arith)

-- and each page of segments does
pub segments-used : (file : List ℕ) (segments : List Segment) (c : Content) → used_frames (with_segments file c segments) ≡ used_frames c + page_total segments
unfolding with_segments
segments-used file [] c = omega arith
segments-used file (segment ∷ segments) c =
    segments-used file segments (with_pages file segment c (page_count segment)) ∙ (let first = pages-used file segment c (page_count segment) in omega arith)

-- a granule that is stored takes none
pub relocs-used : (relocs : List Reloc) (c : Content) → used_frames (with_relocations c relocs) ≡ used_frames c
unfolding seed_cap_of
relocs-used relocs c = by-relocs (λ d. used_frames d ≡ used_frames c) (λ d at cap is. is) relocs c refl
