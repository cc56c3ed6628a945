-- What relocations leave of a content whose pages are its own.
use Rattle.std.proofs.Common.{◌≡◌, ◌≢◌, ◌∙◌, ◌⊎◌, inl, inr, ℕ, zero, suc, ◌+◌, ◌%◌, ◌/◌, ◌^◌, ◌*◌, ◌<◌, is_some, Option, Some, None, List, [], ◌∷◌, get_or, All, refl, ap, sym, subst, arith}
use Rattle.std.specs.Prelude.{IsSome, Contains}
use Rattle.std.specs.Option.{option_map}
use Rattle.std.proofs.lemmas.Bool.{cases_eq}
use Rattle.std.proofs.lemmas.List.Elements.{All-head, All-tail, All-weaker}
use Rattle.cap_format.specs.Numbers.{page_bytes, granule_bytes}
use Rattle.cap_format.specs.declared.cap.Cap.{Cap}
use Rattle.machine_types.specs.Granules.{granule}
use Rattle.machine_types.specs.Held.{MayHold}
use Rattle.machine_types.specs.Stores.{Page}
use Rattle.contents.specs.Content.{Content, page_at}
use Rattle.contents.specs.Accesses.{page_of_place, granule_of_place}
use Rattle.contents.specs.Regions.{seed_cap_of}
use Rattle.contents.specs.Laws.{RegionsAreKept}
use Rattle.contents.specs.Looks.{peek_of, rights_of}
use Rattle.contents.specs.Reading.{seen}
use Rattle.contents.specs.Transfers.{byte_in}
use Rattle.contents.specs.Whole.{CallsKeepWhole}
use Rattle.contents.specs.Writing.{WritesAreRead, AllElseStays, IsOtherGranule, byte_seen}
use Rattle.contents.proofs.PageRights.{some-rights}
use Rattle.elf_loader.specs.declared.image.Reloc.{Reloc}
use Rattle.elf_loader.specs.Numbers.{process_region}
use Rattle.elf_loader.specs.Start.{capability_for, with_relocations}
use Rattle.elf_loader.specs.StartLaws.{IsOffReloc}
use Rattle.elf_loader.specs.Adding.{IsPlaceable}
use Rattle.elf_loader.proofs.ImageParts.{AreRising, rising-behind}
use Rattle.elf_loader.proofs.StartedSteps.{by-relocs}
use Rattle.elf_loader.proofs.OwnPages.{IsOwned, own-seeded}

-- What a relocation stores is a pattern that its region may hold, and its page is there.
pub record MayStore (c : Content) (reloc : Reloc) : Type 0 where
  pub there : IsSome (page_at c process_region (page_of_place reloc.place))
  pub pattern : (capability_for reloc).bits < 2 ^ 128
  pub may : MayHold process_region (capability_for reloc)

-- granules at two places are on other pages, or are others of one
places-apart : (at place : ℕ) → (at / granule_bytes ≢ place / granule_bytes) → IsOtherGranule place (page_of_place at) (granule_of_place at)
places-apart at place other = by (cases_eq (page_of_place at) (page_of_place place))
  where
    by : (page_of_place at ≡ page_of_place place) ⊎ (page_of_place at ≢ page_of_place place) → IsOtherGranule place (page_of_place at) (granule_of_place at)
    by (inl same) = inr (λ here. other (omega arith))
    by (inr apart) = inl apart

-- a place that a relocation doesn't reach
pub off-granule : (at : ℕ) (reloc : Reloc) → reloc.place % granule_bytes ≡ 0 → IsOffReloc at reloc → IsOtherGranule reloc.place (page_of_place at) (granule_of_place at)
off-granule at reloc aligned (inl before) = places-apart at reloc.place (λ same. omega arith)
off-granule at reloc aligned (inr behind) = places-apart at reloc.place (λ same. omega arith)

-- a byte is the same where its granule is
pub byte-same : (c d : Content) (region at : ℕ) → peek_of c region (page_of_place at) (granule_of_place at) ≡ peek_of d region (page_of_place at) (granule_of_place at)
    → byte_seen c region at ≡ byte_seen d region at
unfolding peek_of
byte-same c d region at = by (page_at c region (page_of_place at)) (page_at d region (page_of_place at))
  where
    here : Page → Cap
    here p = granule p.granules (granule_of_place at)

    by : (o u : Option Page) → option_map here o ≡ option_map here u → byte_in o at ≡ byte_in u at
    by None None same = refl
    by None (Some q) same = absurd (cc)
    by (Some p) None same = absurd (cc)
    by (Some p) (Some q) same =
        let one : here p ≡ here q = cc in
        ap (λ (cap : Cap). cap.bits / 2 ^ (8 * (at % page_bytes % granule_bytes)) % 2 ^ 8) one

-- What a granule that is stored leaves, by the law of what stays.
module _ (stays : AllElseStays) where
  -- each page there, or not there
  seed-there : (c : Content) (at page : ℕ) (cap : Cap) → is_some (page_at (seed_cap_of c process_region at cap) process_region page) ≡ is_some (page_at c process_region page)
  seed-there c at page cap =
      sym (some-rights (seed_cap_of c process_region at cap) process_region page)
      ∙ ap (λ (o : Option ℕ). is_some o) (stays.seed_rights c process_region at page cap) ∙ some-rights c process_region page

  -- so relocations may store still
  seed-may : (c : Content) (at : ℕ) (cap : Cap) (relocs : List Reloc) → All (MayStore c) relocs → All (MayStore (seed_cap_of c process_region at cap)) relocs
  seed-may c at cap relocs =
      All-weaker (MayStore c) (MayStore (seed_cap_of c process_region at cap))
      (λ r may. record { there = seed-there c at (page_of_place r.place) cap ∙ may.there; pattern = may.pattern; may = may.may }) relocs

  -- relocations leave the rights of each page
  pub relocs-rights : (relocs : List Reloc) (c : Content) (page : ℕ) → rights_of (with_relocations c relocs) process_region page ≡ rights_of c process_region page
  relocs-rights relocs c page =
      by-relocs (λ d. rights_of d process_region page ≡ rights_of c process_region page) (λ d at cap is. stays.seed_rights d process_region at page cap ∙ is) relocs c refl

  -- and each granule that is none of theirs
  pub relocs-granules : (relocs : List Reloc) (c : Content) (page g : ℕ) → All (λ r. IsOtherGranule r.place page g) relocs
      → peek_of (with_relocations c relocs) process_region page g ≡ peek_of c process_region page g
  unfolding with_relocations
  relocs-granules [] c page g apart = refl
  relocs-granules (reloc ∷ relocs) c page g apart =
      relocs-granules relocs (seed_cap_of c process_region reloc.place (capability_for reloc)) page g (All-tail (λ r. IsOtherGranule r.place page g) reloc relocs apart)
      ∙ stays.seed_granules c process_region reloc.place page g (capability_for reloc) (All-head (λ r. IsOtherGranule r.place page g) reloc relocs apart)

-- What relocations leave of a content whose pages are its own, by the laws of what they are made of.
module _ (keep : CallsKeepWhole) (stays : AllElseStays) (regions : RegionsAreKept) where
  -- pages stay their own where one stores its capability
  seed-owned : (c : Content) (reloc : Reloc) → IsOwned process_region c → MayStore c reloc → IsOwned process_region (seed_cap_of c process_region reloc.place (capability_for reloc))
  seed-owned c reloc is may = record {
    whole = keep.seed_cap c process_region reloc.place (capability_for reloc) is.whole may.pattern may.may;
    store = regions.seed_cap c process_region reloc.place (capability_for reloc) process_region ∙ is.store;
    own = λ page there. own-seeded process_region page reloc.place (capability_for reloc) c (is.own page (sym (seed-there stays c reloc.place page (capability_for reloc)) ∙ there));
  }

  -- and where all of them do
  pub relocs-owned : (relocs : List Reloc) (c : Content) → IsOwned process_region c → All (MayStore c) relocs → IsOwned process_region (with_relocations c relocs)
  unfolding with_relocations
  relocs-owned [] c is may = is
  relocs-owned (reloc ∷ relocs) c is may =
      relocs-owned relocs (seed_cap_of c process_region reloc.place (capability_for reloc)) (seed-owned c reloc is (All-head (MayStore c) reloc relocs may))
      (seed-may stays c reloc.place (capability_for reloc) relocs (All-tail (MayStore c) reloc relocs may))

  -- the capability of each is seen at its place
  pub relocs-seen : WritesAreRead → (relocs : List Reloc) (c : Content) (least : ℕ) (reloc : Reloc) → IsOwned process_region c → All (MayStore c) relocs → All IsPlaceable relocs
      → AreRising least relocs → Contains relocs reloc → seen (with_relocations c relocs) process_region reloc.place ≡ Some (capability_for reloc)
  unfolding with_relocations
  relocs-seen written [] c least reloc is may placeable are (k, below, same) = absurd (omega arith)
  relocs-seen written (first ∷ relocs) c least reloc is may placeable are (zero, below, same) =
      subst (λ (r : Reloc). seen (with_relocations mid relocs) process_region r.place ≡ Some (capability_for r)) same
      (relocs-granules stays relocs mid (page_of_place first.place) (granule_of_place first.place) apart
      ∙ written.seed_seen c process_region first.place (capability_for first) is.whole (is.own (page_of_place first.place) (All-head (MayStore c) first relocs may).there))
    where
      mid : Content
      mid = seed_cap_of c process_region first.place (capability_for first)

      apart : All (λ (r : Reloc). IsOtherGranule r.place (page_of_place first.place) (granule_of_place first.place)) relocs
      apart i d within =
          let behind = rising-behind (first.place + 1) relocs are.1 i d within in
          off-granule first.place (get_or relocs i d) (All-tail IsPlaceable first relocs placeable i d within).at_granule (inl (omega arith))
  relocs-seen written (first ∷ relocs) c least reloc is may placeable are (suc k, below, same) =
      relocs-seen written relocs (seed_cap_of c process_region first.place (capability_for first)) (first.place + 1) reloc (seed-owned c first is (All-head (MayStore c) first relocs may))
      (seed-may stays c first.place (capability_for first) relocs (All-tail (MayStore c) first relocs may)) (All-tail IsPlaceable first relocs placeable) are.1 (k, omega arith, same)
