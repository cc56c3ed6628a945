-- The capabilities of relocations that are stored in a space one after another.
use Rattle.std.proofs.Common.{◌≡◌, ◌∙◌, ℕ, ◌+◌, ◌<◌, ◌≤◌, List, ◌∷◌, length, drop, get_or, refl, ap, subst}
use Rattle.std.proofs.lemmas.List.{drop_more, drop_all}
use Rattle.cap_format.specs.declared.cap.Cap.{Cap}
use Rattle.contents.specs.Content.{Content}
use Rattle.contents.specs.Accesses.{page_of_place}
use Rattle.contents.specs.Regions.{seed_cap_of}
use Rattle.contents.specs.Conditions.{IsOwn}
use Rattle.stores.specs.Known.{Translations, StandsFor, KeepsStores, FramesStay}
use Rattle.stores.proofs.Keeping.{stands-weaker, stands-after}
use Rattle.elf_loader.specs.declared.image.Reloc.{Reloc}
use Rattle.elf_loader.specs.Numbers.{process_region}
use Rattle.elf_loader.specs.Start.{capability_for, with_relocations}
use Rattle.elf_loader.specs.Adding.{HasOwnPlaces}
use Rattle.elf_loader.proofs.OwnPages.{own-seeded}
use Rattle.elf_loader.proofs.StepsInRow.{keeps-itself, keeps-both}

-- a stored capability leaves the pages of all places the process's own
places-seeded : (relocs : List Reloc) (at : ℕ) (cap : Cap) (c : Content) → HasOwnPlaces relocs c → HasOwnPlaces relocs (seed_cap_of c process_region at cap)
places-seeded relocs at cap c own k d below = own-seeded process_region (page_of_place (get_or relocs k d).place) at cap c (own k d below)

-- A space stands for a content that becomes the target with the rest of the relocations.
pub record IsToSeed {S : Type 0} (stands_for : S → Content → Type 0) (s : S) (rest : List Reloc) (target : Content) : Type 0 where
  pub content : Content
  pub stands : stands_for s content
  pub reaches : with_relocations content rest ≡ target

-- What a space stands for where the rest of the relocations is still to be stored, and what the others kept.
pub record HasSeededBut {S : Type 0} (stands_for : S → Content → Type 0) (translation_at : S → Translations) (relocs : List Reloc) (old new : S) (rest : List Reloc) : Type 0 where
  pub own : ∥ StandsFor stands_for new (HasOwnPlaces relocs) ∥₁
  pub after : (c : Content) → stands_for old c → IsToSeed stands_for new rest (with_relocations c relocs)
  pub keeps : KeepsStores stands_for old new
  pub frames : FramesStay (translation_at old) (translation_at new)

module _ {S : Type 0} (stands_for : S → Content → Type 0) (translation_at : S → Translations) (relocs : List Reloc) (old : S) where
  -- all are left at first
  pub none-seeded : ∥ StandsFor stands_for old (HasOwnPlaces relocs) ∥₁ → HasSeededBut stands_for translation_at relocs old old relocs
  none-seeded own = record {
    own = own;
    after = λ c stands. record { content = c; stands = stands; reaches = refl };
    keeps = keeps-itself stands_for old (HasOwnPlaces relocs) own;
    frames = λ r p. refl;
  }

  -- the relocation at an index is the next
  pub next-seed : (mid : S) (i : ℕ) (d : Reloc) → i < length relocs → HasSeededBut stands_for translation_at relocs old mid (drop i relocs)
      → HasSeededBut stands_for translation_at relocs old mid (get_or relocs i d ∷ drop (i + 1) relocs)
  next-seed mid i d below = subst (HasSeededBut stands_for translation_at relocs old mid) (drop_more relocs i d below)

  -- its page is the process's own
  pub own-at : (mid : S) (i : ℕ) (d : Reloc) → i < length relocs → HasSeededBut stands_for translation_at relocs old mid (drop i relocs)
      → ∥ StandsFor stands_for mid (IsOwn process_region (page_of_place (get_or relocs i d).place)) ∥₁
  own-at mid i d below had = stands-weaker stands_for mid (HasOwnPlaces relocs) (IsOwn process_region (page_of_place (get_or relocs i d).place)) (λ c own. own i d below) had.own

  -- its capability is stored
  pub one-seeded : (mid new : S) (reloc : Reloc) (rest : List Reloc) (cap : Cap) → cap ≡ capability_for reloc
      → ((c : Content) → stands_for mid c → stands_for new (seed_cap_of c process_region reloc.place cap))
      → KeepsStores stands_for mid new → FramesStay (translation_at mid) (translation_at new) → HasSeededBut stands_for translation_at relocs old mid (reloc ∷ rest)
      → HasSeededBut stands_for translation_at relocs old new rest
  unfolding with_relocations
  one-seeded mid new reloc rest cap made seeded keeps frames had = record {
    own = stands-after stands_for mid new (λ c. seed_cap_of c process_region reloc.place cap) seeded (HasOwnPlaces relocs) (HasOwnPlaces relocs)
        (λ c _. places-seeded relocs reloc.place cap c) had.own;
    after = λ c stands.
        let way = had.after c stands in
        record {
          content = seed_cap_of way.content process_region reloc.place cap;
          stands = seeded way.content way.stands;
          reaches = ap (λ (cap : Cap). with_relocations (seed_cap_of way.content process_region reloc.place cap) rest) made ∙ way.reaches;
        };
    keeps = keeps-both stands_for old mid new had.keeps keeps;
    frames = λ r p. frames r p ∙ had.frames r p;
  }

  -- none is left at the end
  pub all-seeded : (new : S) (i : ℕ) → length relocs ≤ i → HasSeededBut stands_for translation_at relocs old new (drop i relocs)
      → (c : Content) → stands_for old c → stands_for new (with_relocations c relocs)
  unfolding with_relocations
  all-seeded new i past had c stands =
      let all = subst (HasSeededBut stands_for translation_at relocs old new) (drop_all i relocs past) had in
      let way = all.after c stands in
      subst (stands_for new) way.reaches way.stands
