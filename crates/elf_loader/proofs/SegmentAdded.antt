-- The pages of a segment that are added to a space one by one.
use Rattle.std.proofs.Common.{◌≢◌, ◌⊎◌, inl, ℕ, ◌+◌, ◌<◌, List, refl, subst}
use Rattle.contents.specs.Content.{Content}
use Rattle.contents.specs.Regions.{add_page_of}
use Rattle.contents.specs.Conditions.{LacksPage}
use Rattle.stores.specs.Known.{Translations, StandsFor, KeepsStores, FrameStays, OtherFramesStay}
use Rattle.elf_loader.specs.declared.image.Segment.{Segment}
use Rattle.elf_loader.specs.Numbers.{process_region}
use Rattle.elf_loader.specs.Start.{first_page, page_part, with_pages}
use Rattle.elf_loader.specs.Adding.{HasRoom}
use Rattle.elf_loader.proofs.RoomForPages.{room-lacks, room-next, next-added}
use Rattle.elf_loader.proofs.StepsInRow.{keeps-itself, keeps-both, frames-both, stands-where}

-- What a space stands for after so many pages were added, where there was room for all, and what that kept.
pub record HasAdded {S : Type 0} (stands_for : S → Content → Type 0) (translation_at : S → Translations) (file : List ℕ) (segment : Segment) (pages : ℕ) (old new : S) (count : ℕ) : Type 0 where
  pub after : (c : Content) → stands_for old c → HasRoom (first_page segment) pages c → stands_for new (with_pages file segment c count)
  pub keeps : KeepsStores stands_for old new
  pub frames : OtherFramesStay (translation_at old) (translation_at new) process_region

module _ {S : Type 0} (stands_for : S → Content → Type 0) (translation_at : S → Translations) (file : List ℕ) (segment : Segment) (pages : ℕ) (old : S) where
  -- none at first
  pub none-added : ∥ StandsFor stands_for old (HasRoom (first_page segment) pages) ∥₁ → HasAdded stands_for translation_at file segment pages old old 0
  unfolding with_pages
  none-added room = record { after = λ c stands _. stands; keeps = keeps-itself stands_for old (HasRoom (first_page segment) pages) room; frames = λ r p _. refl }

  -- the next page is absent
  pub lacks-next : (mid : S) (count : ℕ) → count < pages → ∥ StandsFor stands_for old (HasRoom (first_page segment) pages) ∥₁ → HasAdded stands_for translation_at file segment pages old mid count
      → ∥ StandsFor stands_for mid (LacksPage process_region (first_page segment + count)) ∥₁
  lacks-next mid count below room had =
      stands-where stands_for old mid (HasRoom (first_page segment) pages) (LacksPage process_region (first_page segment + count)) (λ c. with_pages file segment c count) had.after
      (λ c _ has. room-lacks (room-next file segment c count below has)) room

  -- one page more
  pub one-added : (mid new : S) (count : ℕ) → count < pages
      → ((c : Content) → stands_for mid c → stands_for new (add_page_of c process_region (first_page segment + count) segment.rights (page_part file segment count)).after)
      → KeepsStores stands_for mid new → ((r p : ℕ) → (r ≢ process_region) ⊎ (p ≢ first_page segment + count) → FrameStays (translation_at mid) (translation_at new) r p)
      → HasAdded stands_for translation_at file segment pages old mid count → HasAdded stands_for translation_at file segment pages old new (count + 1)
  one-added mid new count below after keeps frames had = record {
    after = λ c stands room. subst (stands_for new) (next-added file segment c count below room) (after (with_pages file segment c count) (had.after c stands room));
    keeps = keeps-both stands_for old mid new had.keeps keeps;
    frames = frames-both (translation_at old) (translation_at mid) (translation_at new) process_region had.frames (λ r p other. frames r p (inl other));
  }
