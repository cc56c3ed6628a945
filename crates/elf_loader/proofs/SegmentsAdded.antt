-- The pages of segments that are added to a space one segment after another.
use Rattle.std.proofs.Common.{◌≡◌, ℕ, ◌+◌, ◌<◌, ◌≤◌, List, ◌∷◌, length, drop, get_or, refl, subst, arith}
use Rattle.std.proofs.Math.Logic.{∥∥₁_map}
use Rattle.std.proofs.lemmas.List.{drop_more, drop_all}
use Rattle.contents.specs.Content.{Content}
use Rattle.stores.specs.Known.{Translations, StandsFor, KeepsStores, OtherFramesStay}
use Rattle.elf_loader.specs.declared.image.Segment.{Segment}
use Rattle.elf_loader.specs.Numbers.{process_region}
use Rattle.elf_loader.specs.Start.{first_page, page_count, with_pages, with_segments}
use Rattle.elf_loader.specs.Adding.{ArePlaced, page_total, HasRoom}
use Rattle.elf_loader.proofs.RoomForPages.{room-later, room-behind}
use Rattle.elf_loader.proofs.StepsInRow.{keeps-itself, keeps-both, frames-both}

-- A space stands for a content that has room for the rest of the segments, and that becomes the target with them.
pub record IsOnTheWay {S : Type 0} (stands_for : S → Content → Type 0) (file : List ℕ) (s : S) (first : ℕ) (rest : List Segment) (target : Content) : Type 0 where
  pub content : Content
  pub stands : stands_for s content
  pub room : HasRoom first (page_total rest) content
  pub reaches : with_segments file content rest ≡ target

-- What a space stands for where the rest of the segments is still to be added, and what the others kept.
pub record HasAddedBut {S : Type 0} (stands_for : S → Content → Type 0) (translation_at : S → Translations) (file : List ℕ) (segments : List Segment) (old new : S) (rest : List Segment) : Type 0 where
  pub first : ℕ
  pub placed : ArePlaced (length file) first rest
  pub after : (c : Content) → stands_for old c → HasRoom 0 (page_total segments) c → IsOnTheWay stands_for file new first rest (with_segments file c segments)
  pub keeps : KeepsStores stands_for old new
  pub frames : OtherFramesStay (translation_at old) (translation_at new) process_region

module _ {S : Type 0} (stands_for : S → Content → Type 0) (translation_at : S → Translations) (file : List ℕ) (segments : List Segment) (old : S) where
  -- all are left at first
  pub all-left : ArePlaced (length file) 0 segments → ∥ StandsFor stands_for old (HasRoom 0 (page_total segments)) ∥₁ → HasAddedBut stands_for translation_at file segments old old segments
  all-left placed room = record {
    first = 0;
    placed = placed;
    after = λ c stands room. record { content = c; stands = stands; room = room; reaches = refl };
    keeps = keeps-itself stands_for old (HasRoom 0 (page_total segments)) room;
    frames = λ r p _. refl;
  }

  -- the segment at an index is the next
  pub next-at : (mid : S) (i : ℕ) (d : Segment) → i < length segments → HasAddedBut stands_for translation_at file segments old mid (drop i segments)
      → HasAddedBut stands_for translation_at file segments old mid (get_or segments i d ∷ drop (i + 1) segments)
  next-at mid i d below = subst (HasAddedBut stands_for translation_at file segments old mid) (drop_more segments i d below)

  -- there is room for it
  pub room-for-next : (mid : S) (segment : Segment) (rest : List Segment) → ∥ StandsFor stands_for old (HasRoom 0 (page_total segments)) ∥₁
      → HasAddedBut stands_for translation_at file segments old mid (segment ∷ rest) → ∥ StandsFor stands_for mid (HasRoom (first_page segment) (page_count segment)) ∥₁
  room-for-next mid segment rest room had = ∥∥₁_map room (λ (known : StandsFor stands_for old (HasRoom 0 (page_total segments))).
      let way = had.after known.content known.stands known.holds in
      record { content = way.content; stands = way.stands; holds = room-later way.room had.placed.1 (omega arith) })

  -- it is added
  pub segment-added : (mid new : S) (segment : Segment) (rest : List Segment)
      → ((c : Content) → stands_for mid c → HasRoom (first_page segment) (page_count segment) c → stands_for new (with_pages file segment c (page_count segment)))
      → KeepsStores stands_for mid new → OtherFramesStay (translation_at mid) (translation_at new) process_region
      → HasAddedBut stands_for translation_at file segments old mid (segment ∷ rest) → HasAddedBut stands_for translation_at file segments old new rest
  unfolding with_segments
  segment-added mid new segment rest added keeps frames had = record {
    first = first_page segment + page_count segment;
    placed = had.placed.2;
    after = λ c stands room.
        let way = had.after c stands room in
        let here : HasRoom (first_page segment) (page_count segment + page_total rest) way.content = room-later way.room had.placed.1 (omega arith) in
        record {
          content = with_pages file segment way.content (page_count segment);
          stands = added way.content way.stands (room-later here (omega arith) (omega arith));
          room = room-behind file segment way.content (page_count segment) (page_total rest) here;
          reaches = way.reaches;
        };
    keeps = keeps-both stands_for old mid new had.keeps keeps;
    frames = frames-both (translation_at old) (translation_at mid) (translation_at new) process_region had.frames frames;
  }

  -- none is left at the end
  pub none-left : (new : S) (i : ℕ) → length segments ≤ i → HasAddedBut stands_for translation_at file segments old new (drop i segments)
      → (c : Content) → stands_for old c → HasRoom 0 (page_total segments) c → stands_for new (with_segments file c segments)
  unfolding with_segments
  none-left new i past had c stands room =
      let all = subst (HasAddedBut stands_for translation_at file segments old new) (drop_all i segments past) had in
      let way = all.after c stands room in
      subst (stands_for new) way.reaches way.stands
