-- Pages that are alone in their class in a whole content, and stay so while segments and relocations are added.
use Rattle.std.proofs.Common.{◌≡◌, ◌≢◌, ◌∙◌, ◌⊎◌, inl, inr, ℕ, zero, suc, ◌+◌, ◌<◌, ◌≤◌, false, is_some, Option, Result, List, [], ◌∷◌, refl, ap, sym, subst, arith}
use Rattle.std.specs.Prelude.{IsSome}
use Rattle.std.proofs.lemmas.Bool.{cases_eq}
use Rattle.cap_format.specs.Numbers.{region_pages}
use Rattle.cap_format.specs.declared.cap.Cap.{Cap}
use Rattle.machine_types.specs.declared.touches.NoFrame.{NoFrame}
use Rattle.machine_types.specs.Stores.{Page}
use Rattle.machine_types.specs.Accounts.{class_for}
use Rattle.contents.specs.Content.{Content, CallOutcome, page_at, used_frames}
use Rattle.contents.specs.Regions.{with_new_page, seed_cap_of}
use Rattle.contents.specs.Conditions.{HasStore, LacksPage, IsOwn}
use Rattle.contents.specs.Whole.{IsWhole, CallsKeepWhole}
use Rattle.contents.proofs.WholeClasses.{class-absent}
use Rattle.elf_loader.specs.declared.image.Segment.{Segment}
use Rattle.elf_loader.specs.Numbers.{process_region}
use Rattle.elf_loader.specs.Start.{first_page, page_count, page_part, with_pages, with_segments}
use Rattle.elf_loader.specs.Adding.{IsPlaced, ArePlaced, page_total, HasRoom}
use Rattle.elf_loader.proofs.AddedPage.{added-free, put-store, put-elsewhere, class-longer, class-last}
use Rattle.elf_loader.proofs.RoomForPages.{room-later, room-free, room-lacks, room-next, room-behind}

-- The content is whole and has a store for the region, and each page there is alone in its class.
pub record IsOwned (region : ℕ) (c : Content) : Type 0 where
  pub whole : IsWhole c
  pub store : HasStore region c
  pub own : (page : ℕ) → IsSome (page_at c region page) → IsOwn region page c

-- a granule that is stored leaves a page in its class
pub own-seeded : (region page at : ℕ) (cap : Cap) (c : Content) → IsOwn region page c → IsOwn region page (seed_cap_of c region at cap)
unfolding seed_cap_of
own-seeded region page at cap c own = record { class = own.class; there = own.there; home = own.home; alone = own.alone }

-- One page that is added where the region has none.
module _ (c : Content) (region page rights : ℕ) (bytes : List ℕ) where
  -- each page is its own still, and the new one is
  put-own : IsOwned region c → LacksPage region page c → (q : ℕ)
      → IsSome (page_at (with_new_page c region page rights bytes) region q) → IsOwn region q (with_new_page c region page rights bytes)
  put-own is lacks q there = by (cases_eq q page)
    where
      by : (q ≡ page) ⊎ (q ≢ page) → IsOwn region q (with_new_page c region page rights bytes)
      by (inl same) =
          let none = class-absent c region page is.whole (ap (λ (o : Option Page). is_some o) lacks.absent) in
          rw same (record { class = class_for region page; there = class-last c.account region page none; home = refl; alone = refl })
      by (inr apart) =
          let old = is.own q (ap (λ (o : Option Page). is_some o) (sym (put-elsewhere c region page rights bytes q apart is.store)) ∙ there) in
          record { class = old.class; there = class-longer c.account (class_for region page) old.class region q old.there; home = old.home; alone = old.alone }

  -- where a frame is free, the content is whole then too
  put-owned : CallsKeepWhole → IsOwned region c → page < region_pages → LacksPage region page c → used_frames c < c.frames → IsOwned region (with_new_page c region page rights bytes)
  put-owned keep is within lacks free = record {
    whole = subst (λ (o : CallOutcome (Result (Unit {0}) NoFrame)). IsWhole o.after) (added-free c region page rights bytes free) (keep.add_page c region page rights bytes is.whole within lacks);
    store = put-store c region page rights bytes is.store;
    own = put-own is lacks;
  }

-- a segment's pages are pages of the region
pages-within : (n : ℕ) (segment : Segment) → IsPlaced n segment → first_page segment + page_count segment ≤ region_pages
pages-within n segment placed = let at_page = placed.at_page in let within = placed.within in omega arith

module _ (keep : CallsKeepWhole) (file : List ℕ) where
  -- so many pages of a segment, where there is room for them
  pages-owned : (segment : Segment) (c : Content) (n : ℕ) → IsOwned process_region c → first_page segment + n ≤ region_pages → HasRoom (first_page segment) n c
      → IsOwned process_region (with_pages file segment c n)
  unfolding with_pages
  pages-owned segment c zero is within room = is
  pages-owned segment c (suc n) is within room =
      let next = room-next file segment c n (omega arith) room in
      put-owned (with_pages file segment c n) process_region (first_page segment + n) segment.rights (page_part file segment n) keep
      (pages-owned segment c n is (omega arith) (room-later room (omega arith) (omega arith))) (omega arith) (room-lacks next) (room-free (with_pages file segment c n) next)

  -- and those of segments in a row
  segments-owned : (n first : ℕ) (segments : List Segment) (c : Content) → IsOwned process_region c → ArePlaced n first segments → HasRoom first (page_total segments) c
      → IsOwned process_region (with_segments file c segments)
  unfolding with_segments
  segments-owned n first [] c is placed room = is
  segments-owned n first (segment ∷ segments) c is placed room =
      let here : HasRoom (first_page segment) (page_count segment + page_total segments) c = room-later room placed.1 (omega arith) in
      segments-owned n (first_page segment + page_count segment) segments (with_pages file segment c (page_count segment))
      (pages-owned segment c (page_count segment) is (pages-within n segment placed.0) (room-later here (omega arith) (omega arith))) placed.2
      (room-behind file segment c (page_count segment) (page_total segments) here)

  -- so those of segments that are added to a store without pages
  pub placed-owned : (n : ℕ) (segments : List Segment) (c : Content) → IsWhole c → ArePlaced n 0 segments → HasRoom 0 (page_total segments) c
      → IsOwned process_region (with_segments file c segments)
  placed-owned n segments c whole placed room = segments-owned n 0 segments c (record { whole = whole; store = room.store; own = none }) placed room
    where
      none : (page : ℕ) → IsSome (page_at c process_region page) → IsOwn process_region page c
      none page there = let absent : is_some (page_at c process_region page) ≡ false = ap (λ (o : Option Page). is_some o) (room.absent page (omega arith)) in absurd (cc)
