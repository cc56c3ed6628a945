-- Boards on which each page has a frame of its own, where they stand for some content.
use Rattle.std.proofs.Common.{◌≡◌, ◌≢◌, ◌∙◌, ◌⊎◌, inl, inr, ℕ, ◌<◌, true, false, Some, None, List, length, ap, sym}
use Rattle.std.proofs.Math.Bool.{Bool-set}
use Rattle.std.proofs.Math.Bridge.{le_prop}
use Rattle.std.proofs.Math.Dec.{T_prop}
use Rattle.std.proofs.Math.Logic.{∥∥₁_elim}
use Rattle.std.proofs.lemmas.Bool.{false≢true}
use Rattle.std.proofs.lemmas.List.{get_or-set_same, get_or-set_other}
use Rattle.cap_format.specs.Region.{IsInside}
use Rattle.cap_format.specs.declared.cap.Cap.{Cap}
use Rattle.machine_types.specs.Held.{IsHeld, AreHeld}
use Rattle.frame_pool.specs.Pool.{is_used}
use Rattle.tagged_memory.specs.Frames.{frame}
use Rattle.page_table.specs.declared.table.Entry.{Entry}
use Rattle.page_table.specs.Entries.{Entries, with_entry}
use Rattle.frame_owners.specs.Homes.{Owner, nobody, owner, with_owner}
use Rattle.contents.specs.Content.{Content}
use Rattle.stores.specs.declared.board.Board.{Board}
use Rattle.stores.specs.Boards.{Stands}
use Rattle.stores.specs.Known.{StandsFor}
use Rattle.stores.proofs.BoardParts.{placed-there, placed-elsewhere}
use Rattle.stores.proofs.BoardPages.{entry-known}
use Rattle.stores.proofs.FrameSteps.{page-or-other}
use Rattle.stores.proofs.LeftFrames.{left_owner}
use Rattle.stores.proofs.NewFrames.{sole_owner}
use Rattle.full_space.specs.Own.{AreOwn}
use Rattle.full_space.proofs.LostFrames.{HasLostFrame, other-frame}

-- The frame of an entry.
module _ (board : Board) (P : Content → Type 0) (known : ∥ StandsFor Stands board P ∥₁) (region page : ℕ) (e : Entry) (there : board.table.entries region page ≡ Some e) where
  -- it is used
  pub entry-used : is_used board.pool e.frame.0 ≡ true
  entry-used = ∥∥₁_elim known (hlevel Bool-set) (λ (known : StandsFor Stands board P). (entry-known board known.content region page e known.stands there).used)

  -- it is in memory
  pub entry-memory : e.frame.0 < length board.memory
  entry-memory = ∥∥₁_elim known le_prop (λ (known : StandsFor Stands board P). (entry-known board known.content region page e known.stands there).memory)

  -- it has an owner
  pub entry-owners : e.frame.0 < length board.owners
  entry-owners = ∥∥₁_elim known le_prop (λ (known : StandsFor Stands board P). (entry-known board known.content region page e known.stands there).owners)

-- it has one sharer
pub own-alone : (board : Board) (region page : ℕ) (e : Entry) → AreOwn board → board.table.entries region page ≡ Some e → (owner board.owners e.frame.0).sharers ≡ 1
own-alone board region page e own there = ap (λ (o : Owner). o.sharers) (own region page e there)

-- What a capability's region may hold is a proposition.
AreHeld-prop : (region : ℕ) (granules : List Cap) → IsProp (AreHeld region granules)
AreHeld-prop region granules = hlevel (IsHeld-prop region)
  where
    IsInside-prop : (region bits : ℕ) → IsProp (IsInside bits region)
    IsInside-prop region bits = hlevel T_prop

    IsHeld-prop : (region : ℕ) (cap : Cap) → IsProp (IsHeld region cap)
    IsHeld-prop region cap = hlevel (le_prop, IsInside-prop region)

-- it holds what the region may hold
pub own-held : (board : Board) (P : Content → Type 0) (region page : ℕ) (e : Entry) → ∥ StandsFor Stands board P ∥₁ → AreOwn board → board.table.entries region page ≡ Some e → AreHeld region (frame board.memory e.frame.0)
own-held board P region page e known own there =
    let home : (owner board.owners e.frame.0).home ≡ region = ap (λ (o : Owner). o.home) (own region page e there) in
    ∥∥₁_elim known (AreHeld-prop region (frame board.memory e.frame.0)) (λ (known : StandsFor Stands board P). rw home at (entry-known board known.content region page e known.stands there).held)

-- After a page lost its frame, the others have their own still.
pub own-lost : (old new : Board) (P : Content → Type 0) (region page : ℕ) (e : Entry) → ∥ StandsFor Stands old P ∥₁ → HasLostFrame old new region page e → AreOwn old → AreOwn new
own-lost old new P region page e known lost own r p d there = by (page-or-other r p region page)
  where
    by : ((r ≡ region) × (p ≡ page)) ⊎ ((r ≢ region) ⊎ (p ≢ page)) → owner new.owners d.frame.0 ≡ record { home = r; sharers = 1 }
    by (inl (same, alike)) =
        let none : new.table.entries r p ≡ None = ap (λ (entries : Entries). entries r p) lost.entries ∙ rw (same, alike) (placed-there old.table.entries region page None) in
        absurd (cc)
    by (inr apart) =
        let before : old.table.entries r p ≡ Some d = sym (ap (λ (entries : Entries). entries r p) lost.entries ∙ placed-elsewhere old.table.entries region page None r p apart) ∙ there in
        let other : d.frame.0 ≢ e.frame.0 = λ same. ∥∥₁_elim known (λ x y. absurd x) (λ (known : StandsFor Stands old P). other-frame old new region page e lost known.content known.stands r p d apart before same) in
        rw lost.owners (get_or-set_other old.owners e.frame.0 d.frame.0 (left_owner (owner old.owners e.frame.0)) nobody other ∙ own r p d before)

-- After a page got a frame that wasn't used, each has its own still.
pub own-new : (old new : Board) (P : Content → Type 0) (region page : ℕ) (e : Entry) → ∥ StandsFor Stands old P ∥₁ → is_used old.pool e.frame.0 ≡ false → e.frame.0 < length old.owners
    → new.owners ≡ with_owner old.owners e.frame.0 (sole_owner region) → new.table.entries ≡ with_entry old.table.entries region page (Some e) → AreOwn old → AreOwn new
own-new old new P region page e known free below owners entries own r p d there = by (page-or-other r p region page)
  where
    by : ((r ≡ region) × (p ≡ page)) ⊎ ((r ≢ region) ⊎ (p ≢ page)) → owner new.owners d.frame.0 ≡ record { home = r; sharers = 1 }
    by (inl (same, alike)) =
        let is : new.table.entries r p ≡ Some e = ap (λ (entries : Entries). entries r p) entries ∙ rw (same, alike) (placed-there old.table.entries region page (Some e)) in
        let it : d ≡ e = cc in
        rw (it, owners, same) (get_or-set_same old.owners e.frame.0 (sole_owner region) nobody below)
    by (inr apart) =
        let before : old.table.entries r p ≡ Some d = sym (ap (λ (entries : Entries). entries r p) entries ∙ placed-elsewhere old.table.entries region page (Some e) r p apart) ∙ there in
        let other : d.frame.0 ≢ e.frame.0 = λ same. false≢true (sym free ∙ ap (is_used old.pool) (sym same) ∙ entry-used old P known r p d before) in
        rw owners (get_or-set_other old.owners e.frame.0 d.frame.0 (sole_owner region) nobody other ∙ own r p d before)
