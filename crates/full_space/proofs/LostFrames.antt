-- What a board stands for after a page left a frame that no other page shared.
use Rattle.std.proofs.Common.{◌≡◌, ◌≢◌, ◌∙◌, ◌⊎◌, inl, inr, ℕ, zero, suc, Bool, false, Some, None, List, [], ◌∷◌, map, filter, get_or, set, refl, ap, sym}
use Rattle.std.proofs.lemmas.List.{length-set}
use Rattle.cap_format.specs.declared.cap.Cap.{Cap}
use Rattle.machine_types.specs.Stores.{changed}
use Rattle.machine_types.specs.Accounts.{has_members}
use Rattle.machine_types.specs.Touches.{without_member}
use Rattle.frame_pool.specs.Pool.{Pool, is_used, with_used}
use Rattle.tagged_memory.specs.Frames.{frame}
use Rattle.page_table.specs.declared.table.Entry.{Entry}
use Rattle.page_table.specs.Entries.{Entries, with_entry}
use Rattle.frame_owners.specs.Homes.{Owner, owner, with_owner}
use Rattle.contents.specs.Content.{Content, page_at}
use Rattle.contents.proofs.OtherStores.{changed-elsewhere}
use Rattle.stores.specs.declared.board.Board.{Board}
use Rattle.stores.specs.Boards.{frame_in, frame_of, HasSamePage, KeepsAccount, Stands}
use Rattle.stores.proofs.BoardParts.{placed, placed-there, placed-elsewhere, frame_of-with_entry, owner-with_owner, is_used-with_used, HasSamePage-stays}
use Rattle.stores.proofs.BoardPages.{entry-known}
use Rattle.stores.proofs.FoundClasses.{only-page}
use Rattle.stores.proofs.FrameSteps.{page-or-other}
use Rattle.stores.proofs.LeftFrames.{left_owner, is_taken, kept-last}

-- The page has no entry any more, and its frame is given back. All else is as it was.
pub record HasLostFrame (old new : Board) (region page : ℕ) (e : Entry) : Type 0 where
  pub there : old.table.entries region page ≡ Some e
  pub alone : (owner old.owners e.frame.0).sharers ≡ 1
  pub memory : new.memory ≡ old.memory
  pub pool : new.pool ≡ with_used old.pool e.frame.0 false
  pub owners : new.owners ≡ with_owner old.owners e.frame.0 (left_owner (owner old.owners e.frame.0))
  pub entries : new.table.entries ≡ with_entry old.table.entries region page None

-- The content has the page no more, and its class lost a member or went. All else is as it was, but for which regions have a
-- store.
pub record HasLostPage (old new : Content) (region page : ℕ) : Type 0 where
  pub here : page_at new region page ≡ None
  pub others : (r p : ℕ) → (r ≢ region) ⊎ (p ≢ page) → page_at new r p ≡ page_at old r p
  pub account : new.account ≡ filter has_members (map (without_member region page) old.account)
  pub frames : new.frames ≡ old.frames

-- what was set to false is false
set-false : (xs : List Bool) (k : ℕ) → get_or (set xs k false) k false ≡ false
set-false [] k = refl
set-false (x ∷ xs) zero = refl
set-false (x ∷ xs) (suc k) = set-false xs k

module _ (old new : Board) (region page : ℕ) (e : Entry) (is : HasLostFrame old new region page e) (c : Content) (stands : Stands old c) where
  abbrev f : ℕ
  f = e.frame.0

  abbrev at : frame_of old.table.entries region page ≡ Some f
  at = ap frame_in is.there

  frames-are : frame_of new.table.entries ≡ placed (frame_of old.table.entries) region page None
  frames-are = ap frame_of is.entries ∙ frame_of-with_entry old.table.entries region page None

  owners-are : owner new.owners ≡ changed (owner old.owners) f (left_owner (owner old.owners f))
  owners-are = ap owner is.owners ∙ owner-with_owner old.owners f (left_owner (owner old.owners f)) (entry-known old c region page e stands is.there).owners

  used-are : is_used new.pool ≡ changed (is_used old.pool) f false
  used-are = ap is_used is.pool ∙ is_used-with_used old.pool f false (set-false old.pool.used f)

  -- the frame of another page is another one
  pub other-frame : (r p : ℕ) (d : Entry) → (r ≢ region) ⊎ (p ≢ page) → old.table.entries r p ≡ Some d → d.frame.0 ≢ f
  other-frame r p d apart there same = by apart (only-page stands.kept r p region page f is.alone (ap frame_in there ∙ ap Some same) at)
    where
      by : (r ≢ region) ⊎ (p ≢ page) → (r ≡ region) × (p ≡ page) → ⊥
      by (inl other) both = other both.0
      by (inr other) both = other both.1

  -- the frames that are left
  abbrev left_frames : List ℕ
  left_frames = filter (is_taken (changed (owner old.owners) f (left_owner (owner old.owners f)))) stands.frames

  -- the account is kept, without the page
  kept : KeepsAccount (frame_of new.table.entries) (owner new.owners) (is_used new.pool) c.frames left_frames (filter has_members (map (without_member region page) c.account))
  kept = rw (frames-are, owners-are, used-are) (kept-last stands.kept region page f at is.alone)

  -- the other pages stay
  page-stays : (later : Content) (r p : ℕ) → (r ≢ region) ⊎ (p ≢ page) → page_at later r p ≡ page_at c r p → HasSamePage new.memory new.owners r (new.table.entries r p) (page_at later r p)
  page-stays later r p apart same =
      let entry : new.table.entries r p ≡ old.table.entries r p = ap (λ (entries : Entries). entries r p) is.entries ∙ placed-elsewhere old.table.entries region page None r p apart in
      rw (entry, same) (HasSamePage-stays old.memory new.memory old.owners new.owners r (old.table.entries r p) (page_at c r p) stays (stands.pages r p))
    where
      stays : (d : Entry) → old.table.entries r p ≡ Some d → (frame new.memory d.frame.0 ≡ frame old.memory d.frame.0) × ((owner new.owners d.frame.0).home ≡ (owner old.owners d.frame.0).home)
      stays d there = (
        ap (λ (memory : List (List Cap)). frame memory d.frame.0) is.memory,
        ap (λ (owner_at : ℕ → Owner). (owner_at d.frame.0).home) owners-are
            ∙ ap (λ (o : Owner). o.home) (changed-elsewhere (owner old.owners) f d.frame.0 (left_owner (owner old.owners f)) (other-frame r p d apart there)),
      )

  -- The board stands for the content without the page.
  pub stands-lost : (later : Content) → HasLostPage c later region page → Stands new later
  stands-lost later has = record {
    frames = left_frames;
    kept = rw (has.frames, has.account) kept;
    pages = λ r p. pages r p (page-or-other r p region page);
    size = ap (λ (pool : Pool). pool.size) is.pool ∙ stands.size ∙ sym has.frames;
    memory = rw (has.frames, is.memory) stands.memory;
    owners = rw (has.frames, is.owners, length-set) stands.owners;
  }
    where
      pages : (r p : ℕ) → ((r ≡ region) × (p ≡ page)) ⊎ ((r ≢ region) ⊎ (p ≢ page)) → HasSamePage new.memory new.owners r (new.table.entries r p) (page_at later r p)
      pages r p (inl (here, there)) =
          let entry : new.table.entries region page ≡ None = ap (λ (entries : Entries). entries region page) is.entries ∙ placed-there old.table.entries region page None in
          rw (here, there, entry, has.here) tt
      pages r p (inr apart) = page-stays later r p apart (has.others r p apart)
