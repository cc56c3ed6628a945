-- What a board stands for after a page without a frame got one that wasn't used.
use Rattle.std.proofs.Common.{◌≡◌, ◌≢◌, ◌∙◌, ◌⊎◌, inl, inr, ℕ, ◌<◌, Bool, true, Option, Some, None, List, [], ◌∷◌, ◌++◌, length, ap, sym, subst, arith}
use Rattle.std.proofs.lemmas.Bool.{false≢true}
use Rattle.std.proofs.lemmas.List.{length-set}
use Rattle.cap_format.specs.Numbers.{most_regions}
use Rattle.cap_format.specs.declared.cap.Cap.{Cap}
use Rattle.machine_types.specs.Stores.{Page, changed}
use Rattle.machine_types.specs.Accounts.{class_for}
use Rattle.machine_types.proofs.MovedPages.{moved_granules-itself}
use Rattle.frame_pool.specs.Pool.{Pool, is_used, with_used, IsLeastFree}
use Rattle.tagged_memory.specs.Frames.{frame, with_frame}
use Rattle.page_table.specs.declared.table.Entry.{Entry}
use Rattle.page_table.specs.Entries.{Entries, with_entry}
use Rattle.frame_owners.specs.Homes.{Owner, owner, with_owner}
use Rattle.contents.specs.Content.{Content, page_at}
use Rattle.contents.proofs.WholeStores.{IsPageOf}
use Rattle.contents.proofs.OtherStores.{changed-elsewhere, changed-there}
use Rattle.stores.specs.declared.board.Board.{Board}
use Rattle.stores.specs.Boards.{frame_in, frame_of, HasPage, HasSamePage, KeepsAccount, Stands}
use Rattle.stores.proofs.BoardParts.{placed, placed-there, placed-elsewhere, frame_of-with_entry, owner-with_owner, is_used-with_used, frame-with_frame_same, frame-with_frame_other, HasSamePage-stays}
use Rattle.stores.proofs.BoardPages.{entry-known}
use Rattle.stores.proofs.FrameSteps.{page-or-other}
use Rattle.stores.proofs.NewFrames.{sole_owner, kept-new}

-- The board has one frame more in use: that of the entry, which is the page's, with these granules. All else is as it was.
pub record HasNewFrame (old new : Board) (region page : ℕ) (e : Entry) (granules : List Cap) : Type 0 where
  pub region_is : region < most_regions
  pub absent : old.table.entries region page ≡ None
  pub least : IsLeastFree old.pool e.frame.0
  pub memory : new.memory ≡ with_frame old.memory e.frame.0 granules
  pub pool : new.pool ≡ with_used old.pool e.frame.0 true
  pub taken : is_used new.pool e.frame.0 ≡ true
  pub owners : new.owners ≡ with_owner old.owners e.frame.0 (sole_owner region)
  pub entries : new.table.entries ≡ with_entry old.table.entries region page (Some e)

-- The content has one page more, in a new class. All else is as it was, but for which regions have a store.
pub record HasNewPage (old new : Content) (region page : ℕ) (p : Page) : Type 0 where
  pub here : page_at new region page ≡ Some p
  pub others : (r q : ℕ) → (r ≢ region) ⊎ (q ≢ page) → page_at new r q ≡ page_at old r q
  pub account : new.account ≡ old.account ++ (class_for region page ∷ [])
  pub frames : new.frames ≡ old.frames

module _ (old new : Board) (region page : ℕ) (e : Entry) (granules : List Cap) (is : HasNewFrame old new region page e granules) (c : Content) (stands : Stands old c) where
  abbrev f : ℕ
  f = e.frame.0

  in-memory : f < length old.memory
  in-memory = let below = is.least.below in let size = stands.size in let room = stands.memory in omega arith

  in-owners : f < length old.owners
  in-owners = let below = is.least.below in let size = stands.size in let room = stands.owners in omega arith

  frames-are : frame_of new.table.entries ≡ placed (frame_of old.table.entries) region page (Some f)
  frames-are = ap frame_of is.entries ∙ frame_of-with_entry old.table.entries region page (Some e)

  owners-are : owner new.owners ≡ changed (owner old.owners) f (sole_owner region)
  owners-are = ap owner is.owners ∙ owner-with_owner old.owners f (sole_owner region) in-owners

  used-are : is_used new.pool ≡ changed (is_used old.pool) f true
  used-are = ap is_used is.pool ∙ is_used-with_used old.pool f true (ap (λ (pool : Pool). is_used pool f) (sym is.pool) ∙ is.taken)

  -- the account is kept, with a class more
  kept : KeepsAccount (frame_of new.table.entries) (owner new.owners) (is_used new.pool) c.frames (stands.frames ++ (f ∷ [])) (c.account ++ (class_for region page ∷ []))
  kept =
      subst (λ (frame_at : ℕ → ℕ → Option ℕ). KeepsAccount frame_at (owner new.owners) (is_used new.pool) c.frames (stands.frames ++ (f ∷ [])) (c.account ++ (class_for region page ∷ []))) (sym frames-are)
      (subst (λ (owner_at : ℕ → Owner). KeepsAccount (placed (frame_of old.table.entries) region page (Some f)) owner_at (is_used new.pool) c.frames (stands.frames ++ (f ∷ [])) (c.account ++ (class_for region page ∷ []))) (sym owners-are)
      (subst (λ (used_at : ℕ → Bool). KeepsAccount (placed (frame_of old.table.entries) region page (Some f)) (changed (owner old.owners) f (sole_owner region)) used_at c.frames (stands.frames ++ (f ∷ [])) (c.account ++ (class_for region page ∷ []))) (sym used-are)
      (kept-new (frame_of old.table.entries) (owner old.owners) (is_used old.pool) c.frames stands.frames c.account region page f stands.kept (ap frame_in is.absent) is.least.free (let below = is.least.below in let size = stands.size in omega arith))))

  -- the frame of another entry isn't the new one
  other-frame : (r q : ℕ) (d : Entry) → old.table.entries r q ≡ Some d → d.frame.0 ≢ f
  other-frame r q d there same = false≢true (sym is.least.free ∙ ap (is_used old.pool) (sym same) ∙ (entry-known old c r q d stands there).used)

  -- so the other pages stay
  page-stays : (later : Content) (r q : ℕ) → (r ≢ region) ⊎ (q ≢ page) → page_at later r q ≡ page_at c r q → HasSamePage new.memory new.owners r (new.table.entries r q) (page_at later r q)
  page-stays later r q apart same =
      let entry : new.table.entries r q ≡ old.table.entries r q = ap (λ (entries : Entries). entries r q) is.entries ∙ placed-elsewhere old.table.entries region page (Some e) r q apart in
      rw (entry, same) (HasSamePage-stays old.memory new.memory old.owners new.owners r (old.table.entries r q) (page_at c r q) stays (stands.pages r q))
    where
      stays : (d : Entry) → old.table.entries r q ≡ Some d → (frame new.memory d.frame.0 ≡ frame old.memory d.frame.0) × ((owner new.owners d.frame.0).home ≡ (owner old.owners d.frame.0).home)
      stays d there =
          let other = other-frame r q d there in (
            ap (λ (memory : List (List Cap)). frame memory d.frame.0) is.memory ∙ frame-with_frame_other old.memory f d.frame.0 granules other,
            ap (λ (owner_at : ℕ → Owner). (owner_at d.frame.0).home) owners-are ∙ ap (λ (o : Owner). o.home) (changed-elsewhere (owner old.owners) f d.frame.0 (sole_owner region) other),
          )

  -- and the page has its frame
  page-begins : (p : Page) → p.rights ≡ e.rights → p.granules ≡ granules → IsPageOf region p → HasPage new.memory new.owners region e p
  page-begins p rights same of_region =
      let home : (owner new.owners f).home ≡ region = ap (λ (owner_at : ℕ → Owner). (owner_at f).home) owners-are ∙ ap (λ (o : Owner). o.home) (changed-there (owner old.owners) f (sole_owner region)) in
      let holds : frame new.memory f ≡ p.granules = ap (λ (memory : List (List Cap)). frame memory f) is.memory ∙ frame-with_frame_same old.memory f granules in-memory ∙ sym same in
      record {
        rights = rights;
        granules = rw (home, holds) (sym (moved_granules-itself region p.granules is.region_is of_region.held));
        home = rw home is.region_is;
        held = rw (home, holds) of_region.held;
        whole = rw holds of_region.long;
      }

  -- The board stands for the content with the page.
  pub stands-new : (later : Content) (p : Page) → HasNewPage c later region page p → p.rights ≡ e.rights → p.granules ≡ granules → IsPageOf region p → Stands new later
  stands-new later p has rights same of_region = record {
    frames = stands.frames ++ (f ∷ []);
    kept = rw (has.frames, has.account) kept;
    pages = λ r q. pages r q (page-or-other r q region page);
    size = ap (λ (pool : Pool). pool.size) is.pool ∙ stands.size ∙ sym has.frames;
    memory = rw (has.frames, is.memory, length-set) stands.memory;
    owners = rw (has.frames, is.owners, length-set) stands.owners;
  }
    where
      pages : (r q : ℕ) → ((r ≡ region) × (q ≡ page)) ⊎ ((r ≢ region) ⊎ (q ≢ page)) → HasSamePage new.memory new.owners r (new.table.entries r q) (page_at later r q)
      pages r q (inl (here, there)) =
          let entry : new.table.entries region page ≡ Some e = ap (λ (entries : Entries). entries region page) is.entries ∙ placed-there old.table.entries region page (Some e) in
          rw (here, there, entry, has.here) (page-begins p rights same of_region)
      pages r q (inr apart) = page-stays later r q apart (has.others r q apart)
