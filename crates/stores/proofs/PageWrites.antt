-- What a board stands for after a write to a page that is at home and alone in its class: for any space.
use Rattle.std.proofs.Common.{◌≡◌, ◌≢◌, ◌∙◌, ◌⊎◌, inl, inr, ℕ, ◌+◌, nat_eq, true, false, Some, List, [], ◌∷◌, refl, sym, ap, arith}
use Rattle.std.proofs.lemmas.Bool.Decides.{eqb_tells}
use Rattle.std.proofs.lemmas.List.{length-set}
use Rattle.cap_format.specs.declared.cap.Cap.{Cap}
use Rattle.machine_types.specs.Granules.{with_number, with_bytes}
use Rattle.machine_types.specs.Stores.{Page, page_with, moved_granules}
use Rattle.machine_types.specs.Held.{AreHeld}
use Rattle.machine_types.proofs.MovedPages.{moved_granules-itself}
use Rattle.tagged_memory.specs.Frames.{frame, with_frame}
use Rattle.page_table.specs.declared.table.Entry.{Entry}
use Rattle.frame_owners.specs.Homes.{Owner, owner}
use Rattle.contents.specs.Content.{Content, page_at, with_granules}
use Rattle.contents.proofs.ChangedGranules.{page-granules}
use Rattle.contents.proofs.WholeStores.{KeepsPage}
use Rattle.contents.proofs.HeldGranules.{number-keeps}
use Rattle.stores.specs.declared.board.Board.{Board}
use Rattle.stores.specs.Boards.{frame_in, HasPage, HasSamePage, Stands}
use Rattle.stores.proofs.FoundClasses.{only-page}
use Rattle.stores.proofs.BoardParts.{frame-with_frame_same, frame-with_frame_other, HasSamePage-stays}
use Rattle.stores.proofs.BoardPages.{page-found, entry-known}

-- a page that has the frame of its own region is that frame
pub home-granules : {memory : List (List Cap)} {owners : List Owner} {region : ℕ} {e : Entry} {p : Page} → HasPage memory owners region e p → (owner owners e.frame.0).home ≡ region
    → p.granules ≡ frame memory e.frame.0
home-granules {memory = memory} {owners = owners} {region = region} {e = e} has home =
    has.granules ∙ ap (λ (home : ℕ). moved_granules home region (frame memory e.frame.0)) home
    ∙ moved_granules-itself region (frame memory e.frame.0) (rw home at has.home) (rw home at has.held)

-- the board with other granules in the frame of an entry
abbrev pub with_frame_of : Board → Entry → (List Cap → List Cap) → Board
with_frame_of board e change = record board { memory = with_frame board.memory e.frame.0 (change (frame board.memory e.frame.0)) }

-- Such a change of the page is a change of its frame.
module _ (board : Board) (c : Content) (region page : ℕ) (e : Entry) (change : List Cap → List Cap) (stands : Stands board c) (there : board.table.entries region page ≡ Some e)
    (own : owner board.owners e.frame.0 ≡ record { home = region; sharers = 1 }) (keeps : KeepsPage region change) where
  new : List Cap
  new = change (frame board.memory e.frame.0)

  home : (owner board.owners e.frame.0).home ≡ region
  home = ap (λ (o : Owner). o.home) own

  later : List (List Cap)
  later = with_frame board.memory e.frame.0 new

  -- the frame holds what was stored
  now : frame later e.frame.0 ≡ new
  unfolding later
  now = frame-with_frame_same board.memory e.frame.0 new (entry-known board c region page e stands there).memory

  -- what was stored may be held
  held : AreHeld region new
  unfolding new
  held = keeps.held (frame board.memory e.frame.0) (rw home at (entry-known board c region page e stands there).held)

  -- the page has it
  here : (p : Page) → HasPage board.memory board.owners region e p → HasPage later board.owners region e (page_with change p)
  unfolding new
  here p has = record {
    rights = has.rights;
    granules = ap change (home-granules has home) ∙ sym (moved_granules-itself region new (rw home at has.home) held) ∙ rw (now, home) refl;
    home = has.home;
    held = rw (now, home) held;
    whole = rw now (keeps.long (frame board.memory e.frame.0) ∙ has.whole);
  }

  -- and every other page its own frame
  elsewhere : (r p : ℕ) → ((r ≡ region) × (p ≡ page) → ⊥) → HasSamePage later board.owners r (board.table.entries r p) (page_at c r p)
  unfolding later
  elsewhere r p apart = HasSamePage-stays board.memory later board.owners board.owners r (board.table.entries r p) (page_at c r p)
      (λ d at. (frame-with_frame_other board.memory e.frame.0 d.frame.0 new (λ same. apart (only-page stands.kept r p region page e.frame.0 (ap (λ (o : Owner). o.sharers) own) (ap frame_in at ∙ ap Some same) (ap frame_in there))), refl))
      (stands.pages r p)

  pages : (r p : ℕ) → HasSamePage later board.owners r (board.table.entries r p) (page_at (with_granules c region page change) r p)
  pages r p = by (eqb_tells r region) (eqb_tells p page)
    where
      by : ((nat_eq r region ≡ true) × (r ≡ region)) ⊎ ((nat_eq r region ≡ false) × (r ≢ region)) → ((nat_eq p page ≡ true) × (p ≡ page)) ⊎ ((nat_eq p page ≡ false) × (p ≢ page))
          → HasSamePage later board.owners r (board.table.entries r p) (page_at (with_granules c region page change) r p)
      by (inl (_, same)) (inl (test, alike)) =
          let found = page-found board c region page e stands there in
          rw (same, page-granules c region page change p, test, alike, there, found.there) (here found.p found.has)
      by (inl (_, same)) (inr (test, other)) = rw (same, page-granules c region page change p, test) (elsewhere region p (λ both. other both.1))
      by (inr (test, other)) _ = rw test (elsewhere r p (λ both. other both.0))

  pub stands-written : Stands (with_frame_of board e change) (with_granules c region page change)
  unfolding later new
  stands-written = record {
    frames = stands.frames;
    kept = stands.kept;
    pages = pages;
    size = stands.size;
    memory = rw length-set stands.memory;
    owners = stands.owners;
  }

-- bytes that are stored in a page leave it what its region may hold
pub bytes-keep : (region at : ℕ) (bytes : List ℕ) → KeepsPage region (λ granules. with_bytes granules at bytes)
bytes-keep region at [] = record { long = λ granules. refl; held = λ granules held. held }
bytes-keep region at (byte ∷ bytes) =
    let first = number-keeps region at 1 byte (omega arith) in
    let rest = bytes-keep region (at + 1) bytes in
    record {
      long = λ granules. rest.long (with_number granules at 1 byte) ∙ first.long granules;
      held = λ granules held. rest.held (with_number granules at 1 byte) (first.held granules held);
    }
