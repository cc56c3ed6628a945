-- What a board stands for while a region gets copies of the pages of another, each in a frame of its own.
use Rattle.std.proofs.Common.{◌≡◌, ◌≢◌, ◌∙◌, inr, ℕ, ◌+◌, ◌<◌, ◌≤◌, true, false, Option, Some, None, Ok, is_some, List, length, map, refl, ap, sym, arith}
use Rattle.std.proofs.Math.Bool.{Bool-set}
use Rattle.std.proofs.Math.Logic.{∥∥₁_elim}
use Rattle.std.proofs.lemmas.List.{set-set, length-append, length-map}
use Rattle.cap_format.specs.Numbers.{most_regions, region_pages}
use Rattle.cap_format.specs.declared.cap.Cap.{Cap}
use Rattle.machine_types.specs.declared.config.Rule.TheVariants.{Full}
use Rattle.machine_types.specs.Stores.{Store, moved_granules, moved_page}
use Rattle.machine_types.specs.Accounts.{class_for}
use Rattle.machine_types.proofs.MovedPages.{length-moved_granules, AreHeld-moved_granules}
use Rattle.frame_pool.specs.Pool.{used_count}
use Rattle.tagged_memory.specs.Frames.{frame, with_frame}
use Rattle.page_table.specs.declared.table.Entry.{Entry}
use Rattle.frame_owners.specs.Homes.{Owner, owner}
use Rattle.contents.specs.Content.{Content, page_in, free_frames}
use Rattle.contents.specs.Conditions.{HasNoStore}
use Rattle.contents.specs.Regions.{fork_of, numbers_in}
use Rattle.stores.specs.declared.board.Board.{Board}
use Rattle.stores.specs.Boards.{Stands}
use Rattle.stores.specs.Entered.{IsOutcomeOf}
use Rattle.stores.specs.Known.{StandsFor}
use Rattle.stores.proofs.BoardParts.{frame-with_frame_same}
use Rattle.stores.proofs.BoardPages.{HasPageOf, page-found, page-absent, used_count-classes}
use Rattle.stores.proofs.OwnPages.{entry-absent}
use Rattle.stores.proofs.PageWrites.{home-granules}
use Rattle.stores.proofs.NewPages.{HasNewFrame, stands-new}
use Rattle.stores.proofs.AlikeContents.{stands-alike}
use Rattle.full_space.specs.Own.{AreOwn}
use Rattle.full_space.specs.Steps.{entries_below, numbers_below, forked_below}
use Rattle.full_space.proofs.CountedPages.{entries-fewer, pages-counted, all-counted}
use Rattle.full_space.proofs.ForkedPages.{forked-other, forked-account, forked-frames, forked-past, none-forked, page-forked, none-to-fork, fork-answer, all-forked}

-- A page is copied.
pub stands-copied : (old new : Board) (c : Content) (from to page : ℕ) (e copied : Entry) → from < most_regions → to < most_regions → from ≢ to → AreOwn old → old.table.entries from page ≡ Some e → copied.rights ≡ e.rights
    → (old.table.entries to page ≡ None → HasNewFrame old new to page copied (moved_granules from to (frame old.memory e.frame.0))) → Stands old (forked_below c from to page) → Stands new (forked_below c from to (page + 1))
stands-copied old new c from to page e copied small other apart own there rights is stands =
    stands-new old new to page copied (moved_granules from to (frame old.memory e.frame.0)) (is absent) (forked_below c from to page) stands (forked_below c from to (page + 1)) (moved_page from to found.p)
    (page-forked c from to page found.p (sym (forked-other c from to page from page apart) ∙ found.there)) (found.has.rights ∙ sym rights) (ap (moved_granules from to) same)
    record {
      long = length-moved_granules from to found.p.granules ∙ ap length same ∙ found.has.whole;
      held = AreHeld-moved_granules from to found.p.granules small other (rw (same, ← home) found.has.held);
    }
  where
    found : HasPageOf old (forked_below c from to page) from page e
    found = page-found old (forked_below c from to page) from page e stands there

    home : (owner old.owners e.frame.0).home ≡ from
    home = ap (λ (o : Owner). o.home) (own from page e there)

    same : found.p.granules ≡ frame old.memory e.frame.0
    same = home-granules found.has home

    absent : old.table.entries to page ≡ None
    absent = entry-absent old (forked_below c from to page) to page stands (forked-past c from to page page (omega arith))

-- Or there is none to copy.
pub stands-uncopied : (board : Board) (c : Content) (from to page : ℕ) → from ≢ to → board.table.entries from page ≡ None → Stands board (forked_below c from to page) → Stands board (forked_below c from to (page + 1))
stands-uncopied board c from to page apart none stands =
    stands-alike board (forked_below c from to page) (forked_below c from to (page + 1))
    (none-to-fork c from to page (sym (forked-other c from to page from page apart) ∙ page-absent board (forked_below c from to page) from page stands none)) stands

-- what the frame holds after it became a copy and was moved
pub copied-memory : (memory copied moved : List (List Cap)) (f g from to : ℕ) → f < length memory → copied ≡ with_frame memory f (frame memory g) → moved ≡ with_frame copied f (moved_granules from to (frame copied f))
    → moved ≡ with_frame memory f (moved_granules from to (frame memory g))
copied-memory memory copied moved f g from to below copy move =
    move
    ∙ ap (λ (m : List (List Cap)). with_frame m f (moved_granules from to (frame m f))) copy
    ∙ ap (λ (granules : List Cap). with_frame (with_frame memory f (frame memory g)) f (moved_granules from to granules)) (frame-with_frame_same memory f (frame memory g) below)
    ∙ set-set memory f (frame memory g) (moved_granules from to (frame memory g))

-- A region of which no content has a page has no entry.
pub no-entries : (board : Board) (region : ℕ) → ∥ StandsFor Stands board (HasNoStore region) ∥₁ → (page : ℕ) → board.table.entries region page ≡ None
no-entries board region known page = is-none (board.table.entries region page) (∥∥₁_elim known (hlevel Bool-set) (λ (known : StandsFor Stands board (HasNoStore region)). absent known))
  where
    is-none : (o : Option Entry) → is_some o ≡ false → o ≡ None
    is-none None none = refl
    is-none (Some e) none = absurd (cc)

    absent : StandsFor Stands board (HasNoStore region) → is_some (board.table.entries region page) ≡ false
    absent known = ap is_some (entry-absent board known.content region page known.stands (ap (λ (o : Option Store). page_in o page) known.holds))

-- At first nothing is copied.
pub stands-first : (board : Board) (c : Content) (from to : ℕ) → ((page : ℕ) → board.table.entries to page ≡ None) → Stands board c → Stands board (forked_below c from to 0)
stands-first board c from to none stands = stands-alike board c (forked_below c from to 0) (none-forked c from to (λ page. page-absent board c to page stands (none page))) stands

-- A frame is free for each page that is left.
pub frame-left : (first now : Board) (c : Content) (from to page : ℕ) → Stands first c → Stands now (forked_below c from to page) → is_some (first.table.entries from page) ≡ true → page < region_pages
    → used_count first.pool + entries_below (first.table.entries from) region_pages ≤ first.pool.size → used_count now.pool < now.pool.size
frame-left first now c from to page stands later there below room =
    let before = used_count-classes first c stands in
    let used : used_count now.pool ≡ length c.account + length (numbers_below (c.stores from) page)
    = used_count-classes now (forked_below c from to page) later ∙ ap length (forked-account c from to page)
    ∙ length-append c.account (map (class_for to) (numbers_below (c.stores from) page))
    ∙ ap (λ (n : ℕ). length c.account + n) (length-map (numbers_below (c.stores from) page) (class_for to)) in
    let counted = pages-counted first c from page stands in
    let fewer = entries-fewer (first.table.entries from) page region_pages below there in
    let size : now.pool.size ≡ first.pool.size = later.size ∙ forked-frames c from to page ∙ sym stands.size in
    omega arith

-- At last all pages are copied, and the fork was made.
pub fork-done : (first last : Board) (c : Content) (from to : ℕ) → c.rule ≡ Full → used_count first.pool + entries_below (first.table.entries from) region_pages ≤ first.pool.size
    → Stands first c → Stands last (forked_below c from to region_pages) → IsOutcomeOf last (fork_of c from to) (Ok tt)
fork-done first last c from to full room stands later = record {
  answer = fork-answer c from to full enough;
  after = stands-alike last (forked_below c from to region_pages) (fork_of c from to).after
      (all-forked c from to full enough (λ page far. page-absent first c from page stands (first.table.past from page (inr far)))) later;
}
  where
    enough : length (numbers_in (c.stores from)) ≤ free_frames c
    enough =
        let used = used_count-classes first c stands in
        let counted = all-counted first c from stands in
        let size = stands.size in
        omega arith
