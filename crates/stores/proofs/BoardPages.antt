-- The entries of a board, and the pages of a content that it stands for.
use Rattle.std.proofs.Common.{◌≡◌, ◌∙◌, ◌⊎◌, inl, inr, ℕ, ◌<◌, ◌≤◌, nat_lt, nat_eq, true, Option, Some, None, is_some, List, length, refl, ap, sym, subst, arith}
use Rattle.std.proofs.lemmas.Bool.{cases_lt}
use Rattle.std.proofs.lemmas.Bool.Decides.{nat_tests}
use Rattle.cap_format.specs.Numbers.{most_regions, region_pages, page_granules}
use Rattle.cap_format.specs.declared.cap.Cap.{Cap}
use Rattle.machine_types.specs.Stores.{Page}
use Rattle.machine_types.specs.Held.{AreHeld}
use Rattle.frame_pool.specs.Pool.{is_used, used_count}
use Rattle.tagged_memory.specs.Frames.{frame}
use Rattle.frame_owners.specs.Homes.{Owner, owner}
use Rattle.page_table.specs.declared.table.Entry.{Entry}
use Rattle.page_table.specs.Entries.{Table}
use Rattle.contents.specs.Content.{Content, page_at, used_frames, is_full}
use Rattle.stores.specs.declared.board.Board.{Board}
use Rattle.stores.specs.Boards.{frame_in, frame_of, HasPage, HasSamePage, Stands}
use Rattle.stores.proofs.BoardCounts.{count_by-taken}
use Rattle.stores.proofs.FramesShared.{length-frames}
use Rattle.stores.proofs.SharersCounted.{sharers-most}

-- an entry lies below the last region and page
pub entry-within : (table : Table) (region page : ℕ) (e : Entry) → table.entries region page ≡ Some e → (region < most_regions) × (page < region_pages)
entry-within table region page e here = by (cases_lt region most_regions) (cases_lt page region_pages)
  where
    by : (region < most_regions) ⊎ (most_regions ≤ region) → (page < region_pages) ⊎ (region_pages ≤ page) → (region < most_regions) × (page < region_pages)
    by (inl below) (inl under) = (below, under)
    by (inr far) _ = absurd (let none = table.past region page (inl far) in cc)
    by (inl below) (inr far) = absurd (let none = table.past region page (inr far) in cc)

-- so does a page that has a frame
pub frame-within : (table : Table) (region page f : ℕ) → frame_of table.entries region page ≡ Some f → (region < most_regions) × (page < region_pages)
frame-within table region page f here = by (table.entries region page) refl here
  where
    by : (o : Option Entry) → table.entries region page ≡ o → frame_in o ≡ Some f → (region < most_regions) × (page < region_pages)
    by None is here = absurd (cc)
    by (Some e) is here = entry-within table region page e is

-- the page of an entry
pub record HasPageOf (board : Board) (c : Content) (region page : ℕ) (e : Entry) : Type 0 where
  pub p : Page
  pub there : page_at c region page ≡ Some p
  pub has : HasPage board.memory board.owners region e p

-- an entry has a page
some-page : (memory : List (List Cap)) (owners : List Owner) (region : ℕ) (e : Entry) (o : Option Page) → HasSamePage memory owners region (Some e) o → (p : Page) × (o ≡ Some p) × HasPage memory owners region e p
some-page memory owners region e None has = absurd has
some-page memory owners region e (Some p) has = (p, refl, has)

pub page-found : (board : Board) (c : Content) (region page : ℕ) (e : Entry) → Stands board c → board.table.entries region page ≡ Some e → HasPageOf board c region page e
page-found board c region page e stands here =
    let found = some-page board.memory board.owners region e (page_at c region page) (subst (λ (o : Option Entry). HasSamePage board.memory board.owners region o (page_at c region page)) here (stands.pages region page)) in
    record { p = found.0; there = found.1; has = found.2 }

-- a page has an entry
some-entry : (memory : List (List Cap)) (owners : List Owner) (region : ℕ) (o : Option Entry) (p : Page) → HasSamePage memory owners region o (Some p) → (e : Entry) × (o ≡ Some e) × HasPage memory owners region e p
some-entry memory owners region None p has = absurd has
some-entry memory owners region (Some e) p has = (e, refl, has)

pub entry-found : (board : Board) (c : Content) (region page : ℕ) (p : Page) → Stands board c → page_at c region page ≡ Some p
    → (e : Entry) × (board.table.entries region page ≡ Some e) × HasPage board.memory board.owners region e p
entry-found board c region page p stands there =
    some-entry board.memory board.owners region (board.table.entries region page) p (subst (λ (o : Option Page). HasSamePage board.memory board.owners region (board.table.entries region page) o) there (stands.pages region page))

-- there is no page where there is no entry
none-page : (memory : List (List Cap)) (owners : List Owner) (region : ℕ) (o : Option Page) → HasSamePage memory owners region None o → o ≡ None
none-page memory owners region None has = refl
none-page memory owners region (Some p) has = absurd has

pub page-absent : (board : Board) (c : Content) (region page : ℕ) → Stands board c → board.table.entries region page ≡ None → page_at c region page ≡ None
page-absent board c region page stands none =
    none-page board.memory board.owners region (page_at c region page) (subst (λ (o : Option Entry). HasSamePage board.memory board.owners region o (page_at c region page)) none (stands.pages region page))

-- an entry is there exactly where its page is
both-there : (memory : List (List Cap)) (owners : List Owner) (region : ℕ) (o : Option Entry) (p : Option Page) → HasSamePage memory owners region o p → is_some o ≡ is_some p
both-there memory owners region None None has = refl
both-there memory owners region None (Some p) has = absurd has
both-there memory owners region (Some e) None has = absurd has
both-there memory owners region (Some e) (Some p) has = refl

pub entry-there : (board : Board) (c : Content) (region page : ℕ) → Stands board c → is_some (board.table.entries region page) ≡ is_some (page_at c region page)
entry-there board c region page stands = both-there board.memory board.owners region (board.table.entries region page) (page_at c region page) (stands.pages region page)

-- pages with the same rights and granules are the same
pub same-page : (p q : Page) → p.rights ≡ q.rights → p.granules ≡ q.granules → p ≡ q
same-page p q rights granules i = record { rights = rights i; granules = granules i }

-- What is known of the frame of an entry.
pub record IsEntryOf (board : Board) (e : Entry) : Type 0 where
  pub size : e.frame.0 < board.pool.size
  pub memory : e.frame.0 < length board.memory
  pub owners : e.frame.0 < length board.owners
  pub used : is_used board.pool e.frame.0 ≡ true
  pub least : 0 < (owner board.owners e.frame.0).sharers
  pub most : (owner board.owners e.frame.0).sharers ≤ most_regions
  pub home : (owner board.owners e.frame.0).home < most_regions
  pub held : AreHeld (owner board.owners e.frame.0).home (frame board.memory e.frame.0)
  pub whole : length (frame board.memory e.frame.0) ≡ page_granules

pub entry-known : (board : Board) (c : Content) (region page : ℕ) (e : Entry) → Stands board c → board.table.entries region page ≡ Some e → IsEntryOf board e
entry-known board c region page e stands here =
    let at : frame_of board.table.entries region page ≡ Some e.frame.0 = ap frame_in here in
    let listed = stands.kept.listed region page e.frame.0 at in
    let used = stands.kept.used e.frame.0 listed in
    let below = stands.kept.within e.frame.0 listed in
    let found = page-found board c region page e stands here in
    record {
      size = rw stands.size below;
      memory = let most = stands.memory in omega arith;
      owners = let most = stands.owners in omega arith;
      used = used;
      least = let shared : nat_lt 0 (owner board.owners e.frame.0).sharers ≡ true = sym (stands.kept.counted e.frame.0) ∙ used in grind (arith, nat_tests);
      most = sharers-most stands.kept most_regions (λ r p g there. (frame-within board.table r p g there).0) region page e.frame.0 at;
      home = found.has.home;
      held = found.has.held;
      whole = found.has.whole;
    }

-- as many frames are taken as there are classes
pub used_count-classes : (board : Board) (c : Content) → Stands board c → used_count board.pool ≡ used_frames c
used_count-classes board c stands =
    count_by-taken board.pool.used stands.frames stands.kept.distinct stands.kept.taken stands.kept.used
    ∙ length-frames (frame_of board.table.entries) (owner board.owners) stands.frames c.account stands.kept.classes

-- the content is full exactly where all frames of the pool are taken
pub is_full-taken : (board : Board) (c : Content) → Stands board c → is_full c ≡ nat_eq (used_count board.pool) board.pool.size
is_full-taken board c stands = rw (used_count-classes board c stands, stands.size) refl
