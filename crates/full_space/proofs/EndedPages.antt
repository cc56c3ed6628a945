-- What a board stands for while the pages of a region go one after another.
use Rattle.std.proofs.Common.{◌≡◌, ◌≢◌, ◌∙◌, ◌⊎◌, inl, inr, ℕ, ◌+◌, ◌<◌, ◌≤◌, nat_lt, not, Bool, true, false, cond, Option, Some, None, List, map, filter, refl, ap, sym, arith}
use Rattle.std.specs.Option.{option_map}
use Rattle.std.proofs.lemmas.Bool.{cases_lt}
use Rattle.std.proofs.lemmas.Bool.Decides.{nat_tests}
use Rattle.cap_format.specs.Numbers.{region_pages}
use Rattle.machine_types.specs.Lists.{IsIn}
use Rattle.machine_types.specs.Stores.{Page, Store}
use Rattle.machine_types.specs.Accounts.{Member, Class, is_member, has_members}
use Rattle.machine_types.specs.Touches.{without_member}
use Rattle.frame_owners.specs.Homes.{owner}
use Rattle.page_table.specs.declared.table.Entry.{Entry}
use Rattle.contents.specs.Content.{Content, page_in, page_at}
use Rattle.contents.specs.Regions.{end_of}
use Rattle.contents.proofs.OtherStores.{changed-elsewhere, changed-there}
use Rattle.stores.specs.declared.board.Board.{Board}
use Rattle.stores.specs.Boards.{frame_in, frame_of, Stands}
use Rattle.stores.proofs.AlikeContents.{StandAlike, stands-alike}
use Rattle.stores.proofs.BoardPages.{frame-within, page-absent}
use Rattle.stores.proofs.FrameSteps.{equal-or-not, page-or-other}
use Rattle.full_space.specs.Steps.{pages_from, account_below, ended_below}
use Rattle.full_space.proofs.EndedAccounts.{account_below-more, account_below-all, account_below-none, account-stays}
use Rattle.full_space.proofs.LostFrames.{HasLostFrame, HasLostPage, stands-lost}

-- The content of which the pages below a number are gone.
module _ (c : Content) (region n : ℕ) where
  -- the pages of the region
  ended-here : (page : ℕ) → page_at (ended_below c region n) region page ≡ cond (nat_lt page n) None (page_at c region page)
  unfolding ended_below
  ended-here page = ap (λ (o : Option Store). page_in o page) (changed-there c.stores region (option_map (pages_from n) (c.stores region))) ∙ by (c.stores region)
    where
      none : (b : Bool) → None ≡ cond {A = Option Page} b None None
      none true = refl
      none false = refl

      by : (o : Option Store) → page_in (option_map (pages_from n) o) page ≡ cond {A = Option Page} (nat_lt page n) None (page_in o page)
      by None = none (nat_lt page n)
      by (Some store) = refl

  -- those of other regions
  ended-other : (r page : ℕ) → r ≢ region → page_at (ended_below c region n) r page ≡ page_at c r page
  unfolding ended_below
  ended-other r page other = ap (λ (o : Option Store). page_in o page) (changed-elsewhere c.stores region r (option_map (pages_from n) (c.stores region)) other)

  ended-account : (ended_below c region n).account ≡ account_below region n c.account
  unfolding ended_below
  ended-account = refl

  ended-frames : (ended_below c region n).frames ≡ c.frames
  unfolding ended_below
  ended-frames = refl

-- one page more is gone
page-more : (c : Content) (region n : ℕ) → HasLostPage (ended_below c region n) (ended_below c region (n + 1)) region n
page-more c region n = record {
  here = let below : nat_lt n (n + 1) ≡ true = grind (arith, nat_tests) in ended-here c region (n + 1) n ∙ rw below refl;
  others = λ r page apart. others r page apart (equal-or-not r region);
  account = ended-account c region (n + 1) ∙ account_below-more region n c.account ∙ ap (λ (account : List Class). filter has_members (map (without_member region n) account)) (sym (ended-account c region n));
  frames = ended-frames c region (n + 1) ∙ sym (ended-frames c region n);
}
  where
    others : (r page : ℕ) → (r ≢ region) ⊎ (page ≢ n) → (r ≡ region) ⊎ (r ≢ region) → page_at (ended_below c region (n + 1)) r page ≡ page_at (ended_below c region n) r page
    others r page apart (inr other) = ended-other c region (n + 1) r page other ∙ sym (ended-other c region n r page other)
    others r page (inl other) (inl same) = absurd (other same)
    others r page (inr other) (inl same) =
        let tests : nat_lt page (n + 1) ≡ nat_lt page n = grind (arith, nat_tests) in
        rw same (ended-here c region (n + 1) page ∙ ap (λ (b : Bool). cond b None (page_at c region page)) tests ∙ sym (ended-here c region n page))

-- each frame of a board that stands for some content has a sharer
shared : (board : Board) (c : Content) (stands : Stands board c) (f : ℕ) → IsIn f stands.frames → 0 < (owner board.owners f).sharers
shared board c stands f i = let some : nat_lt 0 (owner board.owners f).sharers ≡ true = sym (stands.kept.counted f) ∙ stands.kept.used f i in grind (arith, nat_tests)

-- At first no page is gone.
pub stands-begun : (board : Board) (c : Content) (region : ℕ) → Stands board c → Stands board (ended_below c region 0)
stands-begun board c region stands = stands-alike board c (ended_below c region 0) alike stands
  where
    none : (n : ℕ) → nat_lt n 0 ≡ false
    none n = grind (arith, nat_tests)

    pages : (r page : ℕ) → (r ≡ region) ⊎ (r ≢ region) → page_at (ended_below c region 0) r page ≡ page_at c r page
    pages r page (inl same) = rw same (ended-here c region 0 page ∙ rw (none page) refl)
    pages r page (inr other) = ended-other c region 0 r page other

    alike : StandAlike c (ended_below c region 0)
    alike = record {
      pages = λ r page. pages r page (equal-or-not r region);
      account = ended-account c region 0 ∙ account_below-none (frame_of board.table.entries) (owner board.owners) region stands.frames c.account stands.kept.classes (shared board c stands);
      frames = ended-frames c region 0;
    }

-- A page goes, with its frame.
pub stands-dropped : (old new : Board) (c : Content) (region page : ℕ) (e : Entry) → HasLostFrame old new region page e → Stands old (ended_below c region page) → Stands new (ended_below c region (page + 1))
stands-dropped old new c region page e lost stands = stands-lost old new region page e lost (ended_below c region page) stands (ended_below c region (page + 1)) (page-more c region page)

-- Or there is none to go.
pub stands-absent : (board : Board) (c : Content) (region page : ℕ) → board.table.entries region page ≡ None → Stands board (ended_below c region page) → Stands board (ended_below c region (page + 1))
stands-absent board c region page none stands = stands-alike board before after record { pages = λ r p. pages r p (page-or-other r p region page); account = lost.account ∙ account; frames = lost.frames } stands
  where
    before : Content
    before = ended_below c region page

    after : Content
    after = ended_below c region (page + 1)

    lost : HasLostPage (ended_below c region page) (ended_below c region (page + 1)) region page
    lost = page-more c region page

    pages : (r p : ℕ) → ((r ≡ region) × (p ≡ page)) ⊎ ((r ≢ region) ⊎ (p ≢ page)) → page_at (ended_below c region (page + 1)) r p ≡ page_at (ended_below c region page) r p
    pages r p (inl (same, alike)) = rw (same, alike) (lost.here ∙ sym (page-absent board (ended_below c region page) region page stands none))
    pages r p (inr apart) = lost.others r p apart

    account : filter has_members (map (without_member region page) (ended_below c region page).account) ≡ (ended_below c region page).account
    account = account-stays (frame_of board.table.entries) (owner board.owners) (λ m. not (is_member region page m)) stands.frames (ended_below c region page).account stands.kept.classes (shared board (ended_below c region page) stands)
        (λ m f at. keeps m f at (is_member region page m) refl)
      where
        keeps : (m : Member) (f : ℕ) → frame_of board.table.entries m.region m.page ≡ Some f → (b : Bool) → is_member region page m ≡ b → not b ≡ true
        keeps m f at false is = refl
        keeps m f at true is =
            let same : m.region ≡ region = grind (arith, nat_tests) in
            let alike : m.page ≡ page = grind (arith, nat_tests) in
            let there = rw (same, alike) at at in
            let absent = ap frame_in none in
            absurd (cc)

-- At last all are gone.
pub stands-ended : (first last : Board) (c : Content) (region : ℕ) → Stands first c → Stands last (ended_below c region region_pages) → Stands last (end_of c region)
unfolding end_of
stands-ended first last c region was stands = stands-alike last (ended_below c region region_pages) (end_of c region) record {
  pages = λ r page. pages r page (equal-or-not r region);
  account = sym (ended-account c region region_pages ∙ account_below-all (frame_of first.table.entries) (owner first.owners) region was.frames c.account was.kept.classes (λ r p f at. (frame-within first.table r p f at).1));
  frames = sym (ended-frames c region region_pages);
} stands
  where
    past : (page : ℕ) → (page < region_pages) ⊎ (region_pages ≤ page) → cond (nat_lt page region_pages) None (page_at c region page) ≡ None
    past page (inl below) = let test : nat_lt page region_pages ≡ true = grind (arith, nat_tests) in rw test refl
    past page (inr far) = let test : nat_lt page region_pages ≡ false = grind (arith, nat_tests) in rw test (page-absent first c region page was (first.table.past region page (inr far)))

    pages : (r page : ℕ) → (r ≡ region) ⊎ (r ≢ region) → page_at (end_of c region) r page ≡ page_at (ended_below c region region_pages) r page
    pages r page (inl same) =
        rw same (ap (λ (o : Option Store). page_in o page) (changed-there c.stores region None) ∙ sym (past page (cases_lt page region_pages)) ∙ sym (ended-here c region region_pages page))
    pages r page (inr other) = ap (λ (o : Option Store). page_in o page) (changed-elsewhere c.stores region r None other) ∙ sym (ended-other c region region_pages r page other)
