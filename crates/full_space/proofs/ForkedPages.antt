-- What a content is while a region gets the pages of another one after another, and after the fork.
use Rattle.std.proofs.Common.{◌≡◌, ◌≢◌, ◌∙◌, ◌⊎◌, inl, inr, ℕ, ◌+◌, ◌<◌, ◌≤◌, nat_lt, Bool, true, false, cond, Option, Some, None, is_some, Ok, List, [], ◌∷◌, ◌++◌, length, map, refl, ap, sym, arith}
use Rattle.std.specs.Option.{option_map}
use Rattle.std.proofs.lemmas.Bool.{cases_lt, le-ltb}
use Rattle.std.proofs.lemmas.Bool.Decides.{nat_tests}
use Rattle.std.proofs.lemmas.List.{map-append, append_assoc, append-nil}
use Rattle.cap_format.specs.Numbers.{region_pages}
use Rattle.machine_types.specs.declared.config.Rule.{Rule}
use Rattle.machine_types.specs.declared.config.Rule.TheVariants.{Full, Access, Pointer}
use Rattle.machine_types.specs.Stores.{Page, Store, moved_page, moved_store}
use Rattle.machine_types.specs.Accounts.{Class, class_for, account_at_fork}
use Rattle.contents.specs.Content.{Content, page_in, page_at, free_frames}
use Rattle.contents.specs.Regions.{fork_of, fork_with, numbers_in}
use Rattle.contents.proofs.OtherStores.{changed-elsewhere, changed-there}
use Rattle.stores.proofs.AlikeContents.{StandAlike}
use Rattle.stores.proofs.FrameSteps.{equal-or-not, page-or-other}
use Rattle.stores.proofs.NewPages.{HasNewPage}
use Rattle.full_space.specs.Steps.{pages_until, numbers_below, forked_below}
use Rattle.full_space.proofs.CountedPages.{numbers_below-none, numbers_below-more, numbers_below-skip, numbers_below-all}

-- The content in which the child has the pages below a number.
module _ (c : Content) (from to n : ℕ) where
  -- the pages of the child
  forked-here : (page : ℕ) → page_at (forked_below c from to n) to page ≡ cond (nat_lt page n) (option_map (moved_page from to) (page_at c from page)) None
  unfolding forked_below
  forked-here page = ap (λ (o : Option Store). page_in o page) (changed-there c.stores to (option_map (λ store. pages_until n (moved_store from to store)) (c.stores from))) ∙ by (c.stores from)
    where
      none : (b : Bool) → None ≡ cond {A = Option Page} b None None
      none true = refl
      none false = refl

      by : (o : Option Store) → page_in (option_map (λ store. pages_until n (moved_store from to store)) o) page ≡ cond {A = Option Page} (nat_lt page n) (option_map (moved_page from to) (page_in o page)) None
      by None = none (nat_lt page n)
      by (Some store) = refl

  -- those of other regions
  pub forked-other : (r page : ℕ) → r ≢ to → page_at (forked_below c from to n) r page ≡ page_at c r page
  unfolding forked_below
  forked-other r page other = ap (λ (o : Option Store). page_in o page) (changed-elsewhere c.stores to r (option_map (λ store. pages_until n (moved_store from to store)) (c.stores from)) other)

  pub forked-account : (forked_below c from to n).account ≡ c.account ++ map (class_for to) (numbers_below (c.stores from) n)
  unfolding forked_below
  forked-account = refl

  pub forked-frames : (forked_below c from to n).frames ≡ c.frames
  unfolding forked_below
  forked-frames = refl

  -- the child has no page from the number on
  pub forked-past : (page : ℕ) → n ≤ page → page_at (forked_below c from to n) to page ≡ None
  forked-past page past = let test : nat_lt page n ≡ false = le-ltb page n past in forked-here page ∙ rw test refl

-- At first the child has no page.
pub none-forked : (c : Content) (from to : ℕ) → ((page : ℕ) → page_at c to page ≡ None) → StandAlike c (forked_below c from to 0)
none-forked c from to empty = record {
  pages = λ r page. pages r page (equal-or-not r to);
  account = forked-account c from to 0 ∙ ap (λ (numbers : List ℕ). c.account ++ map (class_for to) numbers) (numbers_below-none (c.stores from)) ∙ append-nil c.account;
  frames = forked-frames c from to 0;
}
  where
    pages : (r page : ℕ) → (r ≡ to) ⊎ (r ≢ to) → page_at (forked_below c from to 0) r page ≡ page_at c r page
    pages r page (inl same) = rw same (forked-past c from to 0 page (omega arith) ∙ sym (empty page))
    pages r page (inr other) = forked-other c from to 0 r page other

-- One page more.
module _ (c : Content) (from to n : ℕ) where
  -- the page of the child
  page-here : page_at (forked_below c from to (n + 1)) to n ≡ option_map (moved_page from to) (page_at c from n)
  page-here = let below : nat_lt n (n + 1) ≡ true = grind (arith, nat_tests) in forked-here c from to (n + 1) n ∙ rw below refl

  -- the other pages stay
  pages-elsewhere : (r page : ℕ) → (r ≢ to) ⊎ (page ≢ n) → page_at (forked_below c from to (n + 1)) r page ≡ page_at (forked_below c from to n) r page
  pages-elsewhere r page apart = by apart (equal-or-not r to)
    where
      by : (r ≢ to) ⊎ (page ≢ n) → (r ≡ to) ⊎ (r ≢ to) → page_at (forked_below c from to (n + 1)) r page ≡ page_at (forked_below c from to n) r page
      by apart (inr other) = forked-other c from to (n + 1) r page other ∙ sym (forked-other c from to n r page other)
      by (inl other) (inl same) = absurd (other same)
      by (inr other) (inl same) =
          let tests : nat_lt page (n + 1) ≡ nat_lt page n = grind (arith, nat_tests) in
          rw same (forked-here c from to (n + 1) page ∙ ap (λ (b : Bool). cond b (option_map (moved_page from to) (page_at c from page)) None) tests ∙ sym (forked-here c from to n page))

  -- It is the parent's page, moved, in a class of its own.
  pub page-forked : (p : Page) → page_at c from n ≡ Some p → HasNewPage (forked_below c from to n) (forked_below c from to (n + 1)) to n (moved_page from to p)
  page-forked p there = record {
    here = page-here ∙ ap (option_map (moved_page from to)) there;
    others = pages-elsewhere;
    account =
        forked-account c from to (n + 1)
        ∙ ap (λ (numbers : List ℕ). c.account ++ map (class_for to) numbers) (numbers_below-more (c.stores from) n (ap is_some there))
        ∙ ap (λ (classes : List Class). c.account ++ classes) (map-append (class_for to) (numbers_below (c.stores from) n) (n ∷ []))
        ∙ sym (append_assoc c.account (map (class_for to) (numbers_below (c.stores from) n)) (class_for to n ∷ []))
        ∙ ap (λ (account : List Class). account ++ (class_for to n ∷ [])) (sym (forked-account c from to n));
    frames = forked-frames c from to (n + 1) ∙ sym (forked-frames c from to n);
  }

  -- Or there is none, and nothing changes.
  pub none-to-fork : page_at c from n ≡ None → StandAlike (forked_below c from to n) (forked_below c from to (n + 1))
  none-to-fork none = record {
    pages = λ r page. pages r page (page-or-other r page to n);
    account =
        forked-account c from to (n + 1)
        ∙ ap (λ (numbers : List ℕ). c.account ++ map (class_for to) numbers) (numbers_below-skip (c.stores from) n (ap is_some none))
        ∙ sym (forked-account c from to n);
    frames = forked-frames c from to (n + 1) ∙ sym (forked-frames c from to n);
  }
    where
      pages : (r page : ℕ) → ((r ≡ to) × (page ≡ n)) ⊎ ((r ≢ to) ⊎ (page ≢ n)) → page_at (forked_below c from to (n + 1)) r page ≡ page_at (forked_below c from to n) r page
      pages r page (inl (same, alike)) = rw (same, alike) (page-here ∙ ap (option_map (moved_page from to)) none ∙ sym (forked-past c from to n n (omega arith)))
      pages r page (inr apart) = pages-elsewhere r page apart

-- After the last page.

-- under `full` each page gives a class more, where so many frames are free
account-full : (rule : Rule) (free : ℕ) (account : List Class) (from to : ℕ) (pages : List ℕ) → rule ≡ Full → length pages ≤ free → account_at_fork rule free account from to pages ≡ Some (account ++ map (class_for to) pages)
unfolding account_at_fork
account-full Full free account from to pages full room = let test : nat_lt free (length pages) ≡ false = le-ltb free (length pages) room in rw test refl
account-full Access free account from to pages full room = absurd (cc)
account-full Pointer free account from to pages full room = absurd (cc)

-- so the fork is made
fork-made : (c : Content) (from to : ℕ) → c.rule ≡ Full → length (numbers_in (c.stores from)) ≤ free_frames c
    → fork_of c from to ≡ fork_with c from to (Some (c.account ++ map (class_for to) (numbers_in (c.stores from))))
unfolding fork_of
fork-made c from to full room = ap (fork_with c from to) (account-full c.rule (free_frames c) c.account from to (numbers_in (c.stores from)) full room)

pub fork-answer : (c : Content) (from to : ℕ) → c.rule ≡ Full → length (numbers_in (c.stores from)) ≤ free_frames c → Ok tt ≡ (fork_of c from to).answer
fork-answer c from to full room = sym (ap (λ outcome. outcome.answer) (fork-made c from to full room))

-- and the child has all pages of the parent, where that has none past the last
pub all-forked : (c : Content) (from to : ℕ) → c.rule ≡ Full → length (numbers_in (c.stores from)) ≤ free_frames c → ((page : ℕ) → region_pages ≤ page → page_at c from page ≡ None)
    → StandAlike (forked_below c from to region_pages) (fork_of c from to).after
all-forked c from to full room past = rw (fork-made c from to full room) record {
  pages = λ r page. pages r page (equal-or-not r to);
  account = sym (forked-account c from to region_pages ∙ ap (λ (numbers : List ℕ). c.account ++ map (class_for to) numbers) (sym (numbers_below-all (c.stores from))));
  frames = sym (forked-frames c from to region_pages);
}
  where
    after : Content
    after = (fork_with c from to (Some (c.account ++ map (class_for to) (numbers_in (c.stores from))))).after

    moved : (o : Option Store) (page : ℕ) → page_in (option_map (moved_store from to) o) page ≡ option_map (moved_page from to) (page_in o page)
    moved None page = refl
    moved (Some store) page = refl

    below : (page : ℕ) → (page < region_pages) ⊎ (region_pages ≤ page) → cond (nat_lt page region_pages) (option_map (moved_page from to) (page_at c from page)) None ≡ option_map (moved_page from to) (page_at c from page)
    below page (inl near) = let test : nat_lt page region_pages ≡ true = grind (arith, nat_tests) in rw test refl
    below page (inr far) = rw (past page far) (by (nat_lt page region_pages))
      where
        by : (b : Bool) → cond {A = Option Page} b None None ≡ None
        by true = refl
        by false = refl

    pages : (r page : ℕ) → (r ≡ to) ⊎ (r ≢ to) → page_at after r page ≡ page_at (forked_below c from to region_pages) r page
    pages r page (inl same) =
        rw same (ap (λ (o : Option Store). page_in o page) (changed-there c.stores to (option_map (moved_store from to) (c.stores from)))
        ∙ moved (c.stores from) page ∙ sym (below page (cases_lt page region_pages)) ∙ sym (forked-here c from to region_pages page))
    pages r page (inr other) =
        ap (λ (o : Option Store). page_in o page) (changed-elsewhere c.stores to r (option_map (moved_store from to) (c.stores from)) other)
        ∙ sym (forked-other c from to region_pages r page other)
