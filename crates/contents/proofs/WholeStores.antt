-- The stores of a whole content, one at a time, and changes of one of them.
use Rattle.std.proofs.Common.{◌≡◌, ◌≢◌, ◌∙◌, ◌⊎◌, inl, inr, ap, subst, ℕ, ◌≤◌, ◌<◌, nat_eq, nat_lt, ◌==◌, ◌&&◌, is_some, Option, Some, None, List, length, cond, true, false, Bool, All, refl}
use Rattle.std.specs.List.{list_any}
use Rattle.std.specs.Option.{option_map}
use Rattle.std.proofs.lemmas.Bool.{ltb-false}
use Rattle.std.proofs.lemmas.Bool.Decides.{eqb_tells}
use Rattle.cap_format.specs.Numbers.{region_pages, page_granules, most_regions}
use Rattle.cap_format.specs.declared.cap.Cap.{Cap}
use Rattle.machine_types.specs.Lists.{count_of}
use Rattle.machine_types.specs.Held.{AreHeld}
use Rattle.machine_types.specs.Stores.{Page, Store, IsStore, changed, empty_store, page_with, store_with, moved_page, moved_store}
use Rattle.machine_types.specs.Accounts.{has_member}
use Rattle.machine_types.proofs.PageNumbers.{numbers-are}
use Rattle.machine_types.proofs.MovedPages.{length-moved_granules, AreHeld-moved_granules}
use Rattle.contents.specs.Content.{Content, page_in, page_at, used_frames, with_store}
use Rattle.contents.specs.Regions.{numbers_in}
use Rattle.contents.specs.Whole.{IsClass, IsWhole}
use Rattle.contents.proofs.Options.{is_some-option_map}

-- a page of a region has 256 granules that the region may hold
pub record IsPageOf (region : ℕ) (p : Page) : Type 0 where
  pub long : length p.granules ≡ page_granules
  pub held : AreHeld region p.granules

-- the store of a region, or none, ends at the last page, and its pages are of the region
pub record IsStoreOf (region : ℕ) (o : Option Store) : Type 0 where
  pub past : (page : ℕ) → region_pages ≤ page → page_in o page ≡ None
  pub pages : (page : ℕ) (p : Page) → page_in o page ≡ Some p → IsPageOf region p

-- each store of a whole content is such a one
pub store-of : (c : Content) (region : ℕ) → IsWhole c → IsStoreOf region (c.stores region)
store-of c region is = record {
  past = λ page past. by-past page past (c.stores region) refl;
  pages = λ page p e. record { long = by-long page p (c.stores region) refl e; held = is.held region page p e };
}
  where
    by-past : (page : ℕ) → region_pages ≤ page → (o : Option Store) → c.stores region ≡ o → page_in o page ≡ None
    by-past page past None e = refl
    by-past page past (Some store) e = (is.stores region store e).past page past

    by-long : (page : ℕ) (p : Page) (o : Option Store) → c.stores region ≡ o → page_in o page ≡ Some p → length p.granules ≡ page_granules
    by-long page p None e f = absurd (cc)
    by-long page p (Some store) e f = (is.stores region store e).granules page p f

-- a page has a number exactly where it is there
pub numbers-of : (region page : ℕ) (o : Option Store) → IsStoreOf region o → list_any (λ n. n == page) (numbers_in o) ≡ is_some (page_in o page)
numbers-of region page None is = refl
numbers-of region page (Some store) is = numbers-are store page ∙ by (nat_lt page region_pages) refl
  where
    by : (b : Bool) → nat_lt page region_pages ≡ b → (b && is_some (store page)) ≡ is_some (store page)
    by true test = refl
    by false test = let none : store page ≡ None = is.past page (ltb-false _ _ test) in rw none refl

-- a content is whole by its stores, one at a time, and its account
pub whole-by : (c : Content) → ((region : ℕ) → IsStoreOf region (c.stores region)) → ((region page : ℕ) → count_of (has_member region page) c.account ≡ cond (is_some (page_at c region page)) 1 0)
    → All IsClass c.account → used_frames c ≤ c.frames → IsWhole c
whole-by c are pages classes used = record {
  stores = λ region store e. by store (subst (IsStoreOf region) e (are region));
  pages = pages;
  classes = classes;
  used = used;
  held = λ region page p e. ((are region).pages page p e).held;
}
  where
    by : {region : ℕ} (store : Store) → IsStoreOf region (Some store) → IsStore store
    by store is = record { past = is.past; granules = λ page p f. (is.pages page p f).long }

-- a content with another store of a region
pub stores-changed : (c : Content) (region : ℕ) (o : Option Store) → IsWhole c → IsStoreOf region o → (r : ℕ) → IsStoreOf r ((with_store c region o).stores r)
stores-changed c region o is here r = by (eqb_tells r region)
  where
    by : ((nat_eq r region ≡ true) × (r ≡ region)) ⊎ ((nat_eq r region ≡ false) × (r ≢ region)) → IsStoreOf r (cond (nat_eq r region) o (c.stores r))
    by (inl (t, e)) = rw (t, e) here
    by (inr (t, e)) = rw t (store-of c r is)

-- and its pages
pub page-changed : (c : Content) (region : ℕ) (o : Option Store) (r p : ℕ) → page_at (with_store c region o) r p ≡ cond (nat_eq r region) (page_in o p) (page_at c r p)
page-changed c region o r p = by (nat_eq r region)
  where
    by : (b : Bool) → page_in (cond b o (c.stores r)) p ≡ cond b (page_in o p) (page_at c r p)
    by true = refl
    by false = refl

-- no store, and one without pages
pub none-of : (region : ℕ) → IsStoreOf region None
none-of region = record { past = λ page past. refl; pages = λ page p e. absurd (cc) }

pub empty-of : (region : ℕ) → IsStoreOf region (Some empty_store)
empty-of region = record { past = λ page past. refl; pages = λ page p e. absurd (cc) }

-- a store with another page, or none, at a number
pub page-put : (page : ℕ) (p : Option Page) (n : ℕ) (o : Option Store) → page_in (option_map (λ store. changed store page p) o) n ≡ cond (is_some o) (cond (nat_eq n page) p (page_in o n)) None
page-put page p n None = refl
page-put page p n (Some store) = refl

pub put-of : (region page : ℕ) (p : Option Page) (o : Option Store) → (region_pages ≤ page → p ≡ None) → ((x : Page) → p ≡ Some x → IsPageOf region x) → IsStoreOf region o
    → IsStoreOf region (option_map (λ store. changed store page p) o)
put-of region page p None past new is = is
put-of region page p (Some store) past new is = record {
  past = λ n over. by-past n over (eqb_tells n page);
  pages = λ n x. by-page n x (nat_eq n page);
}
  where
    by-past : (n : ℕ) → region_pages ≤ n → ((nat_eq n page ≡ true) × (n ≡ page)) ⊎ ((nat_eq n page ≡ false) × (n ≢ page)) → cond (nat_eq n page) p (store n) ≡ None
    by-past n over (inl (t, e)) = rw t (past (rw (← e) over))
    by-past n over (inr (t, e)) = rw t (is.past n over)

    by-page : (n : ℕ) (x : Page) (b : Bool) → cond b p (store n) ≡ Some x → IsPageOf region x
    by-page n x true e = new x e
    by-page n x false e = is.pages n x e

-- A change of granules that keeps their number, and what the region may hold.
pub record KeepsPage (region : ℕ) (change : List Cap → List Cap) : Type 0 where
  pub long : (granules : List Cap) → length (change granules) ≡ length granules
  pub held : (granules : List Cap) → AreHeld region granules → AreHeld region (change granules)

-- a store with the granules of a page changed so
pub granules-of : (region page : ℕ) (change : List Cap → List Cap) → KeepsPage region change → (o : Option Store) → IsStoreOf region o → IsStoreOf region (option_map (store_with page change) o)
granules-of region page change keeps None is = is
granules-of region page change keeps (Some store) is = put-of region page (option_map (page_with change) (store page)) (Some store) past pages is
  where
    past : region_pages ≤ page → option_map (page_with change) (store page) ≡ None
    past over = ap (option_map (page_with change)) (is.past page over)

    pages : (x : Page) → option_map (page_with change) (store page) ≡ Some x → IsPageOf region x
    pages x = by (store page) refl
      where
        by : (o : Option Page) → store page ≡ o → option_map (page_with change) o ≡ Some x → IsPageOf region x
        by None e f = absurd (cc)
        by (Some p) e f =
            let same : page_with change p ≡ x = cc in
            let old = is.pages page p e in
            subst (IsPageOf region) same (record { long = keeps.long p.granules ∙ old.long; held = keeps.held p.granules old.held })

-- the store of a parent, moved
pub moved-of : (from to : ℕ) (o : Option Store) → from < most_regions → to < most_regions → IsStoreOf from o → IsStoreOf to (option_map (moved_store from to) o)
moved-of from to None small other is = record { past = is.past; pages = λ page p e. absurd (cc) }
moved-of from to (Some store) small other is = record {
  past = λ page over. ap (option_map (moved_page from to)) (is.past page over);
  pages = λ page x. by page x (store page) refl;
}
  where
    by : (page : ℕ) (x : Page) (o : Option Page) → store page ≡ o → option_map (moved_page from to) o ≡ Some x → IsPageOf to x
    by page x None e f = absurd (cc)
    by page x (Some p) e f =
        let same : moved_page from to p ≡ x = cc in
        let old = is.pages page p e in
        subst (IsPageOf to) same (record { long = length-moved_granules from to p.granules ∙ old.long; held = AreHeld-moved_granules from to p.granules small other old.held })

-- it has the pages of the parent
pub some-moved : (from to n : ℕ) (o : Option Store) → is_some (page_in (option_map (moved_store from to) o) n) ≡ is_some (page_in o n)
some-moved from to n None = refl
some-moved from to n (Some store) = is_some-option_map (moved_page from to) (store n)
