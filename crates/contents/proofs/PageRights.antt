-- The rights of pages, and changes that leave them.
use Rattle.std.proofs.Common.{◌≡◌, ◌≢◌, ◌⊎◌, inl, inr, ℕ, refl, ap, cond, true, false, nat_eq, Option, Some, None, List}
use Rattle.std.specs.Prelude.{is_some}
use Rattle.std.specs.Option.{option_map}
use Rattle.std.proofs.lemmas.Bool.Decides.{eqb_tells}
use Rattle.cap_format.specs.declared.cap.Cap.{Cap}
use Rattle.machine_types.specs.Stores.{Page, Store, changed, page_with, store_with}
use Rattle.contents.specs.Content.{Content, page_in, page_at, with_page, with_granules}
use Rattle.contents.specs.Looks.{rights_of}
use Rattle.contents.proofs.Options.{is_some-option_map, option_map-option_map}
use Rattle.contents.proofs.OtherStores.{changed-elsewhere}

-- a page has rights exactly where it is there
pub some-rights : (c : Content) (region page : ℕ) → is_some (rights_of c region page) ≡ is_some (page_at c region page)
unfolding rights_of
some-rights c region page = is_some-option_map (λ p. p.rights) (page_at c region page)

-- a change of granules leaves the rights of each page of a store
rights-in_store : (page p : ℕ) (change : List Cap → List Cap) (o : Option Store)
    → option_map (λ q. q.rights) (page_in (option_map (store_with page change) o) p) ≡ option_map (λ q. q.rights) (page_in o p)
rights-in_store page p change None = refl
rights-in_store page p change (Some store) = by (eqb_tells p page)
  where
    by : ((nat_eq p page ≡ true) × (p ≡ page)) ⊎ ((nat_eq p page ≡ false) × (p ≢ page))
        → option_map (λ q. q.rights) (cond (nat_eq p page) (option_map (page_with change) (store page)) (store p)) ≡ option_map (λ q. q.rights) (store p)
    by (inl (test, same)) = rw (test, same) (option_map-option_map (λ q. q.rights) (page_with change) (λ q. q.rights) (λ q. refl) (store page))
    by (inr (test, other)) = rw test refl

-- and of each region
pub rights-granules : (c : Content) (region page : ℕ) (change : List Cap → List Cap) (r p : ℕ) → rights_of (with_granules c region page change) r p ≡ rights_of c r p
unfolding rights_of
rights-granules c region page change r p = by (eqb_tells r region)
  where
    by : ((nat_eq r region ≡ true) × (r ≡ region)) ⊎ ((nat_eq r region ≡ false) × (r ≢ region))
        → option_map (λ q. q.rights) (page_in (cond (nat_eq r region) (option_map (store_with page change) (c.stores region)) (c.stores r)) p) ≡ option_map (λ q. q.rights) (page_in (c.stores r) p)
    by (inl (test, same)) = rw (test, same) (rights-in_store page p change (c.stores region))
    by (inr (test, other)) = rw test refl

-- where a page is added, another page of the store is there as before
other-page : (page p : ℕ) (new : Page) (o : Option Store) → p ≢ page → page_in (option_map (λ store. changed store page (Some new)) o) p ≡ page_in o p
other-page page p new None other = refl
other-page page p new (Some store) other = changed-elsewhere store page p (Some new) other

-- so it has its rights
pub rights-other : (c : Content) (region page : ℕ) (new : Page) (r p : ℕ) → (r ≢ region) ⊎ (p ≢ page) → rights_of (with_page c region page new) r p ≡ rights_of c r p
unfolding rights_of
rights-other c region page new r p apart = by (eqb_tells r region) apart
  where
    by : ((nat_eq r region ≡ true) × (r ≡ region)) ⊎ ((nat_eq r region ≡ false) × (r ≢ region)) → (r ≢ region) ⊎ (p ≢ page)
        → option_map (λ q. q.rights) (page_in (cond (nat_eq r region) (option_map (λ store. changed store page (Some new)) (c.stores region)) (c.stores r)) p)
        ≡ option_map (λ q. q.rights) (page_in (c.stores r) p)
    by (inl (test, same)) (inl far) = absurd (far same)
    by (inl (test, same)) (inr other) = rw (test, same) (ap (option_map (λ (q : Page). q.rights)) (other-page page p new (c.stores region) other))
    by (inr (test, far)) apart = rw test refl
