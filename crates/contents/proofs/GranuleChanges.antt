-- Changes of the granules of a page: one that leaves them, and two one after the other.
use Rattle.std.proofs.Common.{◌≡◌, ◌≢◌, ◌∙◌, ◌⊎◌, inl, inr, ℕ, refl, sym, ap, true, false, Bool, cond, nat_eq, Option, Some, None, List}
use Rattle.std.specs.Option.{option_map}
use Rattle.std.proofs.Math.Path.{fun_ext}
use Rattle.std.proofs.lemmas.Bool.Decides.{eqb_tells}
use Rattle.cap_format.specs.declared.cap.Cap.{Cap}
use Rattle.machine_types.specs.Stores.{Store, changed, page_with, store_with}
use Rattle.contents.specs.Content.{Content, with_granules}
use Rattle.contents.proofs.OtherStores.{changed-there}

-- a function with the value that it has at a number is itself
changed-same : {A : Type 0} (f : ℕ → A) (at : ℕ) (value : A) → value ≡ f at → changed f at value ≡ f
changed-same {A} f at value same = fun_ext (λ n. by n (eqb_tells n at))
  where
    by : (n : ℕ) → ((nat_eq n at ≡ true) × (n ≡ at)) ⊎ ((nat_eq n at ≡ false) × (n ≢ at)) → cond (nat_eq n at) value (f n) ≡ f n
    by n (inl (test, here)) = rw test (same ∙ ap f (sym here))
    by n (inr (test, _)) = rw test refl

-- of two changes at one number the second stays
changed-again : {A : Type 0} (f : ℕ → A) (at : ℕ) (first second : A) → changed (changed f at first) at second ≡ changed f at second
changed-again {A} f at first second = fun_ext (λ n. by n (nat_eq n at))
  where
    by : (n : ℕ) (b : Bool) → cond b second (cond b first (f n)) ≡ cond b second (f n)
    by n true = refl
    by n false = refl

-- so a value that is changed twice is changed by both
changed-twice : {A : Type 0} (f : ℕ → A) (at : ℕ) (u v w : A → A) → ((x : A) → v (u x) ≡ w x) → changed (changed f at (u (f at))) at (v (changed f at (u (f at)) at)) ≡ changed f at (w (f at))
changed-twice f at u v w both = changed-again f at (u (f at)) _ ∙ ap (changed f at) (ap v (changed-there f at (u (f at))) ∙ both (f at))

-- what may be there stays where nothing changes
map-same : {A : Type 0} (u : A → A) → ((x : A) → u x ≡ x) → (o : Option A) → option_map u o ≡ o
map-same u same None = refl
map-same {A} u same (Some x) = ap (λ (x : A). Some x) (same x)

-- and is changed twice by both
map-twice : {A : Type 0} (u v w : A → A) → ((x : A) → v (u x) ≡ w x) → (o : Option A) → option_map v (option_map u o) ≡ option_map w o
map-twice u v w both None = refl
map-twice {A} u v w both (Some x) = ap (λ (x : A). Some x) (both x)

-- a store
store_with-same : (page : ℕ) (store : Store) → store_with page (λ granules. granules) store ≡ store
store_with-same page store = changed-same store page _ (map-same (page_with (λ granules. granules)) (λ p. refl) (store page))

store_with-twice : (page : ℕ) (first second : List Cap → List Cap) (store : Store) → store_with page second (store_with page first store) ≡ store_with page (λ granules. second (first granules)) store
store_with-twice page first second store =
    changed-twice store page (option_map (page_with first)) (option_map (page_with second)) (option_map (page_with (λ granules. second (first granules)))) (map-twice (page_with first) (page_with second) _ (λ p. refl))

-- a content whose page keeps its granules is as before
pub with_granules-same : (c : Content) (region page : ℕ) → with_granules c region page (λ granules. granules) ≡ c
with_granules-same c region page =
    ap (λ (stores : ℕ → Option Store). record c { stores = stores }) (changed-same c.stores region _ (map-same (store_with page (λ granules. granules)) (store_with-same page) (c.stores region)))

-- two changes of the granules of a page are one
pub with_granules-twice : (c : Content) (region page : ℕ) (first second : List Cap → List Cap)
    → with_granules (with_granules c region page first) region page second ≡ with_granules c region page (λ granules. second (first granules))
with_granules-twice c region page first second =
    ap (λ (stores : ℕ → Option Store). record c { stores = stores })
    (changed-twice c.stores region (option_map (store_with page first)) (option_map (store_with page second)) (option_map (store_with page (λ granules. second (first granules))))
    (map-twice (store_with page first) (store_with page second) _ (store_with-twice page first second)))
