-- The page numbers of a store.
use Rattle.std.proofs.Common.{◌≡◌, ◌≢◌, ◌∙◌, ◌⊎◌, inl, inr, ℕ, zero, suc, ◌≤◌, ◌<◌, ◌+◌, ◌==◌, ◌&&◌, ◌||◌, nat_lt, nat_eq, Bool, true, false, cond, is_some, List, [], ◌∷◌, ◌++◌, refl, ap, arith}
use Rattle.std.specs.List.{list_any}
use Rattle.std.proofs.lemmas.Bool.Decides.{eqb_tells, nat_tests}
use Rattle.cap_format.specs.declared.TheConstants.{REGION_PAGES}
use Rattle.machine_types.specs.Stores.{Store, pages_below, page_numbers, AreRising}

-- each number is below one
AreBelow : ℕ → List ℕ → Type 0
AreBelow most [] = Unit {0}
AreBelow most (n ∷ numbers) = (n < most) × AreBelow most numbers

-- numbers below one that rise go on rising with it
rising-more : (least most : ℕ) (numbers : List ℕ) → least ≤ most → AreRising least numbers → AreBelow most numbers → AreRising least (numbers ++ (most ∷ []))
unfolding AreBelow
rising-more least most [] within rising below = (within, tt)
rising-more least most (n ∷ numbers) within rising below = (rising.0, rising-more (n + 1) most numbers (omega arith) rising.1 below.1)

below-more : (most : ℕ) (numbers : List ℕ) → AreBelow most numbers → AreBelow (suc most) numbers
unfolding AreBelow
below-more most [] below = tt
below-more most (n ∷ numbers) below = (omega arith, below-more most numbers below.1)

below-last : (most : ℕ) (numbers : List ℕ) → AreBelow most numbers → AreBelow (suc most) (numbers ++ (most ∷ []))
unfolding AreBelow
below-last most [] below = (omega arith, tt)
below-last most (n ∷ numbers) below = (omega arith, below-last most numbers below.1)

pages-are-below : (store : Store) (n : ℕ) → AreBelow n (pages_below store n)
unfolding AreBelow
pages-are-below store zero = tt
pages-are-below store (suc n) = by (is_some (store n)) (pages-are-below store n)
  where
    by : (there : Bool) → AreBelow n (pages_below store n) → AreBelow (suc n) (cond there (pages_below store n ++ (n ∷ [])) (pages_below store n))
    by true below = below-last n (pages_below store n) below
    by false below = below-more n (pages_below store n) below

below-rise : (store : Store) (n : ℕ) → AreRising 0 (pages_below store n)
below-rise store zero = tt
below-rise store (suc n) = by (is_some (store n)) (below-rise store n)
  where
    by : (there : Bool) → AreRising 0 (pages_below store n) → AreRising 0 (cond there (pages_below store n ++ (n ∷ [])) (pages_below store n))
    by true rising = rising-more 0 n (pages_below store n) (omega arith) rising (pages-are-below store n)
    by false rising = rising

-- what one more number adds to a search
any-more : (page most : ℕ) (numbers : List ℕ) → list_any (λ n. n == page) (numbers ++ (most ∷ [])) ≡ (list_any (λ n. n == page) numbers || (most == page))
any-more page most [] = by (nat_eq most page)
  where
    by : (b : Bool) → (b || false) ≡ (false || b)
    by true = refl
    by false = refl
any-more page most (n ∷ numbers) = by (nat_eq n page) (any-more page most numbers)
  where
    by : (b : Bool) → list_any (λ k. k == page) (numbers ++ (most ∷ [])) ≡ (list_any (λ k. k == page) numbers || (most == page))
        → (b || list_any (λ k. k == page) (numbers ++ (most ∷ []))) ≡ ((b || list_any (λ k. k == page) numbers) || (most == page))
    by true rest = refl
    by false rest = rest

-- one page more, if it is there
one-more : (store : Store) (n page : ℕ) (there : Bool) → is_some (store n) ≡ there → list_any (λ k. k == page) (pages_below store n) ≡ (nat_lt page n && is_some (store page))
    → list_any (λ k. k == page) (cond there (pages_below store n ++ (n ∷ [])) (pages_below store n)) ≡ (nat_lt page (suc n) && is_some (store page))
one-more store n page true is rest = any-more page n (pages_below store n) ∙ rw rest (by (eqb_tells n page))
  where
    by : ((nat_eq n page ≡ true) × (n ≡ page)) ⊎ ((nat_eq n page ≡ false) × (n ≢ page))
        → ((nat_lt page n && is_some (store page)) || (n == page)) ≡ (nat_lt page (suc n) && is_some (store page))
    by (inl (t, e)) =
        let here : is_some (store page) ≡ true = rw (← e) is in
        let low : nat_lt page (suc n) ≡ true = grind (arith, nat_tests) in
        let past : nat_lt page n ≡ false = grind (arith, nat_tests) in
        rw (t, here, low, past) refl
    by (inr (t, e)) =
        let same : nat_lt page (suc n) ≡ nat_lt page n = grind (arith, nat_tests) in
        rw (t, same) (or-false (nat_lt page n && is_some (store page)))
      where
        or-false : (b : Bool) → (b || false) ≡ b
        or-false true = refl
        or-false false = refl
one-more store n page false is rest = rest ∙ by (eqb_tells n page)
  where
    by : ((nat_eq n page ≡ true) × (n ≡ page)) ⊎ ((nat_eq n page ≡ false) × (n ≢ page)) → (nat_lt page n && is_some (store page)) ≡ (nat_lt page (suc n) && is_some (store page))
    by (inl (t, e)) =
        let here : is_some (store page) ≡ false = rw (← e) is in
        rw here (no-more (nat_lt page n) (nat_lt page (suc n)))
      where
        no-more : (a b : Bool) → (a && false) ≡ (b && false)
        no-more true true = refl
        no-more true false = refl
        no-more false true = refl
        no-more false false = refl
    by (inr (t, e)) = ap (λ (b : Bool). b && is_some (store page)) (grind (arith, nat_tests))

below-are : (store : Store) (n page : ℕ) → list_any (λ k. k == page) (pages_below store n) ≡ (nat_lt page n && is_some (store page))
below-are store zero page = none (nat_lt page zero) (grind (arith, nat_tests))
  where
    none : (b : Bool) → b ≡ false → false ≡ (b && is_some (store page))
    none b is = rw is refl
below-are store (suc n) page = one-more store n page (is_some (store n)) refl (below-are store n page)

pub numbers-rise : (store : Store) → AreRising 0 (page_numbers store)
unfolding page_numbers
numbers-rise store = below-rise store REGION_PAGES

pub numbers-are : (store : Store) (page : ℕ) → list_any (λ n. n == page) (page_numbers store) ≡ (nat_lt page REGION_PAGES && is_some (store page))
unfolding page_numbers
numbers-are store page = below-are store REGION_PAGES page
