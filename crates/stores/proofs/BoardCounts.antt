-- How many frames are taken, over the plain list that says of each whether it is.
use Rattle.std.proofs.Common.{◌≡◌, ◌≢◌, ◌∙◌, ◌⊎◌, inl, inr, ℕ, zero, suc, ◌<◌, nat_eq, Bool, true, false, cond, List, [], ◌∷◌, length, get_or, set, count_by, refl, sym, arith}
use Rattle.std.proofs.lemmas.Bool.{false≢true, false_from_ne_true}
use Rattle.std.proofs.lemmas.Bool.Decides.{eqb_tells}
use Rattle.std.proofs.lemmas.List.{get_or-set_same, get_or-set_other}
use Rattle.std.proofs.lemmas.List.Sums.{sum_by-set, get_or-le-sum_by}
use Rattle.frame_pool.proofs.Counts.{count-le}
use Rattle.machine_types.specs.Lists.{IsIn, AreDistinct}

-- what is taken lies within the list
taken-below : (xs : List Bool) (k : ℕ) → get_or xs k false ≡ true → k < length xs
taken-below [] k taken = absurd (false≢true taken)
taken-below (x ∷ xs) zero taken = omega arith
taken-below (x ∷ xs) (suc k) taken = let rest = taken-below xs k taken in omega arith

-- nothing is counted where nothing is taken
pub count_by-none : (xs : List Bool) → ((k : ℕ) → get_or xs k false ≡ true → ⊥) → count_by (λ used. used) xs ≡ 0
count_by-none xs none = let most = count-le xs 0 (λ k _. false_from_ne_true (get_or xs k false) (none k)) in omega arith

-- nothing is taken where nothing is counted
pub none-from-count_by : (xs : List Bool) → count_by (λ used. used) xs ≡ 0 → (k : ℕ) → get_or xs k false ≡ true → ⊥
none-from-count_by xs nothing k taken =
    let one : cond {A = ℕ} (get_or xs k false) 1 0 ≡ 1 = rw taken refl in
    let most = get_or-le-sum_by (λ (used : Bool). cond {A = ℕ} used 1 0) xs k false (taken-below xs k taken) in
    omega arith

-- as many are taken as a list has that names each of them once
pub count_by-taken : (xs : List Bool) (frames : List ℕ) → AreDistinct frames → ((k : ℕ) → get_or xs k false ≡ true → IsIn k frames) → ((k : ℕ) → IsIn k frames → get_or xs k false ≡ true)
    → count_by (λ used. used) xs ≡ length frames
count_by-taken xs [] are named taken = count_by-none xs named
count_by-taken xs (f ∷ frames) are named taken =
    let one : cond {A = ℕ} (get_or xs f false) 1 0 ≡ 1 = rw (taken f (inl refl)) refl in
    let step = sum_by-set (λ (used : Bool). cond {A = ℕ} used 1 0) xs f false false below in
    let rest = count_by-taken (set xs f false) frames are.1 named' taken' in
    omega arith
  where
    below : f < length xs
    below = taken-below xs f (taken f (inl refl))

    -- the others are taken without this one
    named' : (k : ℕ) → get_or (set xs f false) k false ≡ true → IsIn k frames
    named' k h = by (eqb_tells k f)
      where
        other : (f ≡ k) ⊎ IsIn k frames → k ≢ f → IsIn k frames
        other (inl e) apart = absurd (apart (sym e))
        other (inr i) apart = i

        by : ((nat_eq k f ≡ true) × (k ≡ f)) ⊎ ((nat_eq k f ≡ false) × (k ≢ f)) → IsIn k frames
        by (inl (t, e)) = absurd (false≢true (sym (get_or-set_same xs f false false below) ∙ rw e at h))
        by (inr (t, apart)) = other (named k (sym (get_or-set_other xs f k false false apart) ∙ h)) apart

    taken' : (k : ℕ) → IsIn k frames → get_or (set xs f false) k false ≡ true
    taken' k i = get_or-set_other xs f k false false (λ e. are.0 (rw e at i)) ∙ taken k (inr i)
