-- What a scan finds: a number of a range, and an element of a list.
use Rattle.std.proofs.Common.{◌≡◌, refl, ℕ, zero, suc, ◌+◌, ◌≤◌, ◌<◌, ◌⊎◌, inl, inr, ◌||◌, Option, Some, None, List, [], ◌∷◌, cond, true, false, Bool, arith}
use Rattle.std.specs.Prelude.{slice_index_or}
use Rattle.std.specs.List.{list_any, find, range_with_len}
use Rattle.std.proofs.lemmas.Bool.{cases_lt}

-- Numbers of a range.

-- so many numbers from one on don't pass
abbrev pub NonePass : (ℕ → Bool) → ℕ → ℕ → Type 0
NonePass passes from to = (j : ℕ) → from ≤ j → j < to → passes j ≡ false

-- a number that doesn't pass, and those after it
none-more : (passes : ℕ → Bool) (a to : ℕ) → passes a ≡ false → NonePass passes (a + 1) to → NonePass passes a to
none-more passes a to here later j from below = by (cases_lt a j)
  where
    by : (a < j) ⊎ (j ≤ a) → passes j ≡ false
    by (inl less) = later j (omega arith) below
    by (inr same) = let is : a ≡ j = omega arith in rw (← is) here

-- The number that is found passes, and is the lowest of the range that does.
pub record IsLowest (passes : ℕ → Bool) (from to k : ℕ) : Type 0 where
  pub passes_it : passes k ≡ true
  pub from_is : from ≤ k
  pub below : k < to
  pub lower : NonePass passes from k

-- a scan that finds a number
pub range-found : (passes : ℕ → Bool) (n a k : ℕ) → find passes (range_with_len a n) ≡ Some k → IsLowest passes a (a + n) k
range-found passes zero a k e = absurd (cc)
range-found passes (suc n) a k e = by (passes a) refl e (range-found passes n (a + 1) k)
  where
    by : (b : Bool) → passes a ≡ b → cond b (Some a) (find passes (range_with_len (a + 1) n)) ≡ Some k → (find passes (range_with_len (a + 1) n) ≡ Some k → IsLowest passes (a + 1) (a + 1 + n) k) → IsLowest passes a (a + suc n) k
    by true f e rest =
        let is : a ≡ k = cc in
        record { passes_it = rw (← is) f; from_is = omega arith; below = omega arith; lower = λ j from below. absurd (omega arith) }
    by false f e rest =
        let r = rest e in
        let low = r.from_is in
        let high = r.below in
        record { passes_it = r.passes_it; from_is = omega arith; below = omega arith; lower = none-more passes a k f r.lower }

-- A scan that finds none has passed none.
pub range-none : (passes : ℕ → Bool) (n a : ℕ) → find passes (range_with_len a n) ≡ None → NonePass passes a (a + n)
range-none passes zero a e = λ j from below. absurd (omega arith)
range-none passes (suc n) a e = by (passes a) refl e (range-none passes n (a + 1))
  where
    by : (b : Bool) → passes a ≡ b → cond b (Some a) (find passes (range_with_len (a + 1) n)) ≡ None → (find passes (range_with_len (a + 1) n) ≡ None → NonePass passes (a + 1) (a + 1 + n)) → NonePass passes a (a + suc n)
    by true f e rest = absurd (cc)
    by false f e rest = none-more passes a (a + suc n) f (λ j from below. rest e j from (omega arith))

-- Elements of a list of options, of which None doesn't pass.

-- a place that passes
pub record PassesAt {A : Type 0} (passes : Option A → Bool) (xs : List (Option A)) : Type 0 where
  pub place : ℕ
  pub passes_there : passes (slice_index_or xs place None) ≡ true

-- Where one passes, it passes at a place,
pub any-place : {A : Type 0} (passes : Option A → Bool) (xs : List (Option A)) → list_any passes xs ≡ true → PassesAt passes xs
any-place passes [] e = absurd (cc)
any-place {A} passes (x ∷ xs) e = by (passes x) refl e (any-place passes xs)
  where
    by : (b : Bool) → passes x ≡ b → (b || list_any passes xs) ≡ true → (list_any passes xs ≡ true → PassesAt passes xs) → PassesAt passes (x ∷ xs)
    by true f e rest = record { place = zero; passes_there = f }
    by false f e rest = let r = rest e in record { place = suc r.place; passes_there = r.passes_there }

-- and where a place passes, one does.
pub any-from-place : {A : Type 0} (passes : Option A → Bool) (xs : List (Option A)) (k : ℕ) → passes None ≡ false → passes (slice_index_or xs k None) ≡ true → list_any passes xs ≡ true
any-from-place passes [] k none e = absurd (cc)
any-from-place passes (x ∷ xs) zero none e = rw e refl
any-from-place {A} passes (x ∷ xs) (suc k) none e = by (passes x) (any-from-place passes xs k none e)
  where
    by : (b : Bool) → list_any passes xs ≡ true → (b || list_any passes xs) ≡ true
    by true rest = refl
    by false rest = rest
