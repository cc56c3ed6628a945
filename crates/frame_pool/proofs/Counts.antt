-- How many frames are used.
use Rattle.std.proofs.Common.{◌≡◌, ◌≢◌, ◌∙◌, ℕ, zero, suc, ◌<◌, ◌≤◌, Bool, true, false, cond, List, [], ◌∷◌, length, get_or, set, count_by, ap, arith}
use Rattle.std.proofs.lemmas.Bool.{true_from_ne_false, both_ways, true≢false, false≢true}
use Rattle.std.proofs.lemmas.List.{get_or-set_other}
use Rattle.std.proofs.lemmas.List.Sums.{sum_by-set, sum_by-cons}
use Rattle.frame_pool.specs.Pool.{Pool, IsPool, IsLeastFree, is_used, used_count}

-- one counts at most as one
one-most : (used : Bool) → cond used 1 0 ≤ 1
one-most true = omega arith
one-most false = omega arith

-- no more are used than lie below a number from which on none is used
pub count-le : (xs : List Bool) (n : ℕ) → ((k : ℕ) → n ≤ k → get_or xs k false ≡ false) → count_by (λ used. used) xs ≤ n
count-le [] n past = omega arith
count-le (true ∷ xs) zero past = absurd (true≢false (past 0 (omega arith)))
count-le (false ∷ xs) zero past =
    let rest : count_by (λ used. used) xs ≤ 0 = count-le xs 0 (λ k _. past (suc k) (omega arith)) in
    omega (arith, sum_by-cons (λ (used : Bool). cond used 1 0) false xs)
count-le (x ∷ xs) (suc n) past =
    let rest : count_by (λ used. used) xs ≤ n = count-le xs n (λ k h. past (suc k) (omega arith)) in
    omega (arith, sum_by-cons (λ (used : Bool). cond used 1 0) x xs, one-most x)

-- as many are used as lie below that number, where each of these is used
pub count-all : (xs : List Bool) (n : ℕ) → n ≤ length xs → ((k : ℕ) → n ≤ k → get_or xs k false ≡ false) → ((k : ℕ) → k < n → get_or xs k false ≡ true)
    → count_by (λ used. used) xs ≡ n
count-all [] n within past all = omega arith
count-all (true ∷ xs) zero within past all = absurd (true≢false (past 0 (omega arith)))
count-all (false ∷ xs) zero within past all =
    let rest : count_by (λ used. used) xs ≡ 0 = count-all xs 0 (omega arith) (λ k _. past (suc k) (omega arith)) (λ k h. absurd (omega arith)) in
    omega (arith, sum_by-cons (λ (used : Bool). cond used 1 0) false xs)
count-all (true ∷ xs) (suc n) within past all =
    let rest : count_by (λ used. used) xs ≡ n = count-all xs n (omega arith) (λ k h. past (suc k) (omega arith)) (λ k h. all (suc k) (omega arith)) in
    omega (arith, sum_by-cons (λ (used : Bool). cond used 1 0) true xs)
count-all (false ∷ xs) (suc n) within past all = absurd (false≢true (all 0 (omega arith)))

-- where as many are used as lie below that number, each of these is used
pub all-from-count : (xs : List Bool) (n : ℕ) → n ≤ length xs → ((k : ℕ) → n ≤ k → get_or xs k false ≡ false) → count_by (λ used. used) xs ≡ n
    → (k : ℕ) → k < n → get_or xs k false ≡ true
all-from-count xs n within past full k below = true_from_ne_false (get_or xs k false) (λ free.
    let taken : (j : ℕ) → n ≤ j → get_or (set xs k true) j false ≡ false = λ j h. get_or-set_other xs k j true false (omega arith) ∙ past j h in
    let nothing : cond {A = ℕ} (get_or xs k false) 1 0 ≡ 0 = ap (λ (used : Bool). cond {A = ℕ} used 1 0) free in
    omega (arith, count-le (set xs k true) n taken, sum_by-set (λ (used : Bool). cond used 1 0) xs k true false (omega arith)))

-- no more frames of a pool are used than its size
pub used_count-le : (pool : Pool) → IsPool pool → used_count pool ≤ pool.size
used_count-le pool is = count-le pool.used pool.size is.past

-- all of them are, where none below the size is free
pub used_count-all : (pool : Pool) → IsPool pool → ((k : ℕ) → k < pool.size → is_used pool k ≡ true) → used_count pool ≡ pool.size
used_count-all pool is all = count-all pool.used pool.size is.size_is is.past all

-- not all of them are, where one is free
pub not-all : (pool : Pool) (frame : ℕ) → IsPool pool → IsLeastFree pool frame → used_count pool ≢ pool.size
not-all pool frame is least full = both_ways (is_used pool frame) least.free (all-from-count pool.used pool.size is.size_is is.past full frame least.below)
