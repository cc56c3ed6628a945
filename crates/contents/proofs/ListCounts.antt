-- How many elements of a list pass a test, after changes of the list.
use Rattle.std.proofs.Common.{◌≡◌, refl, ap, ℕ, zero, suc, ◌+◌, ◌≤◌, ◌<◌, ◌||◌, not, Some, List, [], ◌∷◌, ◌++◌, map, filter, length, get_or, cond, true, false, Bool, All, arith}
use Rattle.std.specs.List.{list_any, find}
use Rattle.std.proofs.Math.Bool.{or-true}
use Rattle.std.proofs.lemmas.List.Elements.{All-head, All-tail, All-cons, All-nil}
use Rattle.machine_types.specs.Lists.{count_of}

-- None, one, or one at the most.

-- where none is counted each element fails
pub none-counted : {A : Type 0} (passes : A → Bool) (xs : List A) → count_of passes xs ≡ 0 → All (λ x. passes x ≡ false) xs
none-counted passes [] h = All-nil (λ x. passes x ≡ false)
none-counted {A} passes (x ∷ xs) h = by (passes x) refl h (none-counted passes xs)
  where
    by : (b : Bool) → passes x ≡ b → cond b (1 + count_of passes xs) (count_of passes xs) ≡ 0 → (count_of passes xs ≡ 0 → All (λ x. passes x ≡ false) xs) → All (λ x. passes x ≡ false) (x ∷ xs)
    by true e h rest = absurd (omega arith)
    by false e h rest = All-cons (λ x. passes x ≡ false) x xs e (rest h)

-- none is counted where none passes
pub count-none : {A : Type 0} (passes : A → Bool) (xs : List A) → list_any passes xs ≡ false → count_of passes xs ≡ 0
count-none passes [] h = refl
count-none {A} passes (x ∷ xs) h = by (passes x) h (count-none passes xs)
  where
    by : (b : Bool) → (b || list_any passes xs) ≡ false → (list_any passes xs ≡ false → count_of passes xs ≡ 0) → cond b (1 + count_of passes xs) (count_of passes xs) ≡ 0
    by true h rest = absurd (cc)
    by false h rest = rest h

-- one at least where one passes
count-some : {A : Type 0} (passes : A → Bool) (xs : List A) → list_any passes xs ≡ true → 1 ≤ count_of passes xs
count-some passes [] h = absurd (cc)
count-some {A} passes (x ∷ xs) h = by (passes x) h (count-some passes xs)
  where
    by : (b : Bool) → (b || list_any passes xs) ≡ true → (list_any passes xs ≡ true → 1 ≤ count_of passes xs) → 1 ≤ cond b (1 + count_of passes xs) (count_of passes xs)
    by true h rest = omega arith
    by false h rest = rest h

-- where one is counted, one passes what it does
pub any-counted : {A : Type 0} (passes also : A → Bool) (xs : List A) → ((x : A) → passes x ≡ true → also x ≡ true) → count_of passes xs ≡ 1 → list_any also xs ≡ true
any-counted passes also [] implies h = absurd (omega arith)
any-counted {A} passes also (x ∷ xs) implies h = by (passes x) refl h (any-counted passes also xs implies)
  where
    by : (b : Bool) → passes x ≡ b → cond b (1 + count_of passes xs) (count_of passes xs) ≡ 1 → (count_of passes xs ≡ 1 → list_any also xs ≡ true) → (also x || list_any also xs) ≡ true
    by true e h rest = rw (implies x e) refl
    by false e h rest = rw (rest h) (or-true (also x))

-- what a test counts is one at the most
pub count-most : (b : Bool) (n : ℕ) → n ≡ cond b 1 0 → n ≤ 1
count-most true n e = omega arith
count-most false n e = omega arith

-- and where one at the most is counted, it is one where one passes and else none
pub count-once : {A : Type 0} (passes : A → Bool) (xs : List A) → count_of passes xs ≤ 1 → count_of passes xs ≡ cond (list_any passes xs) 1 0
count-once passes xs most = by (list_any passes xs) refl
  where
    by : (b : Bool) → list_any passes xs ≡ b → count_of passes xs ≡ cond b 1 0
    by true e = let one = count-some passes xs e in omega arith
    by false e = count-none passes xs e

-- one that is found is counted
pub count-found : {A : Type 0} (passes : A → Bool) (xs : List A) (x : A) → find passes xs ≡ Some x → 1 ≤ count_of passes xs
count-found passes [] x e = absurd (cc)
count-found {A} passes (y ∷ xs) x e = by (passes y) e (count-found passes xs x)
  where
    by : (b : Bool) → cond b (Some y) (find passes xs) ≡ Some x → (find passes xs ≡ Some x → 1 ≤ count_of passes xs) → 1 ≤ cond b (1 + count_of passes xs) (count_of passes xs)
    by true e rest = omega arith
    by false e rest = rest e

-- and is the only one that passes, where one at most does
pub found-only : {A : Type 0} (passes : A → Bool) (xs : List A) (x : A) → count_of passes xs ≤ 1 → find passes xs ≡ Some x → All (λ y. passes y ≡ true → y ≡ x) xs
found-only passes [] x one e k d w h = absurd (omega arith)
found-only {A} passes (y ∷ xs) x one e k d w h = by (passes y) refl one e k w h (found-only passes xs x)
  where
    by : (b : Bool) → passes y ≡ b → cond b (1 + count_of passes xs) (count_of passes xs) ≤ 1 → cond b (Some y) (find passes xs) ≡ Some x → (k : ℕ) → k < suc (length xs) → passes (get_or (y ∷ xs) k d) ≡ true
        → (count_of passes xs ≤ 1 → find passes xs ≡ Some x → (k : ℕ) (d : A) → k < length xs → passes (get_or xs k d) ≡ true → get_or xs k d ≡ x) → get_or (y ∷ xs) k d ≡ x
    by true f one e zero w h rest = cc
    by true f one e (suc k) w h rest = let no : passes (get_or xs k d) ≡ false = none-counted passes xs (omega arith) k d (omega arith) in absurd (cc)
    by false f one e zero w h rest = absurd (cc)
    by false f one e (suc k) w h rest = rest one e k d (omega arith) h

-- Changes of the list.

-- a change of the elements
pub count-map : {A B : Type 0} (passes : B → Bool) (before : A → Bool) (f : A → B) (xs : List A) → All (λ x. passes (f x) ≡ before x) xs → count_of passes (map f xs) ≡ count_of before xs
count-map passes before f [] h = refl
count-map passes before f (x ∷ xs) h =
    rw (All-head (λ x. passes (f x) ≡ before x) x xs h, count-map passes before f xs (All-tail (λ x. passes (f x) ≡ before x) x xs h)) refl

-- joined lists
pub count-append : {A : Type 0} (passes : A → Bool) (xs ys : List A) → count_of passes (xs ++ ys) ≡ count_of passes xs + count_of passes ys
count-append passes [] ys = omega arith
count-append {A} passes (x ∷ xs) ys = by (passes x) (count-append passes xs ys)
  where
    by : (b : Bool) → count_of passes (xs ++ ys) ≡ count_of passes xs + count_of passes ys
        → cond b (1 + count_of passes (xs ++ ys)) (count_of passes (xs ++ ys)) ≡ cond b (1 + count_of passes xs) (count_of passes xs) + count_of passes ys
    by true h = omega arith
    by false h = h

-- a filter leaves no more
pub count-filter : {A : Type 0} (passes keeps : A → Bool) (xs : List A) → count_of passes (filter keeps xs) ≤ count_of passes xs
count-filter passes keeps [] = omega arith
count-filter {A} passes keeps (x ∷ xs) = by (keeps x) (passes x) refl (count-filter passes keeps xs)
  where
    by : (k b : Bool) → passes x ≡ b → count_of passes (filter keeps xs) ≤ count_of passes xs → count_of passes (cond k (x ∷ filter keeps xs) (filter keeps xs)) ≤ cond b (1 + count_of passes xs) (count_of passes xs)
    by true true e h = rw e (omega arith)
    by true false e h = rw e h
    by false true e h = omega arith
    by false false e h = h

-- and as many, where it keeps what passes
pub count-filter_kept : {A : Type 0} (passes keeps : A → Bool) → ((x : A) → passes x ≡ true → keeps x ≡ true) → (xs : List A) → count_of passes (filter keeps xs) ≡ count_of passes xs
count-filter_kept passes keeps kept [] = refl
count-filter_kept {A} passes keeps kept (x ∷ xs) = by (count-filter_kept passes keeps kept xs) (passes x) refl (keeps x) refl
  where
    by : count_of passes (filter keeps xs) ≡ count_of passes xs → (p : Bool) → passes x ≡ p → (k : Bool) → keeps x ≡ k
        → count_of passes (cond k (x ∷ filter keeps xs) (filter keeps xs)) ≡ cond p (1 + count_of passes xs) (count_of passes xs)
    by ih true e true f = rw e (ap (λ n. 1 + n) ih)
    by ih true e false f = let g = kept x e in cc
    by ih false e true f = rw e ih
    by ih false e false f = ih

-- those that pass, and those that fail, are all
pub count-not : {A : Type 0} (passes : A → Bool) (xs : List A) → count_of passes xs + count_of (λ x. not (passes x)) xs ≡ length xs
count-not passes [] = refl
count-not {A} passes (x ∷ xs) = by (passes x) (count-not passes xs)
  where
    fails : ℕ
    fails = count_of (λ x. not (passes x)) xs

    by : (b : Bool) → count_of passes xs + fails ≡ length xs → cond b (1 + count_of passes xs) (count_of passes xs) + cond (not b) (1 + fails) fails ≡ suc (length xs)
    by true h = omega arith
    by false h = omega arith

-- a filter keeps those that pass
pub length-filter : {A : Type 0} (passes : A → Bool) (xs : List A) → length (filter passes xs) ≡ count_of passes xs
length-filter passes [] = refl
length-filter {A} passes (x ∷ xs) = by (passes x) (length-filter passes xs)
  where
    by : (b : Bool) → length (filter passes xs) ≡ count_of passes xs → length (cond b (x ∷ filter passes xs) (filter passes xs)) ≡ cond b (1 + count_of passes xs) (count_of passes xs)
    by true h = omega arith
    by false h = h
