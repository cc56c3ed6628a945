-- What searches through a list find, after changes of the list.
use Rattle.std.proofs.Common.{◌≡◌, ◌∙◌, ◌||◌, refl, ap, true, false, not, Bool, Option, Some, None, List, [], ◌∷◌, ◌++◌, map, filter, find, cond, All, subst}
use Rattle.std.specs.Option.{option_map, option_or}
use Rattle.std.specs.List.{list_any}
use Rattle.std.proofs.lemmas.List.Folds.{find-append}
use Rattle.std.proofs.lemmas.List.Elements.{All-head, All-tail}

-- Some element passes.

-- an element of a changed list passes where one of the list did
pub any-map : {A B : Type 0} (passes : B → Bool) (before : A → Bool) (f : A → B) (xs : List A) → All (λ x. passes (f x) ≡ before x) xs → list_any passes (map f xs) ≡ list_any before xs
any-map passes before f [] same = refl
any-map passes before f (x ∷ xs) same =
    rw (All-head (λ x. passes (f x) ≡ before x) x xs same, any-map passes before f xs (All-tail (λ x. passes (f x) ≡ before x) x xs same)) refl

-- The first that passes.

-- what is found passes
pub find-passes : {A : Type 0} (passes : A → Bool) (xs : List A) (x : A) → find passes xs ≡ Some x → passes x ≡ true
find-passes passes [] x h = absurd (cc)
find-passes {A} passes (y ∷ ys) x h = by (find-passes passes ys x) (passes y) refl h
  where
    by : (find passes ys ≡ Some x → passes x ≡ true) → (b : Bool) → passes y ≡ b → cond b (Some y) (find passes ys) ≡ Some x → passes x ≡ true
    by rest true e h = let same : y ≡ x = cc in cc
    by rest false e h = rest h

-- what holds of each element holds of what is found
pub find-all : {A : Type 0} (P : A → Type 0) (passes : A → Bool) (xs : List A) (x : A) → All P xs → find passes xs ≡ Some x → P x
find-all P passes [] x all h = absurd (cc)
find-all {A} P passes (y ∷ ys) x all h = by (passes y) h (find-all P passes ys x (All-tail P y ys all))
  where
    by : (b : Bool) → cond b (Some y) (find passes ys) ≡ Some x → (find passes ys ≡ Some x → P x) → P x
    by true h rest = let same : y ≡ x = cc in subst P same (All-head P y ys all)
    by false h rest = rest h

-- the first of a changed list
pub find-map : {A B : Type 0} (passes : B → Bool) (before : A → Bool) (f : A → B) (xs : List A) → All (λ x. passes (f x) ≡ before x) xs → find passes (map f xs) ≡ option_map f (find before xs)
find-map passes before f [] same = refl
find-map {A} passes before f (x ∷ xs) same =
    rw (All-head (λ x. passes (f x) ≡ before x) x xs same) (by (find-map passes before f xs (All-tail (λ x. passes (f x) ≡ before x) x xs same)) (before x))
  where
    by : find passes (map f xs) ≡ option_map f (find before xs) → (b : Bool) → cond b (Some (f x)) (find passes (map f xs)) ≡ option_map f (cond b (Some x) (find before xs))
    by rest true = refl
    by rest false = rest

-- none is found where none passes
pub find-none : {A : Type 0} (passes : A → Bool) (xs : List A) → All (λ x. passes x ≡ false) xs → find passes xs ≡ None
find-none passes [] none = refl
find-none passes (x ∷ xs) none = rw (All-head (λ x. passes x ≡ false) x xs none) (find-none passes xs (All-tail (λ x. passes x ≡ false) x xs none))

-- elements at the end that don't pass change nothing
pub find-append_none : {A : Type 0} (passes : A → Bool) (xs ys : List A) → All (λ x. passes x ≡ false) ys → find passes (xs ++ ys) ≡ find passes xs
find-append_none {A} passes xs ys none = find-append passes xs ys ∙ rw (find-none passes ys none) (by (find passes xs))
  where
    by : (o : Option A) → option_or o None ≡ o
    by None = refl
    by (Some x) = refl

-- a filter that keeps what passes keeps the first
pub find-filter : {A : Type 0} (passes keeps : A → Bool) → ((x : A) → passes x ≡ true → keeps x ≡ true) → (xs : List A) → find passes (filter keeps xs) ≡ find passes xs
find-filter passes keeps kept [] = refl
find-filter {A} passes keeps kept (x ∷ xs) = by (find-filter passes keeps kept xs) (passes x) refl (keeps x) refl
  where
    by : find passes (filter keeps xs) ≡ find passes xs → (p : Bool) → passes x ≡ p → (k : Bool) → keeps x ≡ k
        → find passes (cond k (x ∷ filter keeps xs) (filter keeps xs)) ≡ cond p (Some x) (find passes xs)
    by rest true e true f = rw e refl
    by rest true e false f = let kept = kept x e in cc
    by rest false e true f = rw e rest
    by rest false e false f = rest

-- What a filter keeps.

-- where none passes, all that fails is all
pub filter-all : {A : Type 0} (passes : A → Bool) (xs : List A) → list_any passes xs ≡ false → filter (λ x. not (passes x)) xs ≡ xs
filter-all passes [] h = refl
filter-all {A} passes (x ∷ xs) h = by (passes x) h (filter-all passes xs)
  where
    by : (b : Bool) → (b || list_any passes xs) ≡ false → (list_any passes xs ≡ false → filter (λ x. not (passes x)) xs ≡ xs)
        → cond (not b) (x ∷ filter (λ x. not (passes x)) xs) (filter (λ x. not (passes x)) xs) ≡ x ∷ xs
    by true h rest = cc
    by false h rest = ap (λ ys. x ∷ ys) (rest h)
