-- Counts of the elements of lists, and of the members of classes.
use Rattle.std.proofs.Common.{◌≡◌, sym, refl, ℕ, zero, suc, ◌+◌, ◌≤◌, ◌<◌, ◌==◌, ◌&&◌, ◌||◌, nat_eq, get_or, Some, None, List, [], ◌∷◌, filter, length, cond, true, false, Bool, All, arith}
use Rattle.std.specs.List.{list_any, find}
use Rattle.std.proofs.Math.Bool.{or_assoc}
use Rattle.std.proofs.lemmas.Bool.Decides.{nat_tests}
use Rattle.std.proofs.lemmas.List.Elements.{All-head, All-tail, All-cons, All-nil}
use Rattle.machine_types.specs.Lists.{count_of}
use Rattle.machine_types.specs.Accounts.{Member, is_member, with_companions}

-- Counts.

-- where none is counted, each element fails
pub none-counted : {A : Type 0} (passes : A → Bool) (xs : List A) → count_of passes xs ≡ 0 → All (λ x. passes x ≡ false) xs
none-counted passes [] h = All-nil (λ x. passes x ≡ false)
none-counted {A} passes (x ∷ xs) h = by (passes x) refl h (none-counted passes xs)
  where
    by : (b : Bool) → passes x ≡ b → cond b (1 + count_of passes xs) (count_of passes xs) ≡ 0 → (count_of passes xs ≡ 0 → All (λ x. passes x ≡ false) xs) → All (λ x. passes x ≡ false) (x ∷ xs)
    by true e h rest = absurd (omega arith)
    by false e h rest = All-cons (λ x. passes x ≡ false) x xs e (rest h)

-- what a test counts is one at the most
pub count-most : (b : Bool) (n : ℕ) → n ≡ cond b 1 0 → n ≤ 1
count-most true n e = omega arith
count-most false n e = omega arith

-- a filter leaves no more
pub count-filter : {A : Type 0} (passes keeps : A → Bool) (xs : List A) → count_of passes (filter keeps xs) ≤ count_of passes xs
count-filter passes keeps [] = omega arith
count-filter {A} passes keeps (x ∷ xs) = by (keeps x) (passes x) refl (count-filter passes keeps xs)
  where
    by : (k b : Bool) → passes x ≡ b → count_of passes (filter keeps xs) ≤ count_of passes xs → count_of passes (cond k (x ∷ filter keeps xs) (filter keeps xs)) ≤ cond b (1 + count_of passes xs) (count_of passes xs)
    by true true e h = rw e (omega arith)
    by true false e h = rw e h
    by false true e h = omega arith
    by false false e h = h

-- Elements that are found.

-- one that is found passes, and what holds of all holds of it
pub found-has : {A : Type 0} (P : A → Type 0) (passes : A → Bool) (xs : List A) (x : A) → All P xs → find passes xs ≡ Some x → (passes x ≡ true) × P x
found-has P passes [] x all e = absurd (cc)
found-has {A} P passes (y ∷ xs) x all e = by (passes y) refl e (found-has P passes xs x (All-tail P y xs all))
  where
    by : (b : Bool) → passes y ≡ b → cond b (Some y) (find passes xs) ≡ Some x → (find passes xs ≡ Some x → (passes x ≡ true) × P x) → (passes x ≡ true) × P x
    by true f e rest = let is : y ≡ x = cc in rw (← is) (f, All-head P y xs all)
    by false f e rest = rest e

-- it is the only one that passes, where one at the most does
pub found-only : {A : Type 0} (passes : A → Bool) (xs : List A) (x : A) → count_of passes xs ≤ 1 → find passes xs ≡ Some x → All (λ y. passes y ≡ true → y ≡ x) xs
found-only passes [] x one e k d w h = absurd (omega arith)
found-only {A} passes (y ∷ xs) x one e k d w h = by (passes y) refl one e k w h (found-only passes xs x)
  where
    by : (b : Bool) → passes y ≡ b → cond b (1 + count_of passes xs) (count_of passes xs) ≤ 1 → cond b (Some y) (find passes xs) ≡ Some x → (k : ℕ) → k < suc (length xs) → passes (get_or (y ∷ xs) k d) ≡ true
        → (count_of passes xs ≤ 1 → find passes xs ≡ Some x → (k : ℕ) (d : A) → k < length xs → passes (get_or xs k d) ≡ true → get_or xs k d ≡ x) → get_or (y ∷ xs) k d ≡ x
    by true f one e zero w h rest = cc
    by true f one e (suc k) w h rest = let no : passes (get_or xs k d) ≡ false = none-counted passes xs (omega arith) k d (omega arith) in absurd (cc)
    by false f one e zero w h rest = absurd (cc)
    by false f one e (suc k) w h rest = rest one e k d (omega arith) h

-- where none is found, each fails
pub found-none : {A : Type 0} (passes : A → Bool) (xs : List A) → find passes xs ≡ None → All (λ x. passes x ≡ false) xs
found-none passes [] e = All-nil (λ x. passes x ≡ false)
found-none {A} passes (x ∷ xs) e = by (passes x) refl e (found-none passes xs)
  where
    by : (b : Bool) → passes x ≡ b → cond b (Some x) (find passes xs) ≡ None → (find passes xs ≡ None → All (λ x. passes x ≡ false) xs) → All (λ x. passes x ≡ false) (x ∷ xs)
    by true f e rest = absurd (cc)
    by false f e rest = All-cons (λ x. passes x ≡ false) x xs f (rest e)

-- Companions.

-- the parts of a test of a member with a companion
with-companion : (x a t q b : Bool) → (x || ((t && q) || (a || (t && b)))) ≡ ((x || a) || (t && (q || b)))
with-companion true a t q b = refl
with-companion false a false q b = refl
with-companion false true true true b = refl
with-companion false false true true b = refl
with-companion false a true false b = refl

-- which pages are members with the companions
pub any-companions : (from to r p : ℕ) (members : List Member)
    → list_any (is_member r p) (with_companions from to members) ≡ (list_any (is_member r p) members || (nat_eq to r && list_any (is_member from p) members))
any-companions from to r p [] = grind arith
any-companions from to r p (m ∷ members) = by (nat_eq m.region from) (any-companions from to r p members)
  where
    rest : List Member
    rest = with_companions from to members

    by : (b : Bool) → list_any (is_member r p) rest ≡ (list_any (is_member r p) members || (nat_eq to r && list_any (is_member from p) members))
        → list_any (is_member r p) (cond b (m ∷ record { region = to; page = m.page } ∷ rest) (m ∷ rest))
        ≡ ((is_member r p m || list_any (is_member r p) members) || (nat_eq to r && ((b && nat_eq m.page p) || list_any (is_member from p) members)))
    by true h = rw h (with-companion (is_member r p m) (list_any (is_member r p) members) (nat_eq to r) (nat_eq m.page p) (list_any (is_member from p) members))
    by false h = rw h (sym (or_assoc (is_member r p m) (list_any (is_member r p) members) (nat_eq to r && list_any (is_member from p) members)))

-- and how many lie in a region
pub count-companions : (from to r : ℕ) (members : List Member)
    → count_of (λ m. m.region == r) (with_companions from to members) ≡ count_of (λ m. m.region == r) members + cond (nat_eq to r) (count_of (λ m. m.region == from) members) 0
count-companions from to r [] = grind arith
count-companions from to r (m ∷ members) = by (nat_eq m.region from) (nat_eq m.region r) refl (nat_eq to r) refl (count-companions from to r members)
  where
    rest : List Member
    rest = with_companions from to members

    by : (b x : Bool) → nat_eq m.region r ≡ x → (t : Bool) → nat_eq to r ≡ t
        → count_of (λ m. m.region == r) rest ≡ count_of (λ m. m.region == r) members + cond t (count_of (λ m. m.region == from) members) 0
        → count_of (λ m. m.region == r) (cond b (m ∷ record { region = to; page = m.page } ∷ rest) (m ∷ rest))
        ≡ cond x (1 + count_of (λ m. m.region == r) members) (count_of (λ m. m.region == r) members) + cond t (cond b (1 + count_of (λ m. m.region == from) members) (count_of (λ m. m.region == from) members)) 0
    by true true e true f h = rw (e, f) (omega arith)
    by true true e false f h = rw (e, f) (omega arith)
    by true false e true f h = rw (e, f) (omega arith)
    by true false e false f h = rw (e, f) (omega arith)
    by false true e true f h = rw e (omega arith)
    by false true e false f h = rw e (omega arith)
    by false false e true f h = rw e (omega arith)
    by false false e false f h = rw e (omega arith)

-- where no page of a region is a member, no member lies in it
pub none-in-region : (r : ℕ) (members : List Member) → ((p : ℕ) → list_any (is_member r p) members ≡ false) → count_of (λ m. m.region == r) members ≡ 0
none-in-region r [] h = refl
none-in-region r (m ∷ members) h = by (nat_eq m.region r) refl (none-in-region r members)
  where
    rest : (p : ℕ) → list_any (is_member r p) members ≡ false
    rest p = let k = h p in grind arith

    by : (b : Bool) → nat_eq m.region r ≡ b → (((p : ℕ) → list_any (is_member r p) members ≡ false) → count_of (λ m. m.region == r) members ≡ 0) → cond b (1 + count_of (λ m. m.region == r) members) (count_of (λ m. m.region == r) members) ≡ 0
    by true e none = let k = h m.page in grind (arith, nat_tests)
    by false e none = none rest
