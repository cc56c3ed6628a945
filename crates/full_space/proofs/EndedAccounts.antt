-- The account of a region whose pages go one after another.
use Rattle.std.proofs.Common.{◌≡◌, ◌∙◌, inl, inr, ℕ, ◌+◌, ◌<◌, ◌==◌, ◌&&◌, nat_lt, not, Bool, true, false, cond, Option, Some, List, [], ◌∷◌, length, map, filter, refl, ap, sym, arith, All}
use Rattle.std.proofs.lemmas.Bool.Decides.{nat_tests}
use Rattle.std.proofs.lemmas.List.Elements.{All-head, All-tail, All-weaker}
use Rattle.cap_format.specs.Numbers.{region_pages}
use Rattle.machine_types.specs.Lists.{IsIn}
use Rattle.machine_types.specs.Accounts.{Member, Class, is_member, has_members, account_at_end}
use Rattle.machine_types.specs.Touches.{without_member}
use Rattle.frame_owners.specs.Homes.{Owner}
use Rattle.stores.specs.Boards.{AreFramesOf}
use Rattle.stores.proofs.SharersCounted.{members-have-frame}
use Rattle.full_space.specs.Steps.{without_below, account_below}

-- One page more.

-- two filters are one
filter-filter : {A : Type 0} (p q both : A → Bool) → ((x : A) → (q x && p x) ≡ both x) → (xs : List A) → filter p (filter q xs) ≡ filter both xs
filter-filter p q both same [] = refl
filter-filter {A} p q both same (x ∷ xs) = by (q x) (p x) refl refl (filter-filter p q both same xs)
  where
    by : (a b : Bool) → q x ≡ a → p x ≡ b → filter p (filter q xs) ≡ filter both xs → filter p (cond a (x ∷ filter q xs) (filter q xs)) ≡ cond (both x) (x ∷ filter both xs) (filter both xs)
    by true true is also rest = let passes : both x ≡ true = sym (same x) ∙ rw (is, also) refl in rw (also, passes) (ap (λ (ys : List A). x ∷ ys) rest)
    by true false is also rest = let fails : both x ≡ false = sym (same x) ∙ rw (is, also) refl in rw (also, fails) rest
    by false b is also rest = let fails : both x ≡ false = sym (same x) ∙ rw is refl in rw fails rest

-- the members of one page more leave
class-more : (region n : ℕ) (class : Class) → without_member region n (without_below region n class) ≡ without_below region (n + 1) class
class-more region n class =
    ap (λ (members : List Member). record class { members = members })
    (filter-filter (λ m. not (is_member region n m)) (λ m. not (m.region == region && nat_lt m.page n)) (λ m. not (m.region == region && nat_lt m.page (n + 1))) (λ m. by m (m.region == region)) class.members)
  where
    by : (m : Member) (b : Bool) → (not (b && nat_lt m.page n) && not (b && m.page == n)) ≡ not (b && nat_lt m.page (n + 1))
    by m true = grind (arith, nat_tests)
    by m false = refl

-- a class without members has none without more
still-empty : (region page : ℕ) (class : Class) → has_members class ≡ false → has_members (without_member region page class) ≡ false
still-empty region page class = by class.members
  where
    by : (members : List Member) → not (length members == 0) ≡ false → not (length (filter (λ m. not (is_member region page m)) members) == 0) ≡ false
    by [] empty = refl
    by (m ∷ members) empty = absurd (grind (arith, nat_tests))

-- a class, if it has members, before others
abbrev with_class : Class → List Class → List Class
with_class class account = cond (has_members class) (class ∷ account) account

-- so the members of that page leave the account
pub account_below-more : (region n : ℕ) (account : List Class) → account_below region (n + 1) account ≡ filter has_members (map (without_member region n) (account_below region n account))
unfolding account_below
account_below-more region n [] = refl
account_below-more region n (class ∷ account) = by (has_members (without_below region n class)) refl (account_below-more region n account)
  where
    by : (b : Bool) → has_members (without_below region n class) ≡ b
        → filter has_members (map (without_below region (n + 1)) account) ≡ filter has_members (map (without_member region n) (filter has_members (map (without_below region n) account)))
        → with_class (without_below region (n + 1) class) (filter has_members (map (without_below region (n + 1)) account))
        ≡ filter has_members (map (without_member region n) (cond b (without_below region n class ∷ filter has_members (map (without_below region n) account)) (filter has_members (map (without_below region n) account))))
    by true is rest =
        ap (λ (left : Class). with_class left (filter has_members (map (without_below region (n + 1)) account))) (sym (class-more region n class))
        ∙ ap (with_class (without_member region n (without_below region n class))) rest
    by false is rest =
        let none : has_members (without_below region (n + 1) class) ≡ false = ap has_members (sym (class-more region n class)) ∙ still-empty region n (without_below region n class) is in
        rw none rest

-- Classes that share frames.

-- two tests that agree on each element keep the same
filter-same : {A : Type 0} (p q : A → Bool) (xs : List A) → All (λ x. p x ≡ q x) xs → filter p xs ≡ filter q xs
filter-same p q [] same = refl
filter-same {A} p q (x ∷ xs) same =
    let first : p x ≡ q x = All-head (λ x. p x ≡ q x) x xs same in
    let rest : filter p xs ≡ filter q xs = filter-same p q xs (All-tail (λ x. p x ≡ q x) x xs same) in
    rw (first, rest) refl

-- a test that always passes keeps all
filter-all : {A : Type 0} (xs : List A) → filter (λ x. true) xs ≡ xs
filter-all [] = refl
filter-all {A} (x ∷ xs) = ap (λ (ys : List A). x ∷ ys) (filter-all xs)

-- only the members that pass
abbrev pub members_that : (Member → Bool) → Class → Class
members_that keeps class = record class { members = filter keeps class.members }

module _ (frame_at : ℕ → ℕ → Option ℕ) (owner_at : ℕ → Owner) (p q : Member → Bool) (same : (m : Member) (f : ℕ) → frame_at m.region m.page ≡ Some f → p m ≡ q m) where
  -- two tests that agree on each page with a frame leave the same classes
  classes-agree : (frames : List ℕ) (account : List Class) → AreFramesOf frame_at owner_at frames account → map (members_that p) account ≡ map (members_that q) account
  classes-agree [] [] are = refl
  classes-agree [] (class ∷ account) are = absurd are
  classes-agree (f ∷ frames) [] are = absurd are
  classes-agree (f ∷ frames) (class ∷ account) are =
      let framed = members-have-frame frame_at f class.members (λ r page. let counted = are.0.members r page in omega arith) in
      let members : filter p class.members ≡ filter q class.members
      = filter-same p q class.members (All-weaker (λ m. frame_at m.region m.page ≡ Some f) (λ m. p m ≡ q m) (λ m at. same m f at) class.members framed) in
      rw (members, classes-agree frames account are.1) refl

-- where all members pass the account stays
pub account-stays : (frame_at : ℕ → ℕ → Option ℕ) (owner_at : ℕ → Owner) (keeps : Member → Bool) (frames : List ℕ) (account : List Class) → AreFramesOf frame_at owner_at frames account
    → ((f : ℕ) → IsIn f frames → 0 < (owner_at f).sharers) → ((m : Member) (f : ℕ) → frame_at m.region m.page ≡ Some f → keeps m ≡ true) → filter has_members (map (members_that keeps) account) ≡ account
account-stays frame_at owner_at keeps frames account are shared all =
    ap (filter has_members) (classes-agree frame_at owner_at keeps (λ m. true) all frames account are) ∙ by frames account are shared
  where
    by : (frames : List ℕ) (account : List Class) → AreFramesOf frame_at owner_at frames account → ((f : ℕ) → IsIn f frames → 0 < (owner_at f).sharers) → filter has_members (map (members_that (λ m. true)) account) ≡ account
    by [] [] are shared = refl
    by [] (class ∷ account) are shared = absurd are
    by (f ∷ frames) [] are shared = absurd are
    by (f ∷ frames) (class ∷ account) are shared =
        let least = shared f (inl refl) in
        let sharers = are.0.sharers in
        let some : has_members class ≡ true = grind (arith, nat_tests) in
        rw (filter-all class.members, some) (ap (λ (rest : List Class). class ∷ rest) (by frames account are.1 (λ g i. shared g (inr i))))

-- so it does where no page is below the first
pub account_below-none : (frame_at : ℕ → ℕ → Option ℕ) (owner_at : ℕ → Owner) (region : ℕ) (frames : List ℕ) (account : List Class) → AreFramesOf frame_at owner_at frames account
    → ((f : ℕ) → IsIn f frames → 0 < (owner_at f).sharers) → account_below region 0 account ≡ account
unfolding account_below
account_below-none frame_at owner_at region frames account are shared =
    account-stays frame_at owner_at (λ m. not (m.region == region && nat_lt m.page 0)) frames account are shared (λ m f at. by m (m.region == region))
  where
    by : (m : Member) (b : Bool) → not (b && nat_lt m.page 0) ≡ true
    by m true = grind (arith, nat_tests)
    by m false = refl

-- where no page lies past the last, the account without those below it is the one at the end
pub account_below-all : (frame_at : ℕ → ℕ → Option ℕ) (owner_at : ℕ → Owner) (region : ℕ) (frames : List ℕ) (account : List Class) → AreFramesOf frame_at owner_at frames account
    → ((r p f : ℕ) → frame_at r p ≡ Some f → p < region_pages) → account_below region region_pages account ≡ account_at_end region account
unfolding account_below account_at_end
account_below-all frame_at owner_at region frames account are within =
    ap (filter has_members) (classes-agree frame_at owner_at (λ m. not (m.region == region && nat_lt m.page region_pages)) (λ m. not (m.region == region)) (λ m f at. by m (within m.region m.page f at) (m.region == region)) frames account are)
  where
    by : (m : Member) → m.page < region_pages → (b : Bool) → not (b && nat_lt m.page region_pages) ≡ not b
    by m below true = let test : nat_lt m.page region_pages ≡ true = grind (arith, nat_tests) in rw test refl
    by m below false = refl
