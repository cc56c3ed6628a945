-- The classes of pages after a touch or beside a new page, and what an access to them would touch.
use Rattle.std.proofs.Common.{◌≡◌, ◌≢◌, ◌≤◌, ◌⊎◌, ℕ, ap, refl, ◌∙◌, arith, true, false, not, Bool, Some, List, [], ◌∷◌, ◌++◌, length, map, cond, nat_eq, get_or, inl, inr}
use Rattle.std.specs.Option.{option_map}
use Rattle.std.proofs.Math.Bool.{and-false}
use Rattle.std.proofs.lemmas.Bool.Decides.{nat_tests, eqb_tells}
use Rattle.std.proofs.lemmas.List.Folds.{find-append}
use Rattle.std.proofs.lemmas.List.Elements.{All-cons, All-nil, All-map}
use Rattle.std.proofs.lemmas.Map.Views.{any-filter_same}
use Rattle.machine_types.specs.declared.config.Rule.{Rule}
use Rattle.machine_types.specs.declared.config.Rule.TheVariants as rule
use Rattle.machine_types.specs.declared.touches.Access.{Access}
use Rattle.machine_types.specs.declared.touches.Access.TheVariants.{Read, Write, Fetch}
use Rattle.machine_types.specs.declared.touches.Touched.{Touched}
use Rattle.machine_types.specs.declared.touches.Touched.TheVariants.{No, Copied, Moved}
use Rattle.machine_types.specs.Accounts.{Member, Class, is_member, has_member, class_of, class_for}
use Rattle.machine_types.specs.Touches.{is_shared, touches, rehomed, without_member, account_after}
use Rattle.contents.proofs.ListSearches.{find-passes, find-map, find-none, find-append_none, filter-all}

-- a page is another one: of another region, or at another number
abbrev pub IsOther : ℕ → ℕ → ℕ → ℕ → Type 0
IsOther region q r p = (r ≢ region) ⊎ (p ≢ q)

-- a member stays where another leaves
pub stays-member : (region q r p : ℕ) → IsOther region q r p → (m : Member) → is_member r p m ≡ true → not (is_member region q m) ≡ true
stays-member region q r p (inl far) m here = grind (arith, nat_tests)
stays-member region q r p (inr other) m here = grind (arith, nat_tests)

-- so a page is in the classes that it was in
pub other-member : (region q r p : ℕ) (class : Class) → IsOther region q r p → has_member r p (without_member region q class) ≡ has_member r p class
other-member region q r p class apart = any-filter_same (is_member r p) (λ m. not (is_member region q m)) true (stays-member region q r p apart) class.members

-- the page that leaves is no member
pub own-member : (region page : ℕ) (class : Class) → has_member region page (without_member region page class) ≡ false
own-member region page class = any-filter_same (is_member region page) (λ m. not (is_member region page m)) false (λ m h. rw h refl) class.members

-- another home leaves the members
pub rehomed-member : (region q r p : ℕ) (class : Class) → has_member r p (rehomed region q class) ≡ has_member r p class
rehomed-member region q r p class = by (has_member region q class)
  where
    by : (b : Bool) → has_member r p (cond b (record class { home = region }) class) ≡ has_member r p class
    by true = refl
    by false = refl

-- a page is no member of the class of another
pub other-new : (region q r p : ℕ) → IsOther region q r p → has_member r p (class_for region q) ≡ false
other-new region q r p (inl far) = let test : nat_eq region r ≡ false = grind (arith, nat_tests) in rw test refl
other-new region q r p (inr other) = let test : nat_eq q p ≡ false = grind (arith, nat_tests) in rw (test, and-false (nat_eq region r)) refl

-- a new class of another page leaves a page its class
pub other-class : (account : List Class) (region q r p : ℕ) → IsOther region q r p → class_of (account ++ (class_for region q ∷ [])) r p ≡ class_of account r p
other-class account region q r p apart =
    find-append_none (has_member r p) account (class_for region q ∷ [])
    (All-cons (λ class. has_member r p class ≡ false) (class_for region q) [] (other-new region q r p apart) (All-nil (λ class. has_member r p class ≡ false)))

-- where a page moves, each has its class still, perhaps with the region as home
pub other-moved : (account : List Class) (region q r p : ℕ) → class_of (account_after Moved region q account) r p ≡ option_map (rehomed region q) (class_of account r p)
other-moved account region q r p = find-map (has_member r p) (has_member r p) (rehomed region q) account (λ k d within. rehomed-member region q r p (get_or account k d))

-- the page that moved has it with its region as home
pub class-moved : (account : List Class) (region page : ℕ) (class : Class) → class_of account region page ≡ Some class
    → class_of (account_after Moved region page account) region page ≡ Some (record class { home = region })
class-moved account region page class h =
    let has = find-passes (has_member region page) account class h in
    other-moved account region page region page ∙ ap (option_map (rehomed region page)) h ∙ rw has refl

-- a page that was copied has a class of its own
pub class-copied : (account : List Class) (region page : ℕ) → class_of (account_after Copied region page account) region page ≡ Some (class_for region page)
class-copied account region page =
    let left : List Class = map (without_member region page) account in
    let none = find-none (has_member region page) left (All-map (λ class. has_member region page class ≡ false) (without_member region page) account (λ k d within. own-member region page (get_or account k d))) in
    find-append (has_member region page) left (class_for region page ∷ []) ∙ rw none (grind (arith, nat_tests))

-- where another page is copied, a page has its class still, without that one as a member
pub other-copied : (account : List Class) (region q r p : ℕ) → IsOther region q r p → class_of (account_after Copied region q account) r p ≡ option_map (without_member region q) (class_of account r p)
other-copied account region q r p apart =
    other-class (map (without_member region q) account) region q r p apart
    ∙ find-map (has_member r p) (has_member r p) (without_member region q) account (λ k d within. other-member region q r p (get_or account k d) apart)

-- a class that lacks the page stays as it is where the page leaves
without-none : (region q : ℕ) (class : Class) → has_member region q class ≡ false → without_member region q class ≡ class
without-none region q class h = ap (λ (members : List Member). record class { members = members }) (filter-all (is_member region q) class.members h)

-- what has a page and what lacks another are not the same page
other-of : (region q r p : ℕ) (class : Class) → has_member r p class ≡ true → has_member region q class ≡ false → IsOther region q r p
other-of region q r p class has lacks = by (eqb_tells r region) (eqb_tells p q)
  where
    by : ((nat_eq r region ≡ true) × (r ≡ region)) ⊎ ((nat_eq r region ≡ false) × (r ≢ region)) → ((nat_eq p q ≡ true) × (p ≡ q)) ⊎ ((nat_eq p q ≡ false) × (p ≢ q)) → IsOther region q r p
    by (inr (_, apart)) _ = inl apart
    by (inl (_, same)) (inr (_, apart)) = inr apart
    by (inl (_, same)) (inl (_, too)) = let has : has_member region q class ≡ true = rw (← same, ← too) has in absurd (cc)

-- a touch leaves the class of a page that doesn't share with the touched one
pub class-apart : (t : Touched) (account : List Class) (region q r p : ℕ) (class : Class) → class_of account r p ≡ Some class → has_member region q class ≡ false
    → class_of (account_after t region q account) r p ≡ Some class
class-apart No account region q r p class e lacks = e
class-apart Moved account region q r p class e lacks = other-moved account region q r p ∙ ap (option_map (rehomed region q)) e ∙ rw lacks refl
class-apart Copied account region q r p class e lacks =
    let apart = other-of region q r p class (find-passes (has_member r p) account class e) lacks in
    other-copied account region q r p apart ∙ ap (option_map (without_member region q)) e ∙ ap (λ (class : Class). Some class) (without-none region q class lacks)

-- A class with no more members, and with the same home or the region's, is touched no more often. Nor is one at fewer tags.
pub touched-less : (r : Rule) (access : Access) (class after : Class) (region : ℕ) (tagged less : Bool) → length after.members ≤ length class.members
    → (after.home ≡ region) ⊎ (after.home ≡ class.home) → (tagged ≡ false → less ≡ false) → touches r access class region tagged ≡ false → touches r access after region less ≡ false
touched-less rule.Full access class after region tagged less members home tag h = refl
touched-less rule.Access Write class after region tagged less members home tag h = grind (arith, nat_tests)
touched-less rule.Access Read class after region tagged less members home tag h = grind (arith, nat_tests)
touched-less rule.Access Fetch class after region tagged less members home tag h = grind (arith, nat_tests)
touched-less rule.Pointer Write class after region tagged less members home tag h = grind (arith, nat_tests)
touched-less rule.Pointer Read class after region tagged less members home tag h = grind (arith, nat_tests)
touched-less rule.Pointer Fetch class after region tagged less members home tag h = grind (arith, nat_tests)

-- a class of the region that isn't shared is never touched
pub own-untouched : (r : Rule) (access : Access) (class : Class) (region : ℕ) (tagged : Bool) → class.home ≡ region → is_shared class ≡ false → touches r access class region tagged ≡ false
own-untouched rule.Full access class region tagged home h = refl
own-untouched rule.Access Write class region tagged home h = grind (arith, nat_tests)
own-untouched rule.Access Read class region tagged home h = grind (arith, nat_tests)
own-untouched rule.Access Fetch class region tagged home h = grind (arith, nat_tests)
own-untouched rule.Pointer Write class region tagged home h = grind (arith, nat_tests)
own-untouched rule.Pointer Read class region tagged home h = grind (arith, nat_tests)
own-untouched rule.Pointer Fetch class region tagged home h = grind (arith, nat_tests)
