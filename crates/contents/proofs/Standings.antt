-- When a page stands still from one content to another.
use Rattle.std.proofs.Common.{◌≡◌, ◌≢◌, ◌≤◌, ◌∙◌, ℕ, refl, ap, arith, true, false, not, Bool, Option, Some, None, List, [], ◌∷◌, length, filter, ◌==◌, nat_eq}
use Rattle.std.specs.List.{list_any}
use Rattle.std.specs.Option.{option_map}
use Rattle.std.proofs.lemmas.Bool.Decides.{nat_tests}
use Rattle.machine_types.specs.Stores.{Page}
use Rattle.machine_types.specs.Accounts.{Member, Class, is_member, with_companions}
use Rattle.contents.specs.Content.{Content, page_at, class_at}
use Rattle.contents.specs.Looks.{Standing, standing_of, rights_of, is_home, is_alone}
use Rattle.contents.specs.Standing.{StandsStill, StandsWithOthers, IsStill}

-- The class of a page of the region has its home as before, and is of one page if it was.
pub record IsStillIn (region : ℕ) (before after : Option Class) : Type 0 where
  pub home : is_home region after ≡ is_home region before
  pub alone : is_alone before ≡ true → is_alone after ≡ true

-- the page has its rights and stands in its class as before
pub record IsKept (r p : ℕ) (before after : Content) : Type 0 where
  pub rights : rights_of after r p ≡ rights_of before r p
  pub class : IsStillIn r (class_at before r p) (class_at after r p)

-- What holds of no page, and of two pages of the same rights in the classes before and after, holds of how a page with the
-- same rights stands.
by-standings : (P : Option Standing → Option Standing → Type 0) (r p : ℕ) (before after : Content) → P None None
    → ((rights : ℕ) → P (Some (record { rights = rights; home = is_home r (class_at before r p); alone = is_alone (class_at before r p) })) (Some (record { rights = rights; home = is_home r (class_at after r p); alone = is_alone (class_at after r p) })))
    → rights_of after r p ≡ rights_of before r p → P (standing_of before r p) (standing_of after r p)
unfolding standing_of rights_of
by-standings P r p before after none there = by (page_at before r p) (page_at after r p)
  where
    standing : Content → Page → Standing
    standing c q = record { rights = q.rights; home = is_home r (class_at c r p); alone = is_alone (class_at c r p) }

    by : (o n : Option Page) → option_map (λ q. q.rights) n ≡ option_map (λ q. q.rights) o → P (option_map (standing before) o) (option_map (standing after) n)
    by None None e = none
    by None (Some q) e = absurd (cc)
    by (Some q) None e = absurd (cc)
    by (Some q) (Some m) e = let same : m.rights ≡ q.rights = cc in rw same (there q.rights)

-- so it stands still
pub still-from_kept : (r p : ℕ) (before after : Content) → IsKept r p before after → IsStill before after r p
still-from_kept r p before after kept = by-standings StandsStill r p before after tt (λ rights. (refl, kept.class.home, kept.class.alone)) kept.rights

-- a page with the same rights in a class with the same home keeps both
pub with_others-from_home : (r p : ℕ) (before after : Content) → rights_of after r p ≡ rights_of before r p → is_home r (class_at after r p) ≡ is_home r (class_at before r p)
    → StandsWithOthers (standing_of before r p) (standing_of after r p)
with_others-from_home r p before after rights home = by-standings StandsWithOthers r p before after tt (λ rights. (refl, home)) rights

-- no change of the class
pub class-same : (region : ℕ) (before after : Option Class) → after ≡ before → IsStillIn region before after
class-same region before after same = record { home = ap (is_home region) same; alone = λ h. ap is_alone same ∙ h }

-- no change
pub kept-same : (r p : ℕ) (c : Content) → IsKept r p c c
kept-same r p c = record { rights = refl; class = class-same r (class_at c r p) (class_at c r p) refl }

-- one change after another
pub kept-joined : (r p : ℕ) (a b c : Content) → IsKept r p a b → IsKept r p b c → IsKept r p a c
kept-joined r p a b c first second = record {
  rights = second.rights ∙ first.rights;
  class = record { home = second.class.home ∙ first.class.home; alone = λ h. second.class.alone (first.class.alone h) };
}

-- a change of the class that keeps its home, and keeps it of one page
pub class-mapped : (region : ℕ) (f : Class → Class) (o : Option Class) → ((class : Class) → (f class).home ≡ class.home)
    → ((class : Class) → o ≡ Some class → length class.members ≡ 1 → length (f class).members ≡ 1) → IsStillIn region o (option_map f o)
class-mapped region f None home one = class-same region None None refl
class-mapped region f (Some class) home one = record {
  home = ap (λ (n : ℕ). not (not (n == region))) (home class);
  alone = λ h. let same : length class.members ≡ 1 = grind (arith, nat_tests) in let alone = one class refl same in grind (arith, nat_tests);
}

-- the same home of the class
pub home-same : (region : ℕ) (before after : Option Class) → option_map (λ class. class.home) after ≡ option_map (λ class. class.home) before → is_home region after ≡ is_home region before
home-same region None None e = refl
home-same region None (Some class) e = absurd (cc)
home-same region (Some class) None e = absurd (cc)
home-same region (Some class) (Some other) e = let same : other.home ≡ class.home = cc in rw same refl

-- Members.

-- a sole member that a filter keeps stays the only one
pub one-filtered : (keeps : Member → Bool) (r p : ℕ) (members : List Member) → ((m : Member) → is_member r p m ≡ true → keeps m ≡ true) → list_any (is_member r p) members ≡ true → length members ≡ 1
    → length (filter keeps members) ≡ 1
one-filtered keeps r p [] kept has one = absurd (cc)
one-filtered keeps r p (m ∷ []) kept has one = rw (kept m (grind arith)) refl
one-filtered keeps r p (m ∷ n ∷ members) kept has one = absurd (omega arith)

-- a sole member of another region than the parent gets no companion
pub one-companied : (from to r p : ℕ) (members : List Member) → r ≢ from → list_any (is_member r p) members ≡ true → length members ≡ 1 → length (with_companions from to members) ≡ 1
one-companied from to r p [] apart has one = absurd (cc)
one-companied from to r p (m ∷ []) apart has one =
    let here : is_member r p m ≡ true = grind arith in
    let test : nat_eq m.region from ≡ false = grind (arith, nat_tests) in
    rw test refl
one-companied from to r p (m ∷ n ∷ members) apart has one = absurd (omega arith)

-- two members of a class of one are the same page
pub one-member : (r p s q : ℕ) (members : List Member) → length members ≤ 1 → list_any (is_member r p) members ≡ true → list_any (is_member s q) members ≡ true → (r ≡ s) × (p ≡ q)
one-member r p s q [] one has also = absurd (cc)
one-member r p s q (m ∷ []) one has also = grind (arith, nat_tests)
one-member r p s q (m ∷ n ∷ members) one has also = absurd (omega arith)
