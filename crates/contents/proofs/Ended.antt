-- What the end of a region does to the members of classes.
use Rattle.std.proofs.Common.{◌≡◌, ◌≢◌, ℕ, ◌∙◌, arith, true, false, not, List, [], ◌∷◌, length, map, get_or, ◌==◌}
use Rattle.std.specs.List.{list_any}
use Rattle.std.proofs.lemmas.Bool.Decides.{nat_tests}
use Rattle.std.proofs.lemmas.List.Elements.{All-map}
use Rattle.std.proofs.lemmas.List.Folds.{list_any_none}
use Rattle.std.proofs.lemmas.Map.Views.{any-filter_same}
use Rattle.machine_types.specs.Accounts.{Member, Class, is_member, has_member, without_region, has_members, account_at_end}
use Rattle.machine_types.specs.Lists.{count_of}
use Rattle.contents.proofs.ListCounts.{count-none, count-map, count-filter_kept}

-- a class with a member has members
pub has-members : (r page : ℕ) (class : Class) → has_member r page class ≡ true → has_members class ≡ true
has-members r page class h = by class.members h
  where
    by : (members : List Member) → list_any (is_member r page) members ≡ true → not (length members == 0) ≡ true
    by [] h = cc
    by (m ∷ members) h = grind (arith, nat_tests)

-- a member of another region stays
pub stays-member : (region r page : ℕ) → r ≢ region → (m : Member) → is_member r page m ≡ true → not (m.region == region) ≡ true
stays-member region r page apart m here = grind (arith, nat_tests)

-- so a page of another region is in the classes that it was in
pub other-member : (region r page : ℕ) (class : Class) → r ≢ region → has_member r page (without_region region class) ≡ has_member r page class
other-member region r page class apart = any-filter_same (is_member r page) (λ m. not (m.region == region)) true (stays-member region r page apart) class.members

-- a page of the region is a member of none
pub own-member : (region page : ℕ) (class : Class) → has_member region page (without_region region class) ≡ false
own-member region page class = any-filter_same (is_member region page) (λ m. not (m.region == region)) false (λ m h. grind (arith, nat_tests)) class.members

-- so a page of another region is in as many classes as before
pub others-stay : (account : List Class) (region r page : ℕ) → r ≢ region → count_of (has_member r page) (account_at_end region account) ≡ count_of (has_member r page) account
unfolding account_at_end
others-stay account region r page apart =
    count-filter_kept (has_member r page) has_members (has-members r page) (map (without_region region) account)
    ∙ count-map (has_member r page) (has_member r page) (without_region region) account (λ k d within. other-member region r page (get_or account k d) apart)

-- and one of the region in no class
pub own-leave : (account : List Class) (region page : ℕ) → count_of (has_member region page) (account_at_end region account) ≡ 0
unfolding account_at_end
own-leave account region page =
    let left : List Class = map (without_region region) account in
    let none = All-map (λ class. has_member region page class ≡ false) (without_region region) account (λ k d within. own-member region page (get_or account k d)) in
    count-filter_kept (has_member region page) has_members (has-members region page) left
    ∙ count-none (has_member region page) left (list_any_none (has_member region page) left none)
