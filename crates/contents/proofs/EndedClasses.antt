-- What the end of a region leaves of the account.
use Rattle.std.proofs.Common.{◌≡◌, ◌≢◌, ◌∙◌, ◌+◌, ℕ, refl, ap, arith, true, false, not, Bool, None, List, [], ◌∷◌, length, map, filter, cond, All, ◌==◌, ◌&&◌, ◌||◌, nat_eq, get_or}
use Rattle.std.specs.List.{list_any}
use Rattle.std.specs.Option.{option_map}
use Rattle.std.proofs.lemmas.Bool.Decides.{nat_tests}
use Rattle.std.proofs.lemmas.Map.Views.{any-filter_same}
use Rattle.std.proofs.lemmas.List.Elements.{filter_passes, All-map}
use Rattle.machine_types.specs.Lists.{count_of}
use Rattle.machine_types.specs.Accounts.{Member, Class, has_member, has_members, without_region, account_at_end}
use Rattle.contents.specs.Content.{Content, class_at, used_frames}
use Rattle.contents.specs.Regions.{end_of}
use Rattle.contents.specs.Forking.{shares, home_of, has_others}
use Rattle.contents.proofs.Options.{option_map-option_map}
use Rattle.contents.proofs.Ended.{has-members, other-member, own-member}
use Rattle.contents.proofs.ListSearches.{any-map, find-map, find-none, find-filter}
use Rattle.contents.proofs.ListCounts.{count-map, count-not, length-filter}

-- both pages are members
abbrev pub has_both : ℕ → ℕ → ℕ → ℕ → Class → Bool
has_both r p s q class = has_member r p class && has_member s q class

-- the account without the members of the region
abbrev left : ℕ → List Class → List Class
left region account = map (without_region region) account

-- each class that is left has a member
pub end-some : (c : Content) (region : ℕ) → All (λ class. has_members class ≡ true) (end_of c region).account
unfolding end_of account_at_end
end-some c region = filter_passes has_members (left region c.account)

-- a class has members left exactly where it has others
left-others : (region : ℕ) (class : Class) → has_members (without_region region class) ≡ has_others region class
left-others region class = by class.members
  where
    by-region : (m : Member) (members : List Member) → not (length (filter (λ m. not (m.region == region)) members) == 0) ≡ list_any (λ m. not (m.region == region)) members
        → (b : Bool) → not (length (cond (not b) (m ∷ filter (λ m. not (m.region == region)) members) (filter (λ m. not (m.region == region)) members)) == 0)
        ≡ (not b || list_any (λ m. not (m.region == region)) members)
    by-region m members rest true = rest
    by-region m members rest false = grind (arith, nat_tests)

    by : (members : List Member) → not (length (filter (λ m. not (m.region == region)) members) == 0) ≡ list_any (λ m. not (m.region == region)) members
    by [] = refl
    by (m ∷ members) = by-region m members (by members) (nat_eq m.region region)

-- so the frames are fewer by the classes without others
pub end-used : (c : Content) (region : ℕ) → used_frames (end_of c region) + count_of (λ class. not (has_others region class)) c.account ≡ used_frames c
unfolding end_of account_at_end
end-used c region =
    let kept = length-filter has_members (left region c.account) in
    let same = count-map has_members (has_others region) (without_region region) c.account (λ k d within. left-others region (get_or c.account k d)) in
    let all = count-not (has_others region) c.account in
    omega arith

-- a class of two pages of other regions has members left
both-left : (r p s q : ℕ) (class : Class) → has_both r p s q class ≡ true → has_members class ≡ true
both-left r p s q class h = has-members r p class (grind arith)

-- pages of other regions share as before
pub end-shares : (c : Content) (region r p s q : ℕ) → r ≢ region → s ≢ region → shares (end_of c region) r p s q ≡ shares c r p s q
unfolding end_of account_at_end
end-shares c region r p s q apart other =
    any-filter_same (has_both r p s q) has_members true (both-left r p s q) (left region c.account)
    ∙ any-map (has_both r p s q) (has_both r p s q) (without_region region) c.account
    (λ k d within. rw (other-member region r p (get_or c.account k d) apart, other-member region s q (get_or c.account k d) other) refl)

-- the class of a page of another region is the one before, without the members of the region
pub end-class : (c : Content) (region r p : ℕ) → r ≢ region → class_at (end_of c region) r p ≡ option_map (without_region region) (class_at c r p)
unfolding end_of account_at_end
end-class c region r p apart =
    find-filter (has_member r p) has_members (has-members r p) (left region c.account)
    ∙ find-map (has_member r p) (has_member r p) (without_region region) c.account (λ k d within. other-member region r p (get_or c.account k d) apart)

-- so its home stays
pub end-home : (c : Content) (region r p : ℕ) → r ≢ region → home_of (end_of c region) r p ≡ home_of c r p
end-home c region r p apart =
    ap (option_map (λ (class : Class). class.home)) (end-class c region r p apart)
    ∙ option_map-option_map (λ class. class.home) (without_region region) (λ class. class.home) (λ class. refl) (class_at c r p)

-- a page of the region has no class
pub end-own : (c : Content) (region page : ℕ) → home_of (end_of c region) region page ≡ None
unfolding end_of account_at_end
end-own c region page =
    let none : class_at (end_of c region) region page ≡ None
    = find-filter (has_member region page) has_members (has-members region page) (left region c.account)
    ∙ find-none (has_member region page) (left region c.account) (All-map (λ class. has_member region page class ≡ false) (without_region region) c.account (λ k d within. own-member region page (get_or c.account k d))) in
    rw none refl
