-- A touch keeps a content whole.
use Rattle.std.proofs.Common.{◌≡◌, ◌∙◌, ◌⊎◌, inl, inr, ap, ℕ, ◌+◌, ◌≤◌, ◌<◌, ◌==◌, ◌&&◌, not, is_some, get_or, Some, List, [], ◌∷◌, ◌++◌, map, filter, length, cond, true, false, Bool, All, arith}
use Rattle.std.proofs.lemmas.Bool.{cases_Bool}
use Rattle.std.proofs.lemmas.Bool.Decides.{nat_tests}
use Rattle.std.proofs.lemmas.List.Elements.{All-map, All-push}
use Rattle.std.proofs.lemmas.List.Folds.{list_any_none}
use Rattle.machine_types.specs.declared.touches.Access.{Access}
use Rattle.machine_types.specs.declared.touches.Note.{Note}
use Rattle.machine_types.specs.Lists.{count_of}
use Rattle.machine_types.specs.Accounts.{Class, is_member, has_member, has_members, class_for}
use Rattle.machine_types.specs.Touches.{is_shared, rehomed, without_member}
use Rattle.contents.specs.Content.{Content, page_at, class_at}
use Rattle.contents.specs.Accesses.{note_of, touched}
use Rattle.contents.specs.Whole.{IsClass, IsWhole}
use Rattle.contents.proofs.CallShapes.{HoldsOfTouches}
use Rattle.contents.proofs.TouchLemmas.{IsNoted, none, copied, moved, noted}
use Rattle.contents.proofs.UsedFrames.{within-steps}
use Rattle.contents.proofs.ListCounts.{count-none, count-most, count-map, count-append, count-not, length-filter, count-found, found-only}
use Rattle.contents.proofs.Fits.{IsOther, other-member, own-member, rehomed-member}
use Rattle.contents.proofs.WholeClasses.{once-whole, once-filter, count-class_for, IsClass-class_for}

-- Classes without a member.

-- there are others, where there were several or the member was none
others-left : (region page : ℕ) (class : Class) → IsClass class → (has_member region page class ≡ true → is_shared class ≡ true) → has_members (without_member region page class) ≡ true
others-left region page class is shared =
    by (cases_Bool (has_member region page class)) (count-not (is_member region page) class.members) (length-filter (λ m. not (is_member region page m)) class.members) (count-most (has_member region page class) _ (is.once region page)) is.some
  where
    by : (has_member region page class ≡ true) ⊎ (has_member region page class ≡ false)
        → count_of (is_member region page) class.members + count_of (λ m. not (is_member region page m)) class.members ≡ length class.members
        → length (filter (λ m. not (is_member region page m)) class.members) ≡ count_of (λ m. not (is_member region page m)) class.members
        → count_of (is_member region page) class.members ≤ 1 → has_members class ≡ true → has_members (without_member region page class) ≡ true
    by (inl h) parts kept one some = let several = shared h in grind (arith, nat_tests)
    by (inr h) parts kept one some = let zero = count-none (is_member region page) class.members h in grind (arith, nat_tests)

-- so it is a class still
IsClass-without_member : (region page : ℕ) (class : Class) → IsClass class → (has_member region page class ≡ true → is_shared class ≡ true) → IsClass (without_member region page class)
IsClass-without_member region page class is shared = record { some = others-left region page class is shared; once = once-filter (λ m. not (is_member region page m)) class is }

-- Classes with another home.

IsClass-rehomed : (region page : ℕ) (class : Class) → IsClass class → IsClass (rehomed region page class)
IsClass-rehomed region page class is = by (has_member region page class)
  where
    by : (b : Bool) → IsClass (cond b (record class { home = region }) class)
    by true = record { some = is.some; once = is.once }
    by false = is

-- Touches.

-- the classes after a copy
copied-classes : (c : Content) (region page : ℕ) (class : Class) → IsWhole c → class_at c region page ≡ Some class → is_shared class ≡ true
    → All IsClass (map (without_member region page) c.account ++ (class_for region page ∷ []))
copied-classes c region page class is there shared =
    All-push IsClass (map (without_member region page) c.account) (class_for region page) (All-map IsClass (without_member region page) c.account left) (IsClass-class_for region page)
  where
    left : (k : ℕ) (d : Class) → k < length c.account → IsClass (without_member region page (get_or c.account k d))
    left k d w =
        IsClass-without_member region page (get_or c.account k d) (is.classes k d w)
        (λ h. ap is_shared (found-only (has_member region page) c.account class (once-whole c region page is) there k d w h) ∙ shared)

-- and the pages that are members of them
copied-pages : (c : Content) (region page : ℕ) (class : Class) → IsWhole c → class_at c region page ≡ Some class → (r p : ℕ)
    → count_of (has_member r p) (map (without_member region page) c.account ++ (class_for region page ∷ [])) ≡ cond (is_some (page_at c r p)) 1 0
copied-pages c region page class is there r p =
    count-append (has_member r p) left (class_for region page ∷ []) ∙ ap (λ n. count_of (has_member r p) left + n) (count-class_for region page r p) ∙ by same-or-other
  where
    left : List Class
    left = map (without_member region page) c.account

    same-or-other : ((r ≡ region) × (p ≡ page)) ⊎ IsOther region page r p
    same-or-other = grind arith

    once : count_of (has_member region page) c.account ≡ 1
    once =
        let some = count-found (has_member region page) c.account class there in
        let most = once-whole c region page is in
        omega arith

    gone : count_of (has_member region page) left ≡ 0
    gone =
        count-none (has_member region page) left (list_any_none (has_member region page) left
        (All-map (λ class. has_member region page class ≡ false) (without_member region page) c.account (λ k d w. own-member region page (get_or c.account k d))))

    stays : IsOther region page r p → count_of (has_member r p) left ≡ count_of (has_member r p) c.account
    stays e = count-map (has_member r p) (has_member r p) (without_member region page) c.account (λ k d w. other-member region page r p (get_or c.account k d) e)

    by : ((r ≡ region) × (p ≡ page)) ⊎ IsOther region page r p → count_of (has_member r p) left + cond (region == r && page == p) 1 0 ≡ cond (is_some (page_at c r p)) 1 0
    by (inl e) =
        let zero : count_of (has_member r p) left ≡ 0 = rw (e.0, e.1) gone in
        let here : (region == r && page == p) ≡ true = grind (arith, nat_tests) in
        let before : count_of (has_member r p) c.account ≡ 1 = rw (e.0, e.1) once in
        let pages = is.pages r p in
        rw (zero, here) (omega arith)
    by (inr e) =
        let other : (region == r && page == p) ≡ false = grind (arith, nat_tests) in
        let pages = is.pages r p in
        rw (stays e, other) (omega arith)

-- the content after each touch is whole
pub touch-whole : (c : Content) (access : Access) (region page : ℕ) (tagged : Bool) (note : Note) → note_of c access region page tagged ≡ Some note → IsWhole c → IsWhole (touched c region note)
touch-whole c access region page tagged note e is =
    record { stores = is.stores; pages = parts.0; classes = parts.1; used = (within-steps region).stores.touches.touch c access page tagged note e is.used; held = is.held }
  where
    -- what the account is after a touch
    IsExact : Note → Type 0
    IsExact note = ((r p : ℕ) → count_of (has_member r p) (touched c region note).account ≡ cond (is_some (page_at c r p)) 1 0) × All IsClass (touched c region note).account

    by : (note : Note) → IsNoted c access region page tagged note → IsExact note
    by _ (none _) = (is.pages, is.classes)
    by _ (copied class there _ shared) = (copied-pages c region page class is there, copied-classes c region page class is there shared)
    by _ (moved _ _ _ _) = (
      λ r p. count-map (has_member r p) (has_member r p) (rehomed region page) c.account (λ k d w. rehomed-member region page r p (get_or c.account k d)) ∙ is.pages r p,
      All-map IsClass (rehomed region page) c.account (λ k d w. IsClass-rehomed region page (get_or c.account k d) (is.classes k d w)),
    )

    parts : IsExact note
    parts = by note (noted c access region page tagged note e)

-- if the first content is whole, the second is
abbrev pub StaysWhole : Content → Content → Type 0
StaysWhole before after = IsWhole before → IsWhole after

-- so are those after all touches of a call
pub whole-touches : (region : ℕ) → HoldsOfTouches region StaysWhole
whole-touches region = record {
  stays = λ c is. is;
  joins = λ a b c h k is. k (h is);
  touch = λ c access page tagged note e. touch-whole c access region page tagged note e;
}
