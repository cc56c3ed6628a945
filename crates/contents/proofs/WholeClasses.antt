-- The classes of a whole content, and a class of one page.
use Rattle.std.proofs.Common.{◌≡◌, ◌∙◌, refl, ℕ, ◌+◌, ◌≤◌, ◌==◌, ◌&&◌, ◌||◌, is_some, None, [], ◌∷◌, filter, cond, true, false, Bool, All, arith}
use Rattle.std.specs.List.{list_any}
use Rattle.machine_types.specs.Lists.{count_of}
use Rattle.machine_types.specs.Accounts.{Member, Class, is_member, has_member, class_for}
use Rattle.contents.specs.Content.{Content, page_at, class_at}
use Rattle.contents.specs.Conditions.{HasNoStore}
use Rattle.contents.specs.Whole.{IsClass, IsWhole}
use Rattle.contents.proofs.ListSearches.{find-none}
use Rattle.contents.proofs.ListCounts.{none-counted, count-most, count-once, count-filter}
use Rattle.contents.proofs.Companions.{HasNone}

-- The classes of a whole content.

-- each page is a member of no more than one
pub once-whole : (c : Content) (region page : ℕ) → IsWhole c → count_of (has_member region page) c.account ≤ 1
once-whole c region page is = count-most (is_some (page_at c region page)) _ (is.pages region page)

-- a page that is not there is a member of none
pub count-absent : (c : Content) (region page : ℕ) → IsWhole c → is_some (page_at c region page) ≡ false → count_of (has_member region page) c.account ≡ 0
count-absent c region page is absent = is.pages region page ∙ rw absent refl

-- so it has none
pub class-absent : (c : Content) (region page : ℕ) → IsWhole c → is_some (page_at c region page) ≡ false → class_at c region page ≡ None
class-absent c region page is absent = find-none (has_member region page) c.account (none-counted (has_member region page) c.account (count-absent c region page is absent))

-- no page of a region without a store is there
pub none-there : (c : Content) (region page : ℕ) → HasNoStore region c → is_some (page_at c region page) ≡ false
none-there c region page none = rw none refl

-- so no class has one as a member
pub none-members : (c : Content) (region : ℕ) → IsWhole c → HasNoStore region c → All (HasNone region) c.account
none-members c region is none k d within page = none-counted (has_member region page) c.account (count-absent c region page is (none-there c region page none)) k d within

-- each member that a filter keeps of a class stands once
pub once-filter : (keeps : Member → Bool) (class : Class) → IsClass class → (region page : ℕ)
    → count_of (is_member region page) (filter keeps class.members) ≡ cond (list_any (is_member region page) (filter keeps class.members)) 1 0
once-filter keeps class is region page =
    let less = count-filter (is_member region page) keeps class.members in
    let most = count-most (has_member region page class) _ (is.once region page) in
    count-once (is_member region page) (filter keeps class.members) (omega arith)

-- A class of one page.

-- it is counted for that page
pub count-class_for : (region page r p : ℕ) → count_of (has_member r p) (class_for region page ∷ []) ≡ cond (region == r && page == p) 1 0
count-class_for region page r p = by (region == r && page == p)
  where
    by : (b : Bool) → cond (b || false) (1 + 0) 0 ≡ cond b 1 0
    by true = refl
    by false = refl

-- it has its member once
pub IsClass-class_for : (region page : ℕ) → IsClass (class_for region page)
IsClass-class_for region page = record { some = refl; once = λ r p. by (region == r && page == p) }
  where
    by : (b : Bool) → cond b (1 + 0) 0 ≡ cond (b || false) 1 0
    by true = refl
    by false = refl
