-- What a call may ask of a content.
use Rattle.std.specs.Prelude.{ℕ, Bool, true, false, IsSome, ◌≡◌, ◌+◌, ◌<◌, Option, Some, None, length}
use Rattle.machine_types.specs.declared.touches.Access.{Access}
use Rattle.machine_types.specs.Stores.{empty_store}
use Rattle.machine_types.specs.Accounts.{Class}
use Rattle.machine_types.specs.Touches.{touches}
use Rattle.contents.specs.Content.{Content, page_at, class_at}
use Rattle.contents.specs.Accesses.{page_of_place}
use Rattle.contents.specs.Transfers.{may_access, tagged_in}

-- the region has a store
abbrev pub HasStore : ℕ → Content → Type 0
HasStore region c = IsSome (c.stores region)

-- the region has no store
abbrev pub HasNoStore : ℕ → Content → Type 0
HasNoStore region c = c.stores region ≡ None

-- the region has a store without pages
abbrev pub HasEmptyStore : ℕ → Content → Type 0
HasEmptyStore region c = c.stores region ≡ Some empty_store

-- the region has a store without this page
pub record LacksPage (region page : ℕ) (c : Content) : Type 0 where
  pub store : HasStore region c
  pub absent : page_at c region page ≡ None

-- the page is alone in its class, and its region is the home
pub record IsOwn (region page : ℕ) (c : Content) : Type 0 where
  pub class : Class
  pub there : class_at c region page ≡ Some class
  pub home : class.home ≡ region
  pub alone : length class.members ≡ 1

-- every page under the bytes is there with the right for the access
abbrev pub Covers : ℕ → ℕ → ℕ → Access → Content → Type 0
Covers region at n access c = (k : ℕ) → k < n → may_access access (page_at c region (page_of_place (at + k))) ≡ true

-- a class that isn't touched
abbrev pub IsFitIn : Content → Access → ℕ → Bool → Option Class → Type 0
IsFitIn c access region tagged None = Unit {0}
IsFitIn c access region tagged (Some class) = touches c.rule access class region tagged ≡ false

-- every page under the bytes is there with the right, and none would be touched
pub record IsPrepared (region at n : ℕ) (access : Access) (c : Content) : Type 0 where
  pub covered : Covers region at n access c
  pub fit : (k : ℕ) → k < n → IsFitIn c access region (tagged_in (page_at c region (page_of_place (at + k))) (at + k)) (class_at c region (page_of_place (at + k)))
