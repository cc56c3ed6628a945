-- Touches: when an access has to make a shared or foreign page fit, and what that does to the account. This project's own.
use Rattle.std.specs.Prelude.{ℕ, Bool, false, not, ◌==◌, ◌&&◌, ◌||◌, nat_lt, if◌then◌else◌, Option, Some, None, List, [], ◌∷◌, ◌++◌, length, map, filter}
use Rattle.machine_types.specs.declared.config.Rule.{Rule}
use Rattle.machine_types.specs.declared.config.Rule.TheVariants as rule
use Rattle.machine_types.specs.declared.touches.Access.{Access}
use Rattle.machine_types.specs.declared.touches.Access.TheVariants.{Read, Write, Fetch}
use Rattle.machine_types.specs.declared.touches.Touched.{Touched}
use Rattle.machine_types.specs.declared.touches.Touched.TheVariants.{No, Copied, Moved}
use Rattle.machine_types.specs.Accounts.{Class, is_member, has_member, class_for}

-- the home of the class isn't the region
abbrev pub is_foreign : Class → ℕ → Bool
is_foreign class region = not (class.home == region)

-- the class has more than one member
abbrev pub is_shared : Class → Bool
is_shared class = nat_lt 1 (length class.members)

-- Whether an access by a region touches a page of the class. `tagged`: the bytes overlap a tagged granule.
abbrev pub touches : Rule → Access → Class → ℕ → Bool → Bool
touches rule.Full access class region tagged = false
touches rule.Access Write class region tagged = is_shared class || is_foreign class region
touches rule.Access Read class region tagged = is_foreign class region
touches rule.Access Fetch class region tagged = is_foreign class region
touches rule.Pointer Write class region tagged = is_shared class || is_foreign class region
touches rule.Pointer Read class region tagged = is_foreign class region && tagged
touches rule.Pointer Fetch class region tagged = is_foreign class region && tagged

-- What a touch of a page of the class does: a sole member moves, one of several gets a copy of its own. None: a copy
-- is wanted, and the account is full.
abbrev pub outcome_of_touch : Bool → Class → Option Touched
outcome_of_touch full class = if is_shared class then (if full then None else Some Copied) else Some Moved

-- the class with another home, if it has the member
abbrev pub rehomed : ℕ → ℕ → Class → Class
rehomed region page class = if has_member region page class then record class { home = region } else class

-- the class without the member
abbrev pub without_member : ℕ → ℕ → Class → Class
without_member region page class = record class { members = filter (λ m. not (is_member region page m)) class.members }

-- The account after a touch. A page that moved makes its own region the home of its class. One that was copied leaves
-- to a new last class, with its own region as home.
abbrev pub account_after : Touched → ℕ → ℕ → List Class → List Class
account_after No region page account = account
account_after Moved region page account = map (rehomed region page) account
account_after Copied region page account = map (without_member region page) account ++ (class_for region page ∷ [])
