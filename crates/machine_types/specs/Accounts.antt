-- The frame account: which pages are kept as one. This project's own. It has neither frames nor contents.
use Rattle.std.specs.Prelude.{ℕ, Bool, not, ◌-◌, ◌==◌, ◌&&◌, nat_lt, if◌then◌else◌, Option, Some, None, List, [], ◌∷◌, ◌++◌, length, map, filter, find}
use Rattle.std.specs.List.{list_any}
use Rattle.machine_types.specs.declared.config.Rule.{Rule}
use Rattle.machine_types.specs.declared.config.Rule.TheVariants.{Full, Access, Pointer}

-- a page of a region
pub record Member : Type 0 where
  pub region : ℕ
  pub page : ℕ

-- pages that are kept as one, and the region that its tagged capabilities are inside of
pub record Class : Type 0 where
  pub home : ℕ
  pub members : List Member

abbrev pub is_member : ℕ → ℕ → Member → Bool
is_member region page m = m.region == region && m.page == page

abbrev pub has_member : ℕ → ℕ → Class → Bool
has_member region page class = list_any (is_member region page) class.members

-- the first class that has the page as a member
abbrev pub class_of : List Class → ℕ → ℕ → Option Class
class_of account region page = find (has_member region page) account

-- a class of one page, with its own region as home
abbrev pub class_for : ℕ → ℕ → Class
class_for region page = record { home = region; members = record { region = region; page = page } ∷ [] }

-- how many frames are used: one for each class
abbrev pub used : List Class → ℕ
used account = length account

-- how many of so many frames aren't used
abbrev pub free : ℕ → List Class → ℕ
free frames account = frames - used account

-- all of so many frames are used
abbrev pub is_full : ℕ → List Class → Bool
is_full frames account = used account == frames

-- Under `access` and `pointer` each member of the parent gets a companion in its class, with the child's region and the
-- same page.
abbrev pub with_companions : ℕ → ℕ → List Member → List Member
with_companions from to [] = []
with_companions from to (m ∷ members) =
    if m.region == from
    then m ∷ record { region = to; page = m.page } ∷ with_companions from to members
    else m ∷ with_companions from to members

abbrev pub shared_class : ℕ → ℕ → Class → Class
shared_class from to class = record class { members = with_companions from to class.members }

-- The account at a fork, where so many frames are free. Under `full` each page of the parent gives a new class with the
-- child's region as home, and None stands for fewer free frames than pages.
unfoldable pub account_at_fork : Rule → ℕ → List Class → ℕ → ℕ → List ℕ → Option (List Class)
account_at_fork Full free account from to pages =
    if nat_lt free (length pages) then None else Some (account ++ map (class_for to) pages)
account_at_fork Access free account from to pages = Some (map (shared_class from to) account)
account_at_fork Pointer free account from to pages = Some (map (shared_class from to) account)

-- The account when a region ends: its members leave, and classes without members go.
abbrev pub without_region : ℕ → Class → Class
without_region region class = record class { members = filter (λ m. not (m.region == region)) class.members }

abbrev pub has_members : Class → Bool
has_members class = not (length class.members == 0)

unfoldable pub account_at_end : ℕ → List Class → List Class
account_at_end region account = filter has_members (map (without_region region) account)
