-- What an entry shows of its page, and what contents, accounts and frames are part-way through a call.
use Rattle.std.specs.Prelude.{ℕ, zero, suc, true, not, ◌==◌, ◌&&◌, nat_lt, is_some, if◌then◌else◌, Option, Some, None, List, [], ◌∷◌, ◌++◌, map, filter}
use Rattle.std.specs.Option.{option_map}
use Rattle.cap_format.specs.declared.cap.Cap.{Cap}
use Rattle.cap_format.specs.Moves.{moved}
use Rattle.machine_types.specs.Stores.{Store, moved_store, pages_below}
use Rattle.machine_types.specs.Accounts.{Class, class_for, has_members}
use Rattle.page_table.specs.declared.table.Entry.{Entry}
use Rattle.contents.specs.Content.{Content, with_account, with_store}
use Rattle.stores.specs.declared.space.Translation.{Translation}

-- the page is at home, and alone in its class
abbrev pub translation_of : Entry → Translation
translation_of entry = record { frame = entry.frame; rights = entry.rights; home = true; alone = true }

-- how many entries a region has below a page
unfoldable pub entries_below : (ℕ → Option Entry) → ℕ → ℕ
entries_below entries zero = 0
entries_below entries (suc n) = if is_some (entries n) then suc (entries_below entries n) else entries_below entries n

-- the pages of a store from a number on
abbrev pub pages_from : ℕ → Store → Store
pages_from n store page = if nat_lt page n then None else store page

-- the pages of a store below a number
abbrev pub pages_until : ℕ → Store → Store
pages_until n store page = if nat_lt page n then store page else None

-- a class without the members of a region below a page
abbrev pub without_below : ℕ → ℕ → Class → Class
without_below region n class = record class { members = filter (λ m. not (m.region == region && nat_lt m.page n)) class.members }

-- an account without those members, and without the classes that they leave empty
unfoldable pub account_below : ℕ → ℕ → List Class → List Class
account_below region n account = filter has_members (map (without_below region n) account)

-- the pages of the region below a number are gone
unfoldable pub ended_below : Content → ℕ → ℕ → Content
ended_below c region n = with_account (with_store c region (option_map (pages_from n) (c.stores region))) (account_below region n c.account)

-- the numbers of the pages below a number
abbrev pub numbers_below : Option Store → ℕ → List ℕ
numbers_below None n = []
numbers_below (Some store) n = pages_below store n

-- the child has the pages of the parent below a number, each in a class of its own
unfoldable pub forked_below : Content → ℕ → ℕ → ℕ → Content
forked_below c from to n =
    with_account (with_store c to (option_map (λ store. pages_until n (moved_store from to store)) (c.stores from)))
    (c.account ++ map (class_for to) (numbers_below (c.stores from) n))

-- the granules below a number are moved
unfoldable pub moved_below : ℕ → ℕ → ℕ → List Cap → List Cap
moved_below from to zero granules = granules
moved_below from to (suc n) [] = []
moved_below from to (suc n) (cap ∷ granules) = moved cap from to ∷ moved_below from to n granules
