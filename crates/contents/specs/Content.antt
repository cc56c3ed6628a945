-- What a space of stores stands for: a store for each region and the frame account.
use Rattle.std.specs.Prelude.{ℕ, Bool, Option, Some, None, List, []}
use Rattle.std.specs.Option.{option_map}
use Rattle.cap_format.specs.declared.cap.Cap.{Cap}
use Rattle.machine_types.specs.declared.config.Rule.{Rule}
use Rattle.machine_types.specs.Stores.{Page, Store, changed, store_with}
use Rattle.machine_types.specs.Accounts.{Class, class_of}
use Rattle.machine_types.specs.Accounts as account

-- The copy rule and the number of frames never change.
pub record Content : Type 0 where
  pub stores : ℕ → Option Store
  pub account : List Class
  pub rule : Rule
  pub frames : ℕ

-- the answer of a call, and the content after it
pub record CallOutcome (A : Type 0) : Type 0 where
  pub answer : A
  pub after : Content

-- no region has a store, and no frame is used
abbrev pub nothing : Rule → ℕ → Content
nothing rule frames = record { stores = λ region. None; account = []; rule = rule; frames = frames }

-- the page of a store, if there is a store and it has the page
abbrev pub page_in : Option Store → ℕ → Option Page
page_in None page = None
page_in (Some store) page = store page

abbrev pub page_at : Content → ℕ → ℕ → Option Page
page_at c region page = page_in (c.stores region) page

-- the class of a page, if it has one
abbrev pub class_at : Content → ℕ → ℕ → Option Class
class_at c region page = class_of c.account region page

-- how many frames are used
abbrev pub used_frames : Content → ℕ
used_frames c = account.used c.account

-- how many frames are free
abbrev pub free_frames : Content → ℕ
free_frames c = account.free c.frames c.account

-- no frame is free
abbrev pub is_full : Content → Bool
is_full c = account.is_full c.frames c.account

abbrev pub with_account : Content → List Class → Content
with_account c account = record c { account = account }

-- a region with another store, or with none
abbrev pub with_store : Content → ℕ → Option Store → Content
with_store c region store = record c { stores = changed c.stores region store }

-- a region with one page more, or another in its place, if it has a store
abbrev pub with_page : Content → ℕ → ℕ → Page → Content
with_page c region page p = with_store c region (option_map (λ store. changed store page (Some p)) (c.stores region))

-- a region with the granules of a page changed, if it has the page
abbrev pub with_granules : Content → ℕ → ℕ → (List Cap → List Cap) → Content
with_granules c region page change = with_store c region (option_map (store_with page change) (c.stores region))
