-- The store of a process: its pages, each with rights and 256 granules. This project's own.
use Rattle.std.specs.Prelude.{ℕ, zero, suc, ◌≡◌, ◌≤◌, ◌+◌, ◌==◌, ◌&&◌, nat_lt, if◌then◌else◌, is_some, Option, Some, None, List, [], ◌∷◌, ◌++◌, length, map, replicate}
use Rattle.std.specs.List.{list_any}
use Rattle.std.specs.Option.{option_map}
use Rattle.cap_format.specs.Numbers.{region_pages, page_granules}
use Rattle.cap_format.specs.declared.cap.Cap.{Cap}
use Rattle.cap_format.specs.Made.{null}
use Rattle.cap_format.specs.Moves.{moved}
use Rattle.machine_types.specs.Granules.{with_bytes}

pub record Page : Type 0 where
  pub rights : ℕ
  pub granules : List Cap

-- a page or nothing for each page number
abbrev pub Store : Type 0
Store = ℕ → Option Page

-- There is nothing past the last page of a region, and each page has 256 granules.
pub record IsStore (store : Store) : Type 0 where
  pub past : (page : ℕ) → region_pages ≤ page → store page ≡ None
  pub granules : (page : ℕ) (p : Page) → store page ≡ Some p → length p.granules ≡ page_granules

-- a function with another value at one number
abbrev pub changed : {A : Type 0} → (ℕ → A) → ℕ → A → ℕ → A
changed f at value n = if n == at then value else f n

abbrev pub empty_store : Store
empty_store page = None

-- these bytes and then zeros, without a tag
abbrev pub page_of_bytes : ℕ → List ℕ → Page
page_of_bytes rights bytes = record { rights = rights; granules = with_bytes (replicate page_granules null) 0 bytes }

-- a page with its granules changed
abbrev pub page_with : (List Cap → List Cap) → Page → Page
page_with change page = record page { granules = change page.granules }

-- a store with the granules of one page changed, if it has the page
abbrev pub store_with : ℕ → (List Cap → List Cap) → Store → Store
store_with page change store = changed store page (option_map (page_with change) (store page))

-- each granule moved from one region to another
abbrev pub moved_granules : ℕ → ℕ → List Cap → List Cap
moved_granules from to granules = map (λ g. moved g from to) granules

-- a page moved: its rights stay
abbrev pub moved_page : ℕ → ℕ → Page → Page
moved_page from to = page_with (moved_granules from to)

-- the same page numbers, each page moved
abbrev pub moved_store : ℕ → ℕ → Store → Store
moved_store from to store page = option_map (moved_page from to) (store page)

-- the page numbers below a number, in rising order
abbrev pub pages_below : Store → ℕ → List ℕ
pages_below store zero = []
pages_below store (suc n) = if is_some (store n) then pages_below store n ++ (n ∷ []) else pages_below store n

unfoldable pub page_numbers : Store → List ℕ
page_numbers store = pages_below store region_pages

-- each number is at least the first and more than the one before
abbrev pub AreRising : ℕ → List ℕ → Type 0
AreRising least [] = Unit {0}
AreRising least (n ∷ numbers) = (least ≤ n) × AreRising (n + 1) numbers

-- The page numbers rise, and are those of the pages that the store has.
pub record PagesAreNumbered : Type 0 where
  pub rising : (store : Store) → AreRising 0 (page_numbers store)
  pub all : (store : Store) (page : ℕ) → list_any (λ n. n == page) (page_numbers store) ≡ (nat_lt page region_pages && is_some (store page))
