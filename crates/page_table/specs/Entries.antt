-- The page table: an entry or nothing for each page of each region.
use Rattle.std.specs.Prelude.{◌≡◌, ℕ, ◌≤◌, ◌==◌, ◌&&◌, ◌⊎◌, if◌then◌else◌, None}
use Rattle.std.specs.declared.option.Option.{Option}
use Rattle.cap_format.specs.Numbers.{most_regions, region_pages}
use Rattle.page_table.specs.declared.table.Entry.{Entry}

-- an entry or nothing for each page of each region
abbrev pub Entries : Type 0
Entries = ℕ → ℕ → Option Entry

-- no page has an entry
abbrev pub no_entries : Entries
no_entries region page = None

-- another entry, or none, for one page
abbrev pub with_entry : Entries → ℕ → ℕ → Option Entry → Entries
with_entry entries region page entry r p = if r == region && p == page then entry else entries r p

-- no entry lies past the last region, or past the last page of a region
abbrev pub NothingPast : Entries → Type 0
NothingPast entries = (region page : ℕ) → (most_regions ≤ region) ⊎ (region_pages ≤ page) → entries region page ≡ None

-- what a table stands for
pub record Table : Type 0 where
  pub entries : Entries
  pub past : NothingPast entries
