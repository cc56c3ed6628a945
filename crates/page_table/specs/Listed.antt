-- The page table as the program keeps it: one list, region by region.
use Rattle.std.specs.Prelude.{◌≡◌, ◌+◌, ◌*◌, ◌&&◌, nat_lt, if◌then◌else◌, Bool, true, false, List, None, slice_index_or, refl}
use Rattle.std.specs.declared.option.Option.{Option}
use Rattle.std.proofs.Common.{inl, inr, ap, ◌∙◌}
use Rattle.std.proofs.lemmas.Bool.{le-ltb}
use Rattle.cap_format.specs.Numbers.{most_regions, region_pages}
use Rattle.page_table.specs.declared.table.Entry.{Entry}
use Rattle.page_table.specs.Entries.{Entries, NothingPast, Table}

-- the entries of a list, and none past the last region and page
abbrev pub listed : List (Option Entry) → Entries
listed list region page =
    if nat_lt region most_regions && nat_lt page region_pages then slice_index_or list (region * region_pages + page) None else None

-- there is nothing where the second test fails
nothing : (a : Bool) (entry : Option Entry) → (if a && false then entry else None) ≡ None
nothing true entry = refl
nothing false entry = refl

pub listed-past : (list : List (Option Entry)) → NothingPast (listed list)
listed-past list region page (inl far) =
    ap (λ b. if b && nat_lt page region_pages then slice_index_or list (region * region_pages + page) None else None) (le-ltb region most_regions far)
listed-past list region page (inr far) =
    ap (λ b. if nat_lt region most_regions && b then slice_index_or list (region * region_pages + page) None else None) (le-ltb page region_pages far)
    ∙ nothing (nat_lt region most_regions) (slice_index_or list (region * region_pages + page) None)

-- the table that a list stands for
abbrev pub table_of : List (Option Entry) → Table
table_of list = record { entries = listed list; past = listed-past list }
