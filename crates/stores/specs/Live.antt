-- Which regions have a store, as a space keeps it beside its board.
use Rattle.std.specs.Prelude.{ℕ, ◌≡◌, Bool, false, is_some, List, slice_index_or}
use Rattle.contents.specs.Content.{Content}

-- the region is kept as one with a store
abbrev pub is_live : List Bool → ℕ → Bool
is_live live region = slice_index_or live region false

-- just these regions have a store in the content
abbrev pub HaveStores : List Bool → Content → Type 0
HaveStores live c = (region : ℕ) → is_some (c.stores region) ≡ is_live live region
