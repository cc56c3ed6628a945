-- A board on which each page has a frame of its own.
use Rattle.std.specs.Prelude.{ℕ, ◌≡◌, Some}
use Rattle.page_table.specs.declared.table.Entry.{Entry}
use Rattle.frame_owners.specs.Homes.{owner}
use Rattle.stores.specs.declared.board.Board.{Board}

-- the frame of each page has the page's region as its home, and no other sharer
abbrev pub AreOwn : Board → Type 0
AreOwn board = (region page : ℕ) (e : Entry) → board.table.entries region page ≡ Some e → owner board.owners e.frame.0 ≡ record { home = region; sharers = 1 }
