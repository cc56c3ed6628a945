use Rattle.std.proofs.Common.{◌≡◌, ◌≤◌, ◌<◌, ℕ, true}
use Rattle.stores.specs.Entered.{entry_allows}
use Rattle.stores.proofs.entries.covers_pages.Given as goal

-- each page so far may be accessed
abbrev pub invariant-loop-page : goal.invariant-loop-page
invariant-loop-page l = (k : ℕ) → l.first ≤ k → k < l.page → entry_allows l.access (l.board.table.entries l.region k) ≡ true
