use Rattle.std.proofs.Common.{◌≡◌, ◌<◌, ℕ, None}
use Rattle.stores.proofs.board.has_no_page.Given as goal

-- none so far has an entry
abbrev pub invariant-loop-page : goal.invariant-loop-page
invariant-loop-page l = (k : ℕ) → k < l.page → l.table.entries l.region k ≡ None
