use Rattle.std.proofs.Common.{◌≡◌, ◌<◌, ℕ, None}
use Rattle.cap_format.specs.declared.TheConstants.{REGION_PAGES}
use Rattle.stores.proofs.board.has_no_entry.Given as goal

-- none so far has an entry
abbrev pub invariant-loop-region : goal.invariant-loop-region
invariant-loop-region l = (k page : ℕ) → k < l.region → page < REGION_PAGES → l.table.entries k page ≡ None
