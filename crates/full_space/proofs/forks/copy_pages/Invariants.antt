use Rattle.std.proofs.Common.{◌≡◌, ◌≢◌, ℕ}
use Rattle.contents.specs.Content.{Content}
use Rattle.stores.specs.Boards.{Stands}
use Rattle.full_space.specs.Own.{AreOwn}
use Rattle.full_space.specs.Steps.{forked_below}
use Rattle.full_space.proofs.forks.copy_pages.Given as goal

-- the pages below this one are copied
abbrev pub invariant-loop-page : goal.invariant-loop-page
invariant-loop-page l = record {
  own : AreOwn l.board;
  each : (c : Content) → Stands l.fn.board c → Stands l.board (forked_below c l.from l.to l.page);
  frames : (r p : ℕ) → r ≢ l.to → l.board.table.entries r p ≡ l.fn.board.table.entries r p;
}
