use Rattle.std.proofs.Common.{◌≡◌, ◌≢◌, ℕ}
use Rattle.contents.specs.Content.{Content}
use Rattle.stores.specs.Boards.{Stands}
use Rattle.full_space.specs.Own.{AreOwn}
use Rattle.full_space.specs.Steps.{ended_below}
use Rattle.full_space.proofs.endings.drop_pages.Given as goal

-- the pages below this one are gone
abbrev pub invariant-loop-page : goal.invariant-loop-page
invariant-loop-page l = record {
  own : AreOwn l.board;
  each : (c : Content) → Stands l.fn.board c → Stands l.board (ended_below c l.region l.page);
  frames : (r p : ℕ) → r ≢ l.region → l.board.table.entries r p ≡ l.fn.board.table.entries r p;
}
