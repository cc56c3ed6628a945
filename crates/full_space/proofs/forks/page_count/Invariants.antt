use Rattle.std.proofs.Common.{◌≡◌, ◌≤◌}
use Rattle.full_space.specs.Steps.{entries_below}
use Rattle.full_space.proofs.forks.page_count.Given as goal

-- those below this page are counted
abbrev pub invariant-loop-page : goal.invariant-loop-page
invariant-loop-page l = record {
  is : l.count ≡ entries_below (l.board.table.entries l.region) l.page;
  most : l.count ≤ l.page;
}
