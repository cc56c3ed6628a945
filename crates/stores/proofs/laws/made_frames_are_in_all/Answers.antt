-- The least of three numbers is at most each, and the greatest that is.
use Rattle.std.proofs.Common.{ℕ, length, min}
use Rattle.std.proofs.Math.Nat.{min-le_left, min-le_right, le-min, le_trans}
use Rattle.stores.specs.declared.board.Board.{Board}
use Rattle.stores.proofs.laws.made_frames_are_in_all.Goals as goal

-- what pool and owners both have
abbrev both : Board → ℕ
both board = min (length board.pool.used) (length board.owners)

pub returns : goal.returns
returns c = record {
  memory = λ board. min-le_left (length board.memory) (both board);
  pool = λ board. le_trans (min-le_right (length board.memory) (both board)) (min-le_left (length board.pool.used) (length board.owners));
  owners = λ board. le_trans (min-le_right (length board.memory) (both board)) (min-le_right (length board.pool.used) (length board.owners));
  most = λ board n memory pool owners. le-min memory (le-min pool owners);
}
