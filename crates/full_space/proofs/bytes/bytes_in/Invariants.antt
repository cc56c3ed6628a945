use Rattle.std.proofs.Common.{◌≡◌, ◌≤◌, ◌-◌, length, take}
use Rattle.contents.specs.Content.{Content}
use Rattle.contents.specs.Transfers.{write_bytes_of}
use Rattle.stores.specs.Boards.{Stands}
use Rattle.full_space.specs.Own.{AreOwn}
use Rattle.full_space.proofs.bytes.bytes_in.Given as goal

-- the bytes so far are stored
abbrev pub invariant-loop-done : goal.invariant-loop-done
invariant-loop-done l = record {
  within : l.done ≤ length l.from;
  own : AreOwn l.board;
  stored : (c : Content) → Stands l.initial.board c → Stands l.board (write_bytes_of c l.region l.at (take l.done l.from));
  table : l.board.table ≡ l.initial.board.table;
}

abbrev pub decreases-loop-done : goal.decreases-loop-done
decreases-loop-done l = length l.from - l.done
