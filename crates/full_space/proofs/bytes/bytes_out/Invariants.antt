use Rattle.std.proofs.Common.{◌≡◌, ◌≤◌, ◌-◌, length, take}
use Rattle.contents.specs.Content.{Content}
use Rattle.contents.specs.Transfers.{read_bytes_of}
use Rattle.stores.specs.Boards.{Stands}
use Rattle.full_space.proofs.bytes.bytes_out.Given as goal

-- the bytes so far are read
abbrev pub invariant-loop-done : goal.invariant-loop-done
invariant-loop-done l = record {
  within : l.done ≤ length l.initial.into;
  read : (c : Content) → Stands l.board c → take l.done l.into ≡ read_bytes_of c l.region l.at l.done;
}

abbrev pub decreases-loop-done : goal.decreases-loop-done
decreases-loop-done l = length l.initial.into - l.done
