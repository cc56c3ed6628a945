use Rattle.std.proofs.Common.{◌≡◌, ◌++◌, List, ℕ, length}
use Rattle.std.specs.Io.KnownBytes.{Appends}
use Rattle.outside_io.proofs.standard.write_through.Given as goal

-- the front of the piece is written, and the rest of it is left
abbrev pub invariant-loop-rest : goal.invariant-loop-rest
invariant-loop-rest g l = record {
  done : List ℕ;
  list : l.piece ≡ done ++ l.rest;
  written : Appends (g.W.Write.contents l.fn.writer) (g.W.Write.contents l.writer) done;
}

abbrev pub decreases-loop-rest : goal.decreases-loop-rest
decreases-loop-rest g l = length l.rest
