use Rattle.std.proofs.Common.{◌≤◌, vec_capacity}
use Rattle.pipe_files.specs.Made.{AreMade}
use Rattle.pipe_files.proofs.pipes.make_pipes.Given as goal

-- those of the numbers below are made, and there is room for all
abbrev pub invariant-loop-number : goal.invariant-loop-number
invariant-loop-number l = record {
  made : AreMade l.initial.descriptions l.descriptions l.number l.pipes.items;
  room : 16 ≤ vec_capacity l.pipes;
}
