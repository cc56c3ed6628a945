use Rattle.std.proofs.Common.{◌≡◌, map, take, drop, ◌++◌, length}
use Rattle.pipe_files.specs.Counts.{swept_pipe}
use Rattle.pipe_files.proofs.pipes.sweep.Given as goal

-- the pipes that the loop came to are swept, and the others as they were
abbrev pub invariant-loop-k : goal.invariant-loop-k
invariant-loop-k l = record {
  mapped : l.pipes.items ≡ map swept_pipe (take l.k l.initial.pipes.items) ++ drop l.k l.initial.pipes.items;
  long : length l.pipes.items ≡ length l.initial.pipes.items;
}
