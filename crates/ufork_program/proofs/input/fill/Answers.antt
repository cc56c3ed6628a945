use Rattle.std.proofs.Common.{arith}
use Rattle.std.proofs.lemmas.Grind.{common_steps}
use Rattle.ufork_program.proofs.InputLemmas.{took_more}
use Rattle.ufork_program.proofs.input.fill.Goals as goal

pub loop-filled-preserved : goal.loop-filled-preserved
loop-filled-preserved g c = record {
  within = grind (arith, common_steps);
  took = took_more _ _ _ _ _ _ _ _ c.loop-filled.invariant.within c.in_ok-count.ensures.bound.0 c.loop-filled.invariant.took c.in_ok-count.ensures.bytes.0;
  kept = cc (c.in_ok-count.ensures.cause.kept);
}
