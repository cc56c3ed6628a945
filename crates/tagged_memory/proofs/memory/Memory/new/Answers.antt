use Rattle.std.proofs.Common.{arith}
use Rattle.std.proofs.lemmas.Grind.{common_steps}
use Rattle.std.proofs.lemmas.List.{replicate_more}
use Rattle.tagged_memory.proofs.Framing.{IsFrame-replicate, AreFrames-replicate}
use Rattle.tagged_memory.proofs.memory.Memory.new.Goals as goal

pub loop-preserved : goal.loop-preserved
loop-preserved c = grind (arith, common_steps, replicate_more)

pub invariant_of-result : goal.invariant_of-result
invariant_of-result c = rw c.loop.invariant.0 (AreFrames-replicate _ _ IsFrame-replicate, grind (arith, common_steps))

pub returns-clause-whole : goal.returns-clause-whole
returns-clause-whole c = rw c.loop.invariant.0 (AreFrames-replicate _ _ IsFrame-replicate)
