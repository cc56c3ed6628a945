use Rattle.tagged_memory.proofs.Framing.{IsFrame-replicate}
use Rattle.tagged_memory.proofs.frame.Frame.clear.Goals as goal

pub invariant_of-self : goal.invariant_of-self
invariant_of-self c = IsFrame-replicate

pub returns-clause-whole : goal.returns-clause-whole
returns-clause-whole c = IsFrame-replicate
