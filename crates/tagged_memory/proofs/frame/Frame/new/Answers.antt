use Rattle.tagged_memory.proofs.Framing.{IsFrame-replicate}
use Rattle.tagged_memory.proofs.frame.Frame.new.Goals as goal

pub invariant_of-result : goal.invariant_of-result
invariant_of-result c = IsFrame-replicate
