use Rattle.tagged_memory.proofs.Words.{masked}
use Rattle.tagged_memory.proofs.frame.low_bits.Goals as goal

pub returns-clause-low : goal.returns-clause-low
returns-clause-low c = masked c.args.n c.args.width c.requires
