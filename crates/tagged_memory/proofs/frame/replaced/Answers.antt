use Rattle.tagged_memory.proofs.Words.{joined_is}
use Rattle.tagged_memory.proofs.frame.replaced.Goals as goal

pub returns : goal.returns
returns c = rw (c.low_bits.ensures.low, c.low_bits-2.ensures.low, c.from.ensures) (joined_is c.args.n c.args.low c.args.width c.args.bits c.ranges.n.fits c.requires.low)
