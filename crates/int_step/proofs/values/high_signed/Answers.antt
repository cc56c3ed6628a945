use Rattle.int_step.proofs.HighHalves.{high-code}
use Rattle.int_step.proofs.values.high_signed.Goals as goal

pub returns : goal.returns
returns c = high-code c.args.a c.args.b _ _ _ _ _ c.ranges.a.fits c.ranges.b.fits c.cast_signed.ensures c.cast_signed-2.ensures c.from.ensures c.from-2.ensures c.cast_unsigned.ensures
