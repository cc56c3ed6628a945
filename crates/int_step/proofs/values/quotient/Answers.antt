use Rattle.std.proofs.Common.{w64}
use Rattle.int_step.proofs.Quotients.{quotient-code}
use Rattle.int_step.proofs.values.quotient.Goals as goal

pub returns : goal.returns
returns c = quotient-code w64 c.args.a c.args.b c.ranges.a.fits c.ranges.b.fits c.if-b-eq0.false _ _ _ _ c.cast_signed.ensures c.cast_signed-2.ensures c.wrapping_div.ensures c.cast_unsigned.ensures
