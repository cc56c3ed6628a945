use Rattle.std.proofs.Common.{arith}
use Rattle.cheri_step.proofs.Standing.{standing-is}
use Rattle.cheri_step.proofs.jumps.standing_at.Goals as goal

pub returns : goal.returns
returns c = standing-is c.args.cap c.args.address _ c.ranges.address.fits c.requires (omega arith)
