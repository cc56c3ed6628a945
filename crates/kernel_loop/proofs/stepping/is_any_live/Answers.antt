use Rattle.std.proofs.Common.{sym, arith}
use Rattle.kernel_loop.proofs.Living.{none-live}
use Rattle.kernel_loop.proofs.stepping.is_any_live.Goals as goal

pub returns : goal.returns
returns c = sym (none-live c.args.processes.now.processes (λ slot low. c.loop-slot.invariant slot (omega (arith, low, c.loop-slot-test.false, c.slots-slot-end.ensures))))
