use Rattle.std.proofs.Common.{◌-◌}
use Rattle.outside_io.specs.Parts.{console}
use Rattle.machine.specs.Machines.{Machine}
use Rattle.kernel_loop.specs.Kernels.{KernelStands, steps_of}
use Rattle.ufork_program.proofs.RunLemmas.{IsOnItsWay}
use Rattle.ufork_program.proofs.run.make_steps.Given as goal

-- Each machine for which the kernel stood has come to one for which it stands now, and which makes the rest of the run.
abbrev pub invariant-loop-kernel : goal.invariant-loop-kernel
invariant-loop-kernel g l = (m : Machine) → KernelStands g.S.Stores.stands_for l.fn.kernel m
    → IsOnItsWay g.S.Stores.stands_for l.show l.kernel m (l.limit - steps_of l.fn.kernel) (l.limit - steps_of l.kernel)
    (console (g.O.Sink.state l.fn.out) (g.E.Sink.state l.fn.err)) (console (g.O.Sink.state l.out) (g.E.Sink.state l.err))

abbrev pub decreases-loop-kernel : goal.decreases-loop-kernel
decreases-loop-kernel g l = l.limit - steps_of l.kernel
