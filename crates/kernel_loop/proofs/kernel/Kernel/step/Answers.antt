use Rattle.kernel_loop.proofs.Sure.{may-step, stays-sound}
use Rattle.kernel_loop.proofs.kernel.Kernel.step.Goals as goal

pub step-requires : goal.step-requires
step-requires g c = record { can = may-step g.S.Stores.stands_for c.args.self.now.core c.args.self.now.sound c.requires.early c.requires.running }

pub invariant_of-self : goal.invariant_of-self
invariant_of-self g c = record {
  sound = stays-sound g.S.Stores.stands_for c.args.self.now.core c.args.self.now.sound c.requires.early c.step.new.self
      c.machines_stay_machines.ensures c.steps_stay_good.ensures c.cuts_agree.ensures c.step.ensures.next c.step.ensures.kept;
}
