use Rattle.kernel_loop.proofs.Picking.{core-kept}
use Rattle.kernel_loop.proofs.kernel.Kernel.world.Goals as goal

pub returns-clause-kept : goal.returns-clause-kept
returns-clause-kept g c = core-kept g.S.Stores.stands_for c.args.self.now.core c.args.self.now.sound
