use Rattle.kernel_loop.proofs.Picking.{printed-long}
use Rattle.kernel_loop.proofs.stepping.Core.printed.Goals as goal

pub slice_bounds-result-end : goal.slice_bounds-result-end
slice_bounds-result-end g c = printed-long g.S.Stores.stands_for c.args.self.now c.requires c.deref.result.now c.deref.ensures.value
