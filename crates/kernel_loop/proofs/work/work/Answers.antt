use Rattle.trap_syscalls.proofs.Callers.{caller-live}
use Rattle.kernel_loop.proofs.work.work.Goals as goal

pub seen_at-seen-requires : goal.seen_at-seen-requires
seen_at-seen-requires g c = caller-live g.S.Stores.stands_for c.args.world.now c.args.space.now c.args.slot c.requires.may
