use Rattle.std.proofs.Common.{sym}
use Rattle.trap_syscalls.proofs.forks.child_at.Goals as goal

pub child_of-requires-clause-may : goal.child_of-requires-clause-may
child_of-requires-clause-may c = c.requires.file c.in-Some.p.now (sym c.in-Some.ensures)
