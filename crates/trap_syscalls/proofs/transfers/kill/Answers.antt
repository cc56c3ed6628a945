-- A kill is an end with the status of its cause.
use Rattle.std.proofs.Common.{refl, [], true, ◌∷◌}
use Rattle.trap_syscalls.proofs.transfers.kill.Goals as goal

pub returns-clause-called : goal.returns-clause-called
returns-clause-called g c = λ m p content of there. rw (← c.killed_by.ensures) (c.end.ensures.called m p content (c.args.lack.before ∷ []) true of there refl)
