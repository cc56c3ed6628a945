use Rattle.cheri_step.specs.Access.{access_cause}
use Rattle.cheri_step.proofs.Accesses.{caused-notes}
use Rattle.cheri_step.proofs.memory.access.Goals as goal

pub returns-in-Ok-clause-frames : goal.returns-in-Ok-clause-frames
returns-in-Ok-clause-frames g c = rw (c.by_cause.ensures, caused-notes access_cause c.perform.result) c.perform.ensures.frames
