use Rattle.machine_steps.proofs.FullSteps.{full-lacks}
use Rattle.machine_steps.proofs.laws.full_never_lacks.Goals as goal

pub returns : goal.returns
returns c = full-lacks c.full_lacks_at_forks.ensures c.frames_are_lacked.ensures c.faults_change_nothing.ensures
