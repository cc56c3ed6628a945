use Rattle.machine_steps.proofs.KeptParts.{machine-after}
use Rattle.machine_steps.proofs.laws.machines_stay_machines.Goals as goal

pub returns : goal.returns
returns c = λ m may. machine-after c.cuts_agree.ensures c.steps_stay_good.ensures m may
