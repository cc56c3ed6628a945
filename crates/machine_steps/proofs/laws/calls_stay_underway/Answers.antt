use Rattle.machine_steps.proofs.KeptParts.{sound-after}
use Rattle.machine_steps.proofs.laws.calls_stay_underway.Goals as goal

pub returns : goal.returns
returns c = λ m may. (sound-after c.cuts_agree.ensures c.steps_stay_good.ensures m may).calls
