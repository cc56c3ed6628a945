use Rattle.machine_steps.proofs.KeptParts.{sound-after}
use Rattle.machine_steps.proofs.laws.numbers_stay_in_range.Goals as goal

pub returns : goal.returns
returns c = λ m may. (sound-after c.cuts_agree.ensures c.steps_stay_good.ensures m may).range
