use Rattle.machine_steps.proofs.AgreeingSteps.{step-agree}
use Rattle.machine_steps.proofs.laws.rules_agree_on_steps.Goals as goal

pub returns : goal.returns
returns c = step-agree c.rules_agree.ensures c.rules_agree_on_calls.ensures c.rules_agree_on_effects.ensures
