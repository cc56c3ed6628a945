use Rattle.cheri_step.proofs.SameEffects.{effect-same}
use Rattle.cheri_step.proofs.laws.rules_agree_on_effects.Goals as goal

pub returns : goal.returns
returns c = effect-same
