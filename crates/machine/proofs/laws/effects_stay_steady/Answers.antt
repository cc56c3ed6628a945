use Rattle.machine.proofs.AppliedEffects.{effects-steady}
use Rattle.machine.proofs.laws.effects_stay_steady.Goals as goal

pub returns : goal.returns
returns c = effects-steady
