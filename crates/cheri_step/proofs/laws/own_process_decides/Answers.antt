use Rattle.cheri_step.proofs.AlikeEffects.{effect-alike}
use Rattle.cheri_step.proofs.laws.own_process_decides.Goals as goal

pub returns : goal.returns
returns c = effect-alike
