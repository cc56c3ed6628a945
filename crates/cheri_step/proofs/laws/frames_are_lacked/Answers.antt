use Rattle.cheri_step.proofs.Lacks.{effect-lacks, effect-lacking, effect-full}
use Rattle.cheri_step.proofs.laws.frames_are_lacked.Goals as goal

pub returns : goal.returns
returns c = record { lacked = λ s region. (effect-lacks s region, effect-lacking s region); full = effect-full }
