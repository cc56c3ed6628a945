use Rattle.cheri_step.proofs.Running.{effect-runs, effect-holds, answered-runs}
use Rattle.cheri_step.proofs.laws.effects_keep_running.Goals as goal

pub returns : goal.returns
returns c = record { runs = effect-runs; store = effect-holds; answered = answered-runs }
