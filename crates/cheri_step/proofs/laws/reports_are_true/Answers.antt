use Rattle.cheri_step.proofs.Reports.{effect-reported, effect-silent, effect-made}
use Rattle.cheri_step.proofs.laws.reports_are_true.Goals as goal

pub returns : goal.returns
returns c = record { fetch = effect-reported; silent = effect-silent; access = effect-made }
