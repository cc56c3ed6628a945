use Rattle.cap_format.proofs.Holding.{holding-none, none-holding, holding-behind, failing-first}
use Rattle.cap_format.proofs.laws.first_faults_decide.Goals as goal

pub returns : goal.returns
returns c = record { none = holding-none; all = none-holding; behind = holding-behind; first = failing-first }
