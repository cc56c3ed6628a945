use Rattle.int_step.proofs.Divisions.{divisions-exact}
use Rattle.int_step.proofs.laws.divisions_are_exact.Goals as goal

pub returns : goal.returns
returns c = divisions-exact
