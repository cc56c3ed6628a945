use Rattle.ufork_program.proofs.RunLemmas.{runs-end}
use Rattle.ufork_program.proofs.laws.runs_end_at_the_least.Goals as goal

pub returns : goal.returns
returns c = runs-end
