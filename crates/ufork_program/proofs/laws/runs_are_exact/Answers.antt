use Rattle.ufork_program.proofs.RunsExact.{runs-exact}
use Rattle.ufork_program.proofs.laws.runs_are_exact.Goals as goal

pub returns : goal.returns
returns c = runs-exact c.runs_are_sound.ensures c.dispatches_are_next.ensures c.runs_end.ensures c.runs_end_at_the_least.ensures
