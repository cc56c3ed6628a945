use Rattle.machine.proofs.ScansNext.{done-is, stuck-is, running-is, ready-lives}
use Rattle.machine.proofs.laws.outcomes_are_exact.Goals as goal

pub returns : goal.returns
returns c = record { done = done-is; stuck = stuck-is; running = running-is; live = ready-lives }
