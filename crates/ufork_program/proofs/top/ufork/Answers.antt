use Rattle.ufork_program.proofs.HeadlineLemmas.{promises}
use Rattle.ufork_program.proofs.top.ufork.Goals as goal

pub returns : goal.returns
returns g c = promises _ c.read_and_write.ensures
