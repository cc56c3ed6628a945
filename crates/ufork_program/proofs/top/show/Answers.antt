use Rattle.ufork_program.proofs.LeftLemmas.{shown_answered}
use Rattle.ufork_program.proofs.top.show.Goals as goal

pub returns : goal.returns
returns g c = shown_answered _ _ _ _ _ c.write_shown.ensures c.answered.ensures
