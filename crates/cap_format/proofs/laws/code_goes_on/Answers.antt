use Rattle.cap_format.proofs.CodeRules.{code-next, inside-next}
use Rattle.cap_format.proofs.laws.code_goes_on.Goals as goal

pub returns : goal.returns
returns c = λ cap region _ some code inside held. (code-next cap region some code inside held, inside-next cap region some code inside held)
