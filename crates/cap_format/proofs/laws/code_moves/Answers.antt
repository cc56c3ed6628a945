use Rattle.cap_format.proofs.CodeRules.{code-moves}
use Rattle.cap_format.proofs.laws.code_moves.Goals as goal

pub returns : goal.returns
returns c = code-moves
