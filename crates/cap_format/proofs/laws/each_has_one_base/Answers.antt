use Rattle.cap_format.proofs.Bases.{base_of-is, base_of-only}
use Rattle.cap_format.proofs.laws.each_has_one_base.Goals as goal

pub returns : goal.returns
returns c = λ bits _. (base_of-is bits, base_of-only bits)
