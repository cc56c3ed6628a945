use Rattle.std.proofs.Common.{arith}
use Rattle.cap_format.proofs.Exponents.{exponent-least}
use Rattle.cap_format.proofs.laws.each_has_least_exponent.Goals as goal

pub returns : goal.returns
returns c = λ address size _ some small. exponent-least address size some (omega arith)
