use Rattle.int_step.proofs.Sizes.{reg_value-below, reg_value-extended, reg_value-of_low}
use Rattle.int_step.proofs.laws.values_fit.Goals as goal

pub returns : goal.returns
returns c = record { below = reg_value-below; words = reg_value-extended; low = reg_value-of_low }
