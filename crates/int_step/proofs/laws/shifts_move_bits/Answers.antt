use Rattle.int_step.proofs.Shifts.{shifts-move}
use Rattle.int_step.proofs.laws.shifts_move_bits.Goals as goal

pub returns : goal.returns
returns c = shifts-move
