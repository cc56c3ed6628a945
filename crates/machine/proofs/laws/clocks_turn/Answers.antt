use Rattle.machine.proofs.Turns.{clocks-turn}
use Rattle.machine.proofs.laws.clocks_turn.Goals as goal

pub returns : goal.returns
returns c = clocks-turn
