use Rattle.machine.proofs.Untouched.{effects-untouched}
use Rattle.machine.proofs.laws.effects_leave_others.Goals as goal

pub returns : goal.returns
returns c = effects-untouched
