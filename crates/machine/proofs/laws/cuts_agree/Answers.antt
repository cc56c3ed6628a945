use Rattle.machine.proofs.Cuts.{cuts-agree}
use Rattle.machine.proofs.laws.cuts_agree.Goals as goal

pub returns : goal.returns
returns c = cuts-agree
