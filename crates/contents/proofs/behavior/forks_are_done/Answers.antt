use Rattle.contents.proofs.KeptAccounts.{fork-done}
use Rattle.contents.proofs.behavior.forks_are_done.Goals as goal

pub returns : goal.returns
returns c = fork-done
