use Rattle.contents.proofs.ForkLemmas.{fork-child, fork-shares, fork-refused, fork-copies}
use Rattle.contents.proofs.laws.fork_copies_the_store.Goals as goal

pub returns : goal.returns
returns c = record { child = fork-child; shares = fork-shares; refused = fork-refused; copies = fork-copies }
