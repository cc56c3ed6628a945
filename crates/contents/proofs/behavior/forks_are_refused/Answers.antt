use Rattle.contents.proofs.ChildPages.{refused-within}
use Rattle.contents.proofs.ForkLemmas.{fork-shares}
use Rattle.contents.proofs.behavior.forks_are_refused.Goals as goal

pub returns : goal.returns
returns c = record {
  full = λ c from to whole full. refused-within c from to whole.used full;
  else = λ c from to other. (fork-shares c from to other).0;
}
