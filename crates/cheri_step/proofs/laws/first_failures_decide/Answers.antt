use Rattle.cheri_step.proofs.PassedTests.{passing-all, all-passing, first-fails, fails-first}
use Rattle.cheri_step.proofs.laws.first_failures_decide.Goals as goal

pub returns : goal.returns
returns c = record {
  cause = λ tests cause. (first-fails tests cause, fails-first tests cause);
  none = λ tests. (passing-all tests, all-passing tests);
}
