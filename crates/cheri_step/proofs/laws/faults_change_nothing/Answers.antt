use Rattle.cheri_step.proofs.LeftByFaults.{effect-settled, effect-left, call-bound}
use Rattle.cheri_step.proofs.Calls.{call-word}
use Rattle.cheri_step.proofs.laws.faults_change_nothing.Goals as goal

pub returns : goal.returns
returns c = record {
  faults = λ s region cause e. effect-left s region (λ next. absurd (cc));
  settled = λ s region cause e. (effect-settled s region (λ next. absurd (cc))).content;
  calls = λ s region e. effect-left s region (λ next. absurd (cc));
  called = λ s region e. (effect-settled s region (λ next. absurd (cc))).content;
  word = call-word c.words_go_round.ensures;
  bounds = call-bound;
}
