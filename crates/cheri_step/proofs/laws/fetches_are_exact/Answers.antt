use Rattle.machine_types.specs.declared.cause.Cause.TheVariants.{CodeBounds, CodePage, NoFrame}
use Rattle.cheri_step.proofs.Unfetched.{effect-unfetched, code-outside, code-lacked, code-lacks-frame, word-none}
use Rattle.cheri_step.proofs.laws.fetches_are_exact.Goals as goal

pub returns : goal.returns
returns c = record {
  bounds = λ s region outside. effect-unfetched s region CodeBounds (code-outside s region outside);
  page = λ s region lacks. effect-unfetched s region CodePage (code-lacked s region lacks);
  frame = λ s region lacks. effect-unfetched s region NoFrame (code-lacks-frame s region lacks);
  none = word-none;
}
