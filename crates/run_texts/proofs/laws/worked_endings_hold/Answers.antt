use Rattle.std.proofs.Common.{refl}
use Rattle.std.specs.Fmt.{digits}
use Rattle.run_texts.proofs.laws.worked_endings_hold.Goals as goal

pub returns : goal.returns
unfolding digits
returns c = record {
  killed = refl;
  left = refl;
  plain = refl;
  answered = refl;
  waits = refl;
  forked = refl;
  done = refl;
  stopped = refl;
  stuck = refl;
}
