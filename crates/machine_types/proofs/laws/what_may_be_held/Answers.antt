use Rattle.std.proofs.lemmas.Bool.{false≢true}
use Rattle.machine_types.proofs.HeldRoots.{root-held}
use Rattle.machine_types.proofs.laws.what_may_be_held.Goals as goal

pub returns : goal.returns
returns c = record {
  untagged = λ region bits fits. record { pattern = fits; inside = λ tagged. absurd (false≢true tagged) };
  root = root-held;
  inside = λ region cap held tagged. held.inside tagged;
}
