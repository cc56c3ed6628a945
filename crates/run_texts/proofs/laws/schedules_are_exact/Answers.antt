use Rattle.std.proofs.Common.{refl}
use Rattle.run_texts.proofs.laws.schedules_are_exact.Goals as goal

pub returns : goal.returns
returns c = record {
  is = λ text. refl;
  quantum = λ quantum repeats within. within;
  refused = λ schedule n is. is;
}
