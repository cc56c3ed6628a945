use Rattle.std.proofs.Common.{refl}
use Rattle.ufork_program.proofs.ListingLemmas.{listed-none, listed-count, listed-word}
use Rattle.ufork_program.proofs.laws.listings_are_exact.Goals as goal

pub returns : goal.returns
returns c = record {
  none = listed-none;
  count = listed-count;
  word = listed-word;
  order = λ file. refl;
}
