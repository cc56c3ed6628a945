use Rattle.cap_format.proofs.RoundedLengths.{exact-length}
use Rattle.cap_format.proofs.laws.rounded_lengths_are_exact.Goals as goal

pub returns : goal.returns
returns c = exact-length
