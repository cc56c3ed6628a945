use Rattle.riscv_decode.proofs.RoundTrips.{go_round}
use Rattle.riscv_decode.proofs.laws.words_go_round.Goals as goal

pub returns : goal.returns
returns c = go_round
