use Rattle.riscv_decode.proofs.RoundTrips.{row_is_decoded}
use Rattle.riscv_decode.proofs.laws.each_row_is_decoded.Goals as goal

pub returns : goal.returns
returns c = row_is_decoded
