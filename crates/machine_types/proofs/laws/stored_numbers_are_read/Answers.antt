use Rattle.std.proofs.Common.{arith}
use Rattle.machine_types.proofs.NumberBits.{with_bits-fits}
use Rattle.machine_types.proofs.NumberBytes.{place-within, byte-apart}
use Rattle.machine_types.proofs.StoredNumbers.{length-with_number, granule-with_number_other, is_tagged-with_number_same, number_at-with_number_same, number_at-with_number_other, ArePatterns-with_number}
use Rattle.machine_types.proofs.laws.stored_numbers_are_read.Goals as goal

pub returns : goal.returns
returns c = record {
  back = number_at-with_number_same;
  bytes = λ granules at size v k place apart. number_at-with_number_other granules at size v k 1 (place-within granules at size place) (omega arith) (byte-apart at size k apart);
  tag = is_tagged-with_number_same;
  others = granule-with_number_other;
  same_length = length-with_number;
  bits = λ n low width v within fits. with_bits-fits n low width v 128 within fits;
  patterns = λ granules at size v place. ArePatterns-with_number granules at size v (place-within granules at size place);
}
