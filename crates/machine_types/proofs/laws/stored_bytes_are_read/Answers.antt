use Rattle.std.proofs.Common.{length, arith}
use Rattle.machine_types.proofs.NumberBytes.{byte-apart}
use Rattle.machine_types.proofs.StoredBytes.{length-with_bytes, with_bytes-append, granule-with_bytes_other, is_tagged-with_bytes_same, number_at-with_bytes_other, bytes_at-with_bytes, ArePatterns-with_bytes}
use Rattle.machine_types.proofs.laws.stored_bytes_are_read.Goals as goal

pub returns : goal.returns
returns c = record {
  back = bytes_at-with_bytes;
  bytes = λ granules at bytes k within apart. number_at-with_bytes_other granules at bytes k 1 (omega arith) (byte-apart at (length bytes) k apart);
  tags = is_tagged-with_bytes_same;
  others = granule-with_bytes_other;
  same_length = length-with_bytes;
  patterns = λ granules at bytes within. ArePatterns-with_bytes granules at bytes;
  split = with_bytes-append;
}
