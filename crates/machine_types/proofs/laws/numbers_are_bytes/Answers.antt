use Rattle.std.proofs.Common.{refl}
use Rattle.machine_types.proofs.NumberBytes.{place-within, number_at-bytes_at, length-bytes_at, get_or-bytes_at, bytes_at-add, sizes-are-powers}
use Rattle.machine_types.proofs.laws.numbers_are_bytes.Goals as goal

pub returns : goal.returns
returns c = record {
  sizes = sizes-are-powers;
  byte = λ granules at. refl;
  number = λ granules at size place. number_at-bytes_at granules at size (place-within granules at size place);
  count = length-bytes_at;
  each = get_or-bytes_at;
  split = bytes_at-add;
}
