use Rattle.machine_types.proofs.RightBits.{is_allowed-Read, is_allowed-Write, is_allowed-Fetch}
use Rattle.machine_types.proofs.laws.rights_are_bits.Goals as goal

pub returns : goal.returns
returns c = record {
  read = λ rights small. is_allowed-Read rights;
  write = λ rights small. is_allowed-Write rights;
  fetch = λ rights small. is_allowed-Fetch rights;
}
