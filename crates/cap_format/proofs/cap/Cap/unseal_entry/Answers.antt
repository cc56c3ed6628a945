use Rattle.std.proofs.Common.{refl}
use Rattle.cap_format.specs.Sealing.{unseal_entry}
use Rattle.cap_format.proofs.cap.Cap.unseal_entry.Goals as goal

pub returns-clause-is : goal.returns-clause-is
unfolding unseal_entry
returns-clause-is c = rw c.with_kind.ensures.bits refl
