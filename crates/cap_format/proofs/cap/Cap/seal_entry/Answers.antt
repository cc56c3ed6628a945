use Rattle.std.proofs.Common.{refl}
use Rattle.cap_format.specs.Sealing.{seal_entry}
use Rattle.cap_format.proofs.cap.Cap.seal_entry.Goals as goal

pub returns-clause-is : goal.returns-clause-is
unfolding seal_entry
returns-clause-is c = rw (c.with_kind.ensures.bits, c.may_be_entry.ensures) refl
