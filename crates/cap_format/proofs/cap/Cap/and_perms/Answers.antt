use Rattle.std.proofs.Common.{refl}
use Rattle.cap_format.specs.Sealing.{and_perms}
use Rattle.cap_format.proofs.cap.Cap.and_perms.Goals as goal

pub returns-clause-is : goal.returns-clause-is
unfolding and_perms
returns-clause-is c = rw (c.with_perms.ensures.bits, c.perms.ensures, c.is_tagged_plain.ensures) refl
