use Rattle.std.proofs.Common.{ap, ◌∙◌, arith}
use Rattle.std.proofs.lemmas.Grind.{common_steps}
use Rattle.cap_format.specs.Pattern.{base_of, top_of}
use Rattle.cap_format.proofs.Sealed.{perms-base, perms-top}
use Rattle.cap_format.proofs.cap.Cap.with_perms.Goals as goal

pub returns-clause-bits : goal.returns-clause-bits
returns-clause-bits c = grind (arith, common_steps)

pub returns-clause-base : goal.returns-clause-base
returns-clause-base c = ap base_of (returns-clause-bits c) ∙ perms-base c.args.self.bits c.args.perms

pub returns-clause-top : goal.returns-clause-top
returns-clause-top c = ap top_of (returns-clause-bits c) ∙ perms-top c.args.self.bits c.args.perms
