use Rattle.std.proofs.Common.{ap, ◌∙◌, arith}
use Rattle.cap_format.specs.Pattern.{base_of, top_of}
use Rattle.cap_format.proofs.Sealed.{kind-joined, kind-base, kind-top}
use Rattle.cap_format.proofs.cap.Cap.with_kind.Goals as goal

pub returns-clause-bits : goal.returns-clause-bits
returns-clause-bits c = rw c.from.ensures (kind-joined c.args.self.bits c.args.kind (omega arith) c.requires)

pub returns-clause-base : goal.returns-clause-base
returns-clause-base c = ap base_of (returns-clause-bits c) ∙ kind-base c.args.self.bits c.args.kind

pub returns-clause-top : goal.returns-clause-top
returns-clause-top c = ap top_of (returns-clause-bits c) ∙ kind-top c.args.self.bits c.args.kind
