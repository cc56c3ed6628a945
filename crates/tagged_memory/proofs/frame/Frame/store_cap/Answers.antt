use Rattle.std.proofs.Common.{ap, ◌∙◌, slice_set, arith}
use Rattle.tagged_memory.proofs.Framing.{IsFrame-zipped}
use Rattle.tagged_memory.proofs.Zips.{zipped-set}
use Rattle.tagged_memory.proofs.frame.Frame.store_cap.Goals as goal

pub returns-clause-is : goal.returns-clause-is
returns-clause-is c =
    zipped-set c.self.inside.words c.self.inside.tags c.args.g c.args.c
    ∙ ap (λ granules. slice_set granules c.args.g c.args.c) c.self.view_is

pub returns-clause-whole : goal.returns-clause-whole
returns-clause-whole c = IsFrame-zipped c.self.inside.words c.self.inside.tags c.args.g c.args.c c.self.invariant (omega arith)

pub invariant_of-self : goal.invariant_of-self
invariant_of-self c = IsFrame-zipped c.self.inside.words c.self.inside.tags c.args.g c.args.c c.self.invariant (omega arith)
