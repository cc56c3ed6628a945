use Rattle.std.proofs.Common.{refl, sym, ◌∙◌, arith}
use Rattle.cap_format.proofs.Ends.{base-plain, top-plain, bits-plain}
use Rattle.cap_format.proofs.set_bounds.exact_bounds.Goals as goal

pub returns-clause-base : goal.returns-clause-base
returns-clause-base c = c.from-base.ensures ∙ sym (base-plain c.args.address c.args.size c.requires)

pub returns-clause-top : goal.returns-clause-top
returns-clause-top c = rw (top-plain c.args.address c.args.size c.requires) (omega arith)

pub returns-clause-bits : goal.returns-clause-bits
returns-clause-bits c = c.plain_bits.ensures ∙ rw (bits-plain c.args.address c.args.size c.requires, c.from-base.ensures, c.from.ensures) refl
