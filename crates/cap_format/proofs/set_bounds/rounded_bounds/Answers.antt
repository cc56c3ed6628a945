use Rattle.std.proofs.Common.{refl, ◌∙◌}
use Rattle.cap_format.proofs.Ends.{base-rounded, top-rounded, bits-rounded}
use Rattle.cap_format.proofs.set_bounds.rounded_bounds.Goals as goal

pub returns-clause-base : goal.returns-clause-base
returns-clause-base c = c.low_end-base.ensures.is ∙ rw (c.least_exponent-exponent.ensures.is, base-rounded c.args.address c.args.size c.requires) refl

pub returns-clause-top : goal.returns-clause-top
returns-clause-top c = c.high_end-top.ensures.is ∙ rw (c.least_exponent-exponent.ensures.is, top-rounded c.args.address c.args.size c.requires) refl

pub returns-clause-bits : goal.returns-clause-bits
returns-clause-bits c = c.internal_bits.ensures ∙ rw (bits-rounded c.args.address c.args.size c.requires, c.high_end-top.ensures.is, c.low_end-base.ensures.is, c.least_exponent-exponent.ensures.is) refl
