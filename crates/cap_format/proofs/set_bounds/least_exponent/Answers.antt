use Rattle.std.proofs.Common.{refl, sym, arith}
use Rattle.cap_format.proofs.Exponents.{place-of, place-enough, place-short}
use Rattle.cap_format.proofs.set_bounds.least_exponent.Goals as goal

pub overflow_sub-exponent : goal.overflow_sub-exponent
overflow_sub-exponent c =
    let (place, count, least, most) = place-of c.args.size c.requires (omega arith) in
    omega arith

pub returns-then-length-exponent-clause-is : goal.returns-then-length-exponent-clause-is
returns-then-length-exponent-clause-is c =
    sym (place-enough _ c.args.address c.args.size _ _ c.requires (omega arith) refl c.low_end.ensures.is c.high_end.ensures.is c.if-length-exponent.true)

pub returns-else-length-exponent-clause-is : goal.returns-else-length-exponent-clause-is
returns-else-length-exponent-clause-is c =
    sym (place-short _ c.args.address c.args.size _ _ c.requires (omega arith) refl c.low_end.ensures.is c.high_end.ensures.is c.if-length-exponent.false)
