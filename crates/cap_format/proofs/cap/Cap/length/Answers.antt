use Rattle.std.proofs.Common.{◌^◌, ◌<◌, ◌∙◌, refl, arith}
use Rattle.std.proofs.lemmas.Nat.{shl_whole}
use Rattle.cap_format.specs.Pattern.{length_of}
use Rattle.cap_format.proofs.cap.Cap.length.Goals as goal

pub returns-clause-length : goal.returns-clause-length
unfolding length_of
returns-clause-length c =
    let mantissa : c.from.result < 2 ^ 13 = omega arith in
    shl_whole c.from.result 13 c.exponent.result 128 mantissa (omega arith)
    ∙ rw (c.from.ensures, c.length_mantissa.ensures.length, c.exponent.ensures.exponent) refl
