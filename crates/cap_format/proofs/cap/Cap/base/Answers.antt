use Rattle.std.proofs.Common.{◌∙◌, refl, sym, subst, rules}
use Rattle.std.specs.Int.RustNames.{FitsSigned}
use mir.Syntax.{w128}
use Rattle.std.proofs.lemmas.Int.{to_z-of_z}
use Rattle.cap_format.specs.Pattern.{base_of, IsBase}
use Rattle.cap_format.proofs.Bases.{base_of-is}
use Rattle.cap_format.proofs.cap.Cap.base.Goals as goal

pub returns-clause-base : goal.returns-clause-base
unfolding base_of
returns-clause-base c =
    let fits : FitsSigned w128 c.corrected_base.result = search rules in
    to_z-of_z w128 c.corrected_base.result fits ∙ c.corrected_base.ensures
    ∙ rw (c.address.ensures, c.exponent.ensures.exponent, c.bottom_mantissa.ensures.bottom) refl

pub returns-clause-is : goal.returns-clause-is
returns-clause-is c = subst (λ z. IsBase c.args.self.bits z) (sym (returns-clause-base c)) (base_of-is c.args.self.bits)
