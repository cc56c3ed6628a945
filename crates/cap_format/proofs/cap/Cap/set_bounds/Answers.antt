use Rattle.std.proofs.Common.{◌≡◌, refl, ap, sym, ◌∙◌, arith}
use Rattle.std.proofs.lemmas.Grind.{common_steps}
use Rattle.cap_format.specs.Pattern.{base_of, top_of}
use Rattle.cap_format.specs.SetBounds.{set_bounds, bounded}
use Rattle.cap_format.proofs.NewBases.{bounds-short, new-base, new-top}
use Rattle.cap_format.proofs.Within.{tagged-within}
use Rattle.cap_format.proofs.cap.Cap.set_bounds.Goals as goal

pub with_bounds-requires : goal.with_bounds-requires
with_bounds-requires c = rw c.new_bounds-bounds.ensures.bits (bounds-short c.address-address.result c.args.n (omega arith))

pub returns-clause-is : goal.returns-clause-is
unfolding set_bounds
returns-clause-is c = rw (c.with_bounds.ensures, c.new_bounds-bounds.ensures.bits, c.may_have_bounds.ensures, c.are_just.ensures, c.new_bounds-bounds.ensures.base, c.new_bounds-bounds.ensures.top, c.address-address.ensures) refl

pub returns-clause-base : goal.returns-clause-base
returns-clause-base c =
    let bits : c.with_bounds.result ≡ bounded c.args.self.bits c.args.n = rw (c.with_bounds.ensures, c.new_bounds-bounds.ensures.bits, c.address-address.ensures) refl in
    ap base_of bits ∙ new-base c.args.self.bits c.args.n (omega arith)

pub returns-clause-top : goal.returns-clause-top
returns-clause-top c =
    let bits : c.with_bounds.result ≡ bounded c.args.self.bits c.args.n = rw (c.with_bounds.ensures, c.new_bounds-bounds.ensures.bits, c.address-address.ensures) refl in
    ap top_of bits ∙ new-top c.args.self.bits c.args.n (omega arith)

pub returns-clause-exact : goal.returns-clause-exact
returns-clause-exact c =
    let base = returns-clause-base c in
    let top = returns-clause-top c in
    grind (arith, common_steps)

pub returns-clause-within : goal.returns-clause-within
returns-clause-within c tagged =
    let within = tagged-within _ _ c.args.self.bits c.address-address.result c.args.n (omega arith) (sym c.may_have_bounds.ensures ∙ tagged) in
    rw (returns-clause-base c, returns-clause-top c) (rw c.address-address.ensures at within)
