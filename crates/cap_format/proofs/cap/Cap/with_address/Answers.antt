use Rattle.std.proofs.Common.{◌≡◌, ◌==◌, ◌&&◌, false, ap, sym, ◌∙◌, arith}
use Rattle.std.specs.Ordering.{int_eq}
use Rattle.cap_format.specs.Pattern.{kind_of, base_of, top_of, with_address_bits}
use Rattle.cap_format.proofs.Bases.{within-base, within-top}
use Rattle.cap_format.proofs.Moves.{same-bounds, plain-decided, untagged-stays, sealed-dropped, with_address-from}
use Rattle.cap_format.proofs.cap.Cap.with_address.Goals as goal
use Rattle.cap_format.proofs.cap.Cap.with_address.Goals.{then-self, else-self}

pub returns-then-kind-eq0-clause-is : goal.returns-then-kind-eq0-clause-is
returns-then-kind-eq0-clause-is c =
    let moved : c.joined.result ≡ with_address_bits c.args.self.bits c.args.a = omega arith in
    let bounds = same-bounds c.has_bounds_of.result _ _ _ _ c.has_bounds_of.ensures in
    let decided : (c.args.self.tag && (kind_of c.args.self.bits == 0) && int_eq (base_of c.joined.result) (base_of c.args.self.bits) && int_eq (top_of c.joined.result) (top_of c.args.self.bits)) ≡ (int_eq (base_of c.joined.result) (base_of c.args.self.bits) && int_eq (top_of c.joined.result) (top_of c.args.self.bits)) = elim c.if-self.branch [
      | then-self w ↦ plain-decided c.args.self.tag (kind_of c.args.self.bits == 0) (int_eq (base_of c.joined.result) (base_of c.args.self.bits)) (int_eq (top_of c.joined.result) (top_of c.args.self.bits)) w.if-self.true (ap (λ k. k == 0) (sym w.kind.ensures.kind) ∙ sym w.value-is ∙ c.if-kind-eq0.true)
      | else-self w ↦ cc
    ] in
    with_address-from c.args.self c.args.a c.joined.result c.has_bounds_of.result moved (bounds ∙ sym decided)

pub returns-else-kind-eq0-clause-is : goal.returns-else-kind-eq0-clause-is
returns-else-kind-eq0-clause-is c =
    let moved : c.joined.result ≡ with_address_bits c.args.self.bits c.args.a = omega arith in
    let dropped : (c.args.self.tag && (kind_of c.args.self.bits == 0) && int_eq (base_of c.joined.result) (base_of c.args.self.bits) && int_eq (top_of c.joined.result) (top_of c.args.self.bits)) ≡ false = elim c.if-self.branch [
      | then-self w ↦ sealed-dropped c.args.self.tag (kind_of c.args.self.bits == 0) _ _ (ap (λ k. k == 0) (sym w.kind.ensures.kind) ∙ sym w.value-is ∙ c.if-kind-eq0.false)
      | else-self w ↦ untagged-stays c.args.self.tag _ _ _ w.if-self.false
    ] in
    with_address-from c.args.self c.args.a c.joined.result c.if-self.value moved (c.if-kind-eq0.false ∙ sym dropped)

pub returns-then-kind-eq0-clause-within : goal.returns-then-kind-eq0-clause-within
returns-then-kind-eq0-clause-within c tagged plain from to =
    let moved : c.joined.result ≡ with_address_bits c.args.self.bits c.args.a = omega arith in
    c.has_bounds_of.ensures.1 (ap base_of moved ∙ within-base c.args.self.bits c.args.a (omega arith) from to, ap top_of moved ∙ within-top c.args.self.bits c.args.a (omega arith) from to)
