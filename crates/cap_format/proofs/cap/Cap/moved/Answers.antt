use Rattle.std.proofs.Common.{◌≡◌, ℕ, true, refl, sym, subst, ap, ◌∙◌, ◌*◌, ◌+◌, ◌^◌, rules}
use Rattle.cap_format.specs.declared.cap.Cap.{Cap}
use Rattle.cap_format.specs.Region.{IsInside}
use Rattle.cap_format.specs.Moves.{moved, moved_bits, distance, IsMove}
use Rattle.cap_format.proofs.RegionMoves.{inside-fields, inside-moved}
use Rattle.cap_format.proofs.cap.Cap.moved.Goals as goal

-- what is joined of the fields is the move
bits-are : (c : goal.After-joined) → c.joined.result ≡ moved_bits c.args.self.bits (distance c.args.from c.args.to)
bits-are c =
    c.joined.ensures
    ∙ ap (λ m. m * 2 ^ 64 + c.moved_address.result) c.moved_meta.ensures
    ∙ inside-fields c.args.self.bits c.args.from c.args.to c.moved_address.result c.requires.from c.requires.to (c.requires.inside c.if-self.true) c.moved_address.ensures

-- a tagged capability with these bits
tagged-move : (cap : Cap) (from to bits : ℕ) → cap.tag ≡ true → bits ≡ moved_bits cap.bits (distance from to) → ◌≡◌ {A = Cap} record { bits = bits; tag = true } (moved cap from to)
tagged-move cap from to bits t e = rw (e, t) refl

pub returns-then-self-clause-is : goal.returns-then-self-clause-is
returns-then-self-clause-is c = tagged-move c.args.self c.args.from c.args.to c.joined.result c.if-self.true (bits-are c)

pub returns-then-self-clause-moves : goal.returns-then-self-clause-moves
returns-then-self-clause-moves c tagged =
    let both = inside-moved c.args.self.bits c.args.from c.args.to (search rules) c.requires.from c.requires.to (c.requires.inside tagged) in
    subst (λ bits. IsMove c.args.self.bits (distance c.args.from c.args.to) bits) (sym (bits-are c)) both.0

pub returns-then-self-clause-inside : goal.returns-then-self-clause-inside
returns-then-self-clause-inside c _ =
    let both = inside-moved c.args.self.bits c.args.from c.args.to (search rules) c.requires.from c.requires.to (c.requires.inside c.if-self.true) in
    subst (λ bits. IsInside bits c.args.to) (sym (bits-are c)) both.1
