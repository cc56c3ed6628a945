use Rattle.std.proofs.Common.{arith}
use Rattle.std.proofs.lemmas.Int.{ints}
use Rattle.cap_format.proofs.Bases.{base_at-after, base_at-before, base_at-nearest}
use Rattle.cap_format.proofs.bounds.corrected_base.Goals as goal
use Rattle.cap_format.proofs.bounds.corrected_base.Goals.{else-base_block-eq0-via-then-base_block-eq0+else-address_block-eq7, else-base_block-eq0-via-else-base_block-eq0}

pub returns-then-address_block-eq7 : goal.returns-then-address_block-eq7
returns-then-address_block-eq7 c =
    let e = base_at-after c.args.address c.args.exponent c.args.bottom (omega arith) (omega arith) in
    rw (← e) (omega (arith, ints))

pub returns-then-base_block-address_block : goal.returns-then-base_block-address_block
returns-then-base_block-address_block c =
    let e = base_at-before c.args.address c.args.exponent c.args.bottom c.requires.bottom (omega arith) in
    rw (← e) (omega (arith, ints))

pub returns-else-base_block-address_block : goal.returns-else-base_block-address_block
returns-else-base_block-address_block c =
    let e = base_at-nearest c.args.address c.args.exponent c.args.bottom (omega arith)
    (elim c.else-base_block-eq0.branch [ else-base_block-eq0-via-then-base_block-eq0+else-address_block-eq7 w ↦ omega arith | else-base_block-eq0-via-else-base_block-eq0 w ↦ omega arith ]) in
    rw (← e) (omega (arith, ints))
