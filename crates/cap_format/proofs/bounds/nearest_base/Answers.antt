use Rattle.std.proofs.Common.{arith}
use Rattle.std.proofs.lemmas.Int.{ints}
use Rattle.cap_format.proofs.Bases.{window-shift, bottom-shift, nearest-short}
use Rattle.cap_format.proofs.bounds.nearest_base.Goals as goal

pub returns-clause-is : goal.returns-clause-is
returns-clause-is c =
    let window = window-shift c.args.exponent c.requires.exponent in
    let offset = bottom-shift c.args.exponent c.args.bottom c.requires.exponent c.requires.bottom in
    let short = nearest-short c.args.address c.args.exponent c.args.bottom (omega arith) c.requires.exponent c.requires.bottom in
    rw (c.from-address.ensures, c.from.ensures, window, offset) (omega (arith, ints, short))

pub returns-clause-small : goal.returns-clause-small
returns-clause-small c =
    let window = window-shift c.args.exponent c.requires.exponent in
    let offset = bottom-shift c.args.exponent c.args.bottom c.requires.exponent c.requires.bottom in
    let short = nearest-short c.args.address c.args.exponent c.args.bottom (omega arith) c.requires.exponent c.requires.bottom in
    rw (c.from-address.ensures, c.from.ensures, window, offset) (omega (arith, ints, short))
