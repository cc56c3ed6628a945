use Rattle.std.proofs.Common.{arith}
use Rattle.std.proofs.lemmas.Int.{ints}
use Rattle.cap_format.proofs.Bases.{window-shift, window-short}
use Rattle.cap_format.proofs.bounds.window_bytes.Goals as goal

pub overflow_cast-result-2 : goal.overflow_cast-result-2
overflow_cast-result-2 c =
    let whole = window-shift c.args.exponent c.requires in
    let short = window-short c.args.exponent c.requires in
    rw whole (omega (arith, ints))

pub returns-clause-is : goal.returns-clause-is
returns-clause-is c =
    let whole = window-shift c.args.exponent c.requires in
    let short = window-short c.args.exponent c.requires in
    omega (arith, ints)

pub returns-clause-small : goal.returns-clause-small
returns-clause-small c =
    let whole = window-shift c.args.exponent c.requires in
    let short = window-short c.args.exponent c.requires in
    omega (arith, ints)
