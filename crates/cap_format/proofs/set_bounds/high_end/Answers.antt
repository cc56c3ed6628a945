use Rattle.std.proofs.Common.{◌≡◌, ◌*◌, ◌%◌, ◌^◌, ◌+◌, ◌<◌, arith}
use Rattle.std.proofs.lemmas.Nat.{one_shl, pow_below, pow_pos}
use Rattle.cap_format.proofs.Rounding.{up-near}
use Rattle.cap_format.proofs.set_bounds.high_end.Goals as goal

pub overflow_add-result : goal.overflow_add-result
overflow_add-result c =
    let unit = one_shl (c.args.exponent + 3) 128 (omega arith) in
    let limit = pow_below (c.args.exponent + 3) 67 (omega arith) in
    omega arith

pub returns-clause-small : goal.returns-clause-small
returns-clause-small c =
    let unit : 1 * 2 ^ (c.args.exponent + 3) % 2 ^ 128 ≡ 2 ^ (c.args.exponent + 3) = one_shl (c.args.exponent + 3) 128 (omega arith) in
    let limit : 2 ^ (c.args.exponent + 3) < 2 ^ 67 = pow_below (c.args.exponent + 3) 67 (omega arith) in
    let near = up-near (c.from.result + c.from-2.result) (2 ^ (c.args.exponent + 3)) (pow_pos (c.args.exponent + 3)) in
    rw unit (omega arith)
