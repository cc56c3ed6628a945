use Rattle.std.proofs.Common.{arith}
use Rattle.std.proofs.lemmas.Int.{ints}
use Rattle.cap_format.specs.Pattern.{top_of}
use Rattle.cap_format.proofs.Bases.{base_of-range}
use Rattle.cap_format.proofs.cap.Cap.top_from.Goals as goal

pub overflow_add-result : goal.overflow_add-result
overflow_add-result c =
    let range = base_of-range c.args.self.bits in
    omega (arith, ints, range.0, range.1, c.requires)

pub returns : goal.returns
unfolding top_of
returns c =
    let range = base_of-range c.args.self.bits in
    omega (arith, ints, range.0, range.1, c.requires, c.length.ensures.length)
