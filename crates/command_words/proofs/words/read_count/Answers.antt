use Rattle.std.proofs.Common.{◌≡◌, Some, arith}
use Rattle.machine_types.specs.DecimalNumbers.{number_in}
use Rattle.machine_types.proofs.DecimalTexts.{number-in-parts}
use Rattle.command_words.proofs.words.read_count.Goals as goal

pub overflow_cast-result : goal.overflow_cast-result
overflow_cast-result c =
    let is : number_in 1 c.args.most c.args.word.now ≡ Some c.in_ok-n.n = cc (c.in_ok-n.ensures, c.from.ensures, c.as_bytes.ensures.value) in
    omega (arith, (number-in-parts 1 c.args.most c.in_ok-n.n c.args.word.now is).2)
