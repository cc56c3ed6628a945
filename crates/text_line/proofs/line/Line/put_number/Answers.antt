use Rattle.std.proofs.Common.{arith, length, drop, ◌<◌, ◌^◌, ◌≡◌, ap}
use Rattle.std.proofs.lemmas.List.{length-append, length-drop}
use Rattle.text_line.proofs.Digits.{length-decimal-le20}
use Rattle.text_line.proofs.line.Line.put_number.Goals as goal

pub write_digits-self-inside-requires : goal.write_digits-self-inside-requires
write_digits-self-inside-requires c =
    let n_fits : c.args.n < 2 ^ 64 = omega arith in
    let buffer : length c.self.inside.bytes ≡ 128 = c.self.told in
    let view : length (drop c.self.inside.start c.self.inside.bytes) ≡ length c.args.self.now = ap length c.self.view_is in
    (omega (arith, length-decimal-le20 c.args.n n_fits, simp length-drop at view, c.self.invariant), omega (arith, c.self.invariant))

pub returns-clause-room : goal.returns-clause-room
returns-clause-room c =
    let n_fits : c.args.n < 2 ^ 64 = omega arith in
    let view : length (drop c.self.inside.start c.self.inside.bytes) ≡ length c.args.self.now = ap length c.self.view_is in
    rw c.write_digits-self-inside.ensures.written (rw length-append (omega (arith, length-decimal-le20 c.args.n n_fits, view)))
