use Rattle.riscv_decode.proofs.Encodings.{one_word}
use Rattle.riscv_decode.proofs.encoding.encode.Goals as goal

pub returns-then-is_in_range-clause-word : goal.returns-then-is_in_range-clause-word
returns-then-is_in_range-clause-word c =
    let here = c.is_in_range.ensures.0 c.if-is_in_range.true in
    λ word below. rw c.word_of.ensures (one_word c.args.i.now here word below)
