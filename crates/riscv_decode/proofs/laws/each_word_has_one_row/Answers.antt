use Rattle.riscv_decode.proofs.Instructions.{one_instruction}
use Rattle.riscv_decode.proofs.laws.each_word_has_one_row.Goals as goal

-- src/laws.rt:5:1
pub returns : goal.returns
returns c = one_instruction
