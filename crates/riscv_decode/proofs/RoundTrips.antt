-- A word's row and its instruction decide each other, and words and instructions go round.
use Rattle.std.proofs.Common.{◌≡◌, ◌↔◌, ℕ, Some, None, refl, sym, subst}
use Rattle.std.specs.List.{find}
use Rattle.std.specs.declared.option.Option.{Option}
use Rattle.riscv_decode.specs.declared.ops.Op.{Op}
use Rattle.riscv_decode.specs.declared.instr.Instr.{Instr}
use Rattle.riscv_decode.specs.Words.{opcode_of}
use Rattle.riscv_decode.specs.Rows.{matches}
use Rattle.riscv_decode.specs.Table.{IsRow, IsInRange}
use Rattle.riscv_decode.specs.Code.{row_of, op_of}
use Rattle.riscv_decode.specs.Opcodes.{ops_of}
use Rattle.riscv_decode.specs.Decoded.{with_fields, decoded}
use Rattle.riscv_decode.specs.RoundTrips.{EachRowIsDecoded, WordsGoRound}
use Rattle.riscv_decode.proofs.Instructions.{has_fields, nothing_found, one_found}
use Rattle.riscv_decode.proofs.Encodings.{is_row_of_word, word_of_row, word_below}
use Rattle.riscv_decode.proofs.InRange.{in_range}

-- what a search finds decides which instruction has the word
row_where_found : (w : ℕ) (o : Option Op) → find (λ p. matches (row_of p) w) (ops_of (opcode_of w)) ≡ o → (i : Instr) → IsRow w i ↔ (with_fields o w ≡ Some i)
row_where_found w None e i = nothing_found w e i
row_where_found w (Some o) e i = one_found w o e i

-- a word has the row of an instruction exactly where it is decoded as the instruction
pub row_is_decoded : EachRowIsDecoded
unfolding decoded
row_is_decoded w i = row_where_found w (find (λ p. matches (row_of p) w) (ops_of (opcode_of w))) refl i

-- an instruction whose row has a word is in range
range_of_row : (w : ℕ) (i : Instr) → IsRow w i → IsInRange i
range_of_row w i r = subst IsInRange (sym (has_fields w i r)) (in_range w (op_of i))

-- words and instructions go round
pub go_round : WordsGoRound
go_round = record {
  encoded = λ i h. (word_below i h, (row_is_decoded _ i).0 (is_row_of_word i h));
  decoded = λ w i small e. let r = (row_is_decoded w i).1 e in (range_of_row w i r, word_of_row w i small r);
}
