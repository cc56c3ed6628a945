-- The instruction of a word as a function: the one whose row has the word.
use Rattle.std.specs.Prelude.{ℕ, Some, None}
use Rattle.std.specs.List.{find}
use Rattle.std.specs.declared.option.Option.{Option}
use Rattle.riscv_decode.specs.declared.ops.Op.{Op}
use Rattle.riscv_decode.specs.declared.instr.Instr.{Instr}
use Rattle.riscv_decode.specs.Words.{opcode_of}
use Rattle.riscv_decode.specs.Rows.{matches}
use Rattle.riscv_decode.specs.Code.{row_of, instr_of}
use Rattle.riscv_decode.specs.Opcodes.{ops_of}

-- the instruction of an operation, where there is one
abbrev pub with_fields : Option Op → ℕ → Option Instr
with_fields None word = None
with_fields (Some op) word = Some (instr_of op word)

unfoldable pub decoded : ℕ → Option Instr
decoded word = with_fields (find (λ op. matches (row_of op) word) (ops_of (opcode_of word))) word
