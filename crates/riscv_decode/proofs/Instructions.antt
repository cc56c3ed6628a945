-- An instruction is its operation and a word's fields.
use Rattle.std.proofs.Common.{◌≡◌, ℕ, true, Some, None, sym, ap, ◌∙◌, subst, arith, ◌↔◌}
use Rattle.std.specs.List.{find}
use Rattle.riscv_decode.specs.Opcodes.{ops_of}
use Rattle.riscv_decode.specs.Words.{opcode_of}
use Rattle.riscv_decode.specs.declared.ops.Op.{Op}
use Rattle.riscv_decode.specs.declared.ops.Op.TheVariants as op
use Rattle.riscv_decode.specs.declared.instr.Instr.{Instr}
use Rattle.riscv_decode.specs.declared.instr.Instr.TheVariants.{Reg, Imm, Load, Store, Branch, Upper, Jal, Jalr, One, Ecall, Ebreak, Fence}
use Rattle.riscv_decode.specs.Rows.{matches}
use Rattle.riscv_decode.specs.Table.{IsRow}
use Rattle.riscv_decode.specs.Code.{row_of, op_of, instr_of}
use Rattle.riscv_decode.proofs.Agreement.{found, found_passes, one_row_at_most}

-- the row of an instruction's word is that of its operation
pub op_matches : (w : ℕ) (i : Instr) → IsRow w i → matches (row_of (op_of i)) w ≡ true
op_matches w (Reg o rd rs1 rs2) h = h.0
op_matches w (Imm o rd rs1 imm) h = h.0
op_matches w (Load o rd rs1 imm) h = h.0
op_matches w (Store o rs1 rs2 imm) h = h.0
op_matches w (Branch o rs1 rs2 imm) h = h.0
op_matches w (Upper o rd imm) h = h.0
op_matches w (Jal rd imm) h = h.0
op_matches w (Jalr rd rs1 imm) h = h.0
op_matches w (One o rd rs1) h = h.0
op_matches w Ecall h = h
op_matches w Ebreak h = h
op_matches w Fence h = h

-- an instruction has the fields of its word
pub has_fields : (w : ℕ) (i : Instr) → IsRow w i → i ≡ instr_of (op_of i) w
has_fields w (Reg o rd rs1 rs2) h = cc
has_fields w _ h = cc

-- the instruction that has the fields of a word is that of the word, if the word is in the operation's row
pub is_row_from : (w : ℕ) (o : Op) → matches (row_of o) w ≡ true → IsRow w (instr_of o w)
is_row_from w (op.Reg o) h = search arith
is_row_from w _ h = search arith

-- a word is one instruction at most
pub one_instruction : (w : ℕ) (i j : Instr) → IsRow w i → IsRow w j → i ≡ j
one_instruction w i j p q = has_fields w i p ∙ (ap (λ o. instr_of o w) (one_row_at_most (op_of i) (op_of j) w (op_matches w i p) (op_matches w j q)) ∙ sym (has_fields w j q))

-- a search that finds nothing leaves a word with no instruction
pub nothing_found : (w : ℕ) → find (λ p. matches (row_of p) w) (ops_of (opcode_of w)) ≡ None → (i : Instr) → IsRow w i ↔ (None ≡ Some i)
nothing_found w e i = (λ h. let f = found (op_of i) w (op_matches w i h) in cc, λ h. cc)

-- a search that finds an operation gives the one instruction of a word
pub one_found : (w : ℕ) (o : Op) → find (λ p. matches (row_of p) w) (ops_of (opcode_of w)) ≡ Some o → (i : Instr) → IsRow w i ↔ (Some (instr_of o w) ≡ Some i)
one_found w o e i =
    let here = is_row_from w o (found_passes (λ p. matches (row_of p) w) o (ops_of (opcode_of w)) e) in
    (λ h. ap (λ x. Some x) (one_instruction w (instr_of o w) i here h), λ h. let same : instr_of o w ≡ i = cc in subst (IsRow w) same here)
