-- How the code holds rows and operations, and the instruction that it makes of a word.
use Rattle.std.specs.Prelude.{ℕ, ◌*◌, ◌&&◌, Bool, nat_lt}
use Rattle.riscv_decode.specs.declared.rows.Row.TheVariants as code
use Rattle.riscv_decode.specs.declared.rows.Row as held
use Rattle.riscv_decode.specs.declared.ops.Op.{Op}
use Rattle.riscv_decode.specs.declared.ops.Op.TheVariants as op
use Rattle.riscv_decode.specs.declared.instr.Instr.{Instr}
use Rattle.riscv_decode.specs.declared.instr.Instr.TheVariants.{Reg, Imm, Load, Store, Branch, Upper, Jal, Jalr, One, Ecall, Ebreak, Fence}
use Rattle.riscv_decode.specs.Words.{rd_of, rs1_of, rs2_of, immediate_i, immediate_s, immediate_b, immediate_u, immediate_j}
use Rattle.riscv_decode.specs.Rows.{format_r, format_i, format_unsigned, format_shift6, format_shift5, format_s, format_b, format_u, format_j, format_one, format_whole, Row, row, reg_row, imm_row, load_row, store_row, branch_row, upper_row, one_row, cjal_row, cjalr_row, ecall_row, ebreak_row, fence_row}
use Rattle.riscv_decode.specs.Table.{immediate_in}

-- the row of the table that a row of the code stands for
abbrev pub as_row : held.Row → Row
as_row (code.R opcode funct3 funct7) = row format_r opcode funct3 funct7 0
as_row (code.I opcode funct3) = row format_i opcode funct3 0 0
as_row (code.Unsigned opcode funct3) = row format_unsigned opcode funct3 0 0
as_row (code.Shift6 opcode funct3 funct6) = row format_shift6 opcode funct3 (2 * funct6) 0
as_row (code.Shift5 opcode funct3 funct7) = row format_shift5 opcode funct3 funct7 0
as_row (code.S opcode funct3) = row format_s opcode funct3 0 0
as_row (code.B opcode funct3) = row format_b opcode funct3 0 0
as_row (code.U opcode) = row format_u opcode 0 0 0
as_row (code.J opcode) = row format_j opcode 0 0 0
as_row (code.One opcode funct3 funct7 rs2) = row format_one opcode funct3 funct7 rs2
as_row (code.Whole opcode funct3 funct7 rs2) = row format_whole opcode funct3 funct7 rs2

-- the row's fields fit their places
abbrev pub is_small : Row → Bool
is_small r = nat_lt r.opcode 128 && (nat_lt r.funct3 8 && (nat_lt r.funct7 128 && nat_lt r.rs2 32))

-- the row of an operation
abbrev pub row_of : Op → Row
row_of (op.Reg o) = reg_row o
row_of (op.Imm o) = imm_row o
row_of (op.Load o) = load_row o
row_of (op.Store o) = store_row o
row_of (op.Branch o) = branch_row o
row_of (op.Upper o) = upper_row o
row_of (op.One o) = one_row o
row_of op.Jal = cjal_row
row_of op.Jalr = cjalr_row
row_of op.Ecall = ecall_row
row_of op.Ebreak = ebreak_row
row_of op.Fence = fence_row

-- the operation of an instruction
abbrev pub op_of : Instr → Op
op_of (Reg o rd rs1 rs2) = op.Reg o
op_of (Imm o rd rs1 imm) = op.Imm o
op_of (Load o rd rs1 imm) = op.Load o
op_of (Store o rs1 rs2 imm) = op.Store o
op_of (Branch o rs1 rs2 imm) = op.Branch o
op_of (Upper o rd imm) = op.Upper o
op_of (Jal rd imm) = op.Jal
op_of (Jalr rd rs1 imm) = op.Jalr
op_of (One o rd rs1) = op.One o
op_of Ecall = op.Ecall
op_of Ebreak = op.Ebreak
op_of Fence = op.Fence

-- the instruction of an operation that has the fields of a word
abbrev pub instr_of : Op → ℕ → Instr
instr_of (op.Reg o) word = Reg o (rd_of word) (rs1_of word) (rs2_of word)
instr_of (op.Imm o) word = Imm o (rd_of word) (rs1_of word) (immediate_in (imm_row o).format word)
instr_of (op.Load o) word = Load o (rd_of word) (rs1_of word) (immediate_i word)
instr_of (op.Store o) word = Store o (rs1_of word) (rs2_of word) (immediate_s word)
instr_of (op.Branch o) word = Branch o (rs1_of word) (rs2_of word) (immediate_b word)
instr_of (op.Upper o) word = Upper o (rd_of word) (immediate_u word)
instr_of op.Jal word = Jal (rd_of word) (immediate_j word)
instr_of op.Jalr word = Jalr (rd_of word) (rs1_of word) (immediate_i word)
instr_of (op.One o) word = One o (rd_of word) (rs1_of word)
instr_of op.Ecall word = Ecall
instr_of op.Ebreak word = Ebreak
instr_of op.Fence word = Fence
