-- The rows of the table of instructions, one for each operation.
-- The integer rows are those of the RISC-V unprivileged ISA, RV64I and M. The rows of capabilities, after the CHERI
-- ISA v9, have words of this project's own.
use Rattle.std.specs.Prelude.{ℕ, ◌+◌, ◌*◌, ◌/◌, ◌^◌, ◌==◌, ◌&&◌, Bool}
use Rattle.riscv_decode.specs.declared.instr.RegOp.{RegOp}
use Rattle.riscv_decode.specs.declared.instr.RegOp.TheVariants as reg
use Rattle.riscv_decode.specs.declared.instr.ImmOp.{ImmOp}
use Rattle.riscv_decode.specs.declared.instr.ImmOp.TheVariants as imm
use Rattle.riscv_decode.specs.declared.instr.LoadOp.{LoadOp}
use Rattle.riscv_decode.specs.declared.instr.LoadOp.TheVariants as load
use Rattle.riscv_decode.specs.declared.instr.StoreOp.{StoreOp}
use Rattle.riscv_decode.specs.declared.instr.StoreOp.TheVariants as store
use Rattle.riscv_decode.specs.declared.instr.BranchOp.{BranchOp}
use Rattle.riscv_decode.specs.declared.instr.BranchOp.TheVariants as branch
use Rattle.riscv_decode.specs.declared.instr.UpperOp.{UpperOp}
use Rattle.riscv_decode.specs.declared.instr.UpperOp.TheVariants as upper
use Rattle.riscv_decode.specs.declared.instr.OneOp.{OneOp}
use Rattle.riscv_decode.specs.declared.instr.OneOp.TheVariants as one
use Rattle.riscv_decode.specs.Words.{field, opcode_of, funct3_of, rs2_of, funct7_of}

-- Which fields of a word a row fixes, and which immediate it has.
-- R: funct3 and funct7. I, S, B: funct3. Unsigned: as I, with an immediate that isn't signed.
-- Shift6: funct3 and bits 31 to 26, with a shift amount of 6 bits. Shift5: funct3 and funct7, with one of 5 bits.
-- U, J: the opcode alone. One: funct3, funct7 and the bits of rs2. Whole: the whole word.
pub data Format : Type 0 where
  format_r : Format
  format_i : Format
  format_unsigned : Format
  format_shift6 : Format
  format_shift5 : Format
  format_s : Format
  format_b : Format
  format_u : Format
  format_j : Format
  format_one : Format
  format_whole : Format

-- the opcode, and the other fields, which are 0 where the format doesn't fix them
pub record Row : Type 0 where
  pub format : Format
  pub opcode : ℕ
  pub funct3 : ℕ
  pub funct7 : ℕ
  pub rs2 : ℕ

abbrev pub row : Format → ℕ → ℕ → ℕ → ℕ → Row
row format opcode funct3 funct7 rs2 = record { format = format; opcode = opcode; funct3 = funct3; funct7 = funct7; rs2 = rs2 }

-- the fixed fields in their places
abbrev pub fixed_bits : Row → ℕ
fixed_bits r = r.opcode + r.funct3 * 2 ^ 12 + r.rs2 * 2 ^ 20 + r.funct7 * 2 ^ 25

-- the word has the fields that the row fixes
abbrev pub matches_in : Format → Row → ℕ → Bool
matches_in format_r r word = (opcode_of word == r.opcode) && ((funct3_of word == r.funct3) && (funct7_of word == r.funct7))
matches_in format_i r word = (opcode_of word == r.opcode) && (funct3_of word == r.funct3)
matches_in format_unsigned r word = (opcode_of word == r.opcode) && (funct3_of word == r.funct3)
matches_in format_shift6 r word = (opcode_of word == r.opcode) && ((funct3_of word == r.funct3) && (field word 26 6 == r.funct7 / 2))
matches_in format_shift5 r word = (opcode_of word == r.opcode) && ((funct3_of word == r.funct3) && (funct7_of word == r.funct7))
matches_in format_s r word = (opcode_of word == r.opcode) && (funct3_of word == r.funct3)
matches_in format_b r word = (opcode_of word == r.opcode) && (funct3_of word == r.funct3)
matches_in format_u r word = opcode_of word == r.opcode
matches_in format_j r word = opcode_of word == r.opcode
matches_in format_one r word = (opcode_of word == r.opcode) && ((funct3_of word == r.funct3) && ((funct7_of word == r.funct7) && (rs2_of word == r.rs2)))
matches_in format_whole r word = word == fixed_bits r

abbrev pub matches : Row → ℕ → Bool
matches r word = matches_in r.format r word

-- format, opcode, funct3, funct7, rs2
abbrev pub reg_row : RegOp → Row
reg_row reg.Add = row format_r 0x33 0 0x00 0x00
reg_row reg.Sub = row format_r 0x33 0 0x20 0x00
reg_row reg.Sll = row format_r 0x33 1 0x00 0x00
reg_row reg.Slt = row format_r 0x33 2 0x00 0x00
reg_row reg.Sltu = row format_r 0x33 3 0x00 0x00
reg_row reg.Xor = row format_r 0x33 4 0x00 0x00
reg_row reg.Srl = row format_r 0x33 5 0x00 0x00
reg_row reg.Sra = row format_r 0x33 5 0x20 0x00
reg_row reg.Or = row format_r 0x33 6 0x00 0x00
reg_row reg.And = row format_r 0x33 7 0x00 0x00
reg_row reg.Mul = row format_r 0x33 0 0x01 0x00
reg_row reg.Mulh = row format_r 0x33 1 0x01 0x00
reg_row reg.Mulhsu = row format_r 0x33 2 0x01 0x00
reg_row reg.Mulhu = row format_r 0x33 3 0x01 0x00
reg_row reg.Div = row format_r 0x33 4 0x01 0x00
reg_row reg.Divu = row format_r 0x33 5 0x01 0x00
reg_row reg.Rem = row format_r 0x33 6 0x01 0x00
reg_row reg.Remu = row format_r 0x33 7 0x01 0x00
reg_row reg.Addw = row format_r 0x3b 0 0x00 0x00
reg_row reg.Subw = row format_r 0x3b 0 0x20 0x00
reg_row reg.Sllw = row format_r 0x3b 1 0x00 0x00
reg_row reg.Srlw = row format_r 0x3b 5 0x00 0x00
reg_row reg.Sraw = row format_r 0x3b 5 0x20 0x00
reg_row reg.Mulw = row format_r 0x3b 0 0x01 0x00
reg_row reg.Divw = row format_r 0x3b 4 0x01 0x00
reg_row reg.Divuw = row format_r 0x3b 5 0x01 0x00
reg_row reg.Remw = row format_r 0x3b 6 0x01 0x00
reg_row reg.Remuw = row format_r 0x3b 7 0x01 0x00
reg_row reg.CSetBounds = row format_r 0x5b 0 0x08 0x00
reg_row reg.CSetBoundsExact = row format_r 0x5b 0 0x09 0x00
reg_row reg.CAndPerm = row format_r 0x5b 0 0x0d 0x00
reg_row reg.CSetAddr = row format_r 0x5b 0 0x10 0x00
reg_row reg.CIncOffset = row format_r 0x5b 0 0x11 0x00
reg_row reg.CSub = row format_r 0x5b 0 0x14 0x00
reg_row reg.CTestSubset = row format_r 0x5b 0 0x20 0x00
reg_row reg.CSeqx = row format_r 0x5b 0 0x21 0x00

abbrev pub imm_row : ImmOp → Row
imm_row imm.Addi = row format_i 0x13 0 0x00 0x00
imm_row imm.Slti = row format_i 0x13 2 0x00 0x00
imm_row imm.Sltiu = row format_i 0x13 3 0x00 0x00
imm_row imm.Xori = row format_i 0x13 4 0x00 0x00
imm_row imm.Ori = row format_i 0x13 6 0x00 0x00
imm_row imm.Andi = row format_i 0x13 7 0x00 0x00
imm_row imm.Slli = row format_shift6 0x13 1 0x00 0x00
imm_row imm.Srli = row format_shift6 0x13 5 0x00 0x00
imm_row imm.Srai = row format_shift6 0x13 5 0x20 0x00
imm_row imm.Addiw = row format_i 0x1b 0 0x00 0x00
imm_row imm.Slliw = row format_shift5 0x1b 1 0x00 0x00
imm_row imm.Srliw = row format_shift5 0x1b 5 0x00 0x00
imm_row imm.Sraiw = row format_shift5 0x1b 5 0x20 0x00
imm_row imm.CIncOffsetImm = row format_i 0x5b 1 0x00 0x00
imm_row imm.CSetBoundsImm = row format_unsigned 0x5b 2 0x00 0x00

abbrev pub load_row : LoadOp → Row
load_row load.Lb = row format_i 0x03 0 0x00 0x00
load_row load.Lh = row format_i 0x03 1 0x00 0x00
load_row load.Lw = row format_i 0x03 2 0x00 0x00
load_row load.Ld = row format_i 0x03 3 0x00 0x00
load_row load.Lbu = row format_i 0x03 4 0x00 0x00
load_row load.Lhu = row format_i 0x03 5 0x00 0x00
load_row load.Lwu = row format_i 0x03 6 0x00 0x00
load_row load.Clc = row format_i 0x0f 2 0x00 0x00

abbrev pub store_row : StoreOp → Row
store_row store.Sb = row format_s 0x23 0 0x00 0x00
store_row store.Sh = row format_s 0x23 1 0x00 0x00
store_row store.Sw = row format_s 0x23 2 0x00 0x00
store_row store.Sd = row format_s 0x23 3 0x00 0x00
store_row store.Csc = row format_s 0x23 4 0x00 0x00

abbrev pub branch_row : BranchOp → Row
branch_row branch.Beq = row format_b 0x63 0 0x00 0x00
branch_row branch.Bne = row format_b 0x63 1 0x00 0x00
branch_row branch.Blt = row format_b 0x63 4 0x00 0x00
branch_row branch.Bge = row format_b 0x63 5 0x00 0x00
branch_row branch.Bltu = row format_b 0x63 6 0x00 0x00
branch_row branch.Bgeu = row format_b 0x63 7 0x00 0x00

abbrev pub upper_row : UpperOp → Row
upper_row upper.Lui = row format_u 0x37 0 0x00 0x00
upper_row upper.Auipcc = row format_u 0x17 0 0x00 0x00

abbrev pub one_row : OneOp → Row
one_row one.CGetPerm = row format_one 0x5b 0 0x7f 0x00
one_row one.CGetBase = row format_one 0x5b 0 0x7f 0x02
one_row one.CGetLen = row format_one 0x5b 0 0x7f 0x03
one_row one.CGetTag = row format_one 0x5b 0 0x7f 0x04
one_row one.CGetSealed = row format_one 0x5b 0 0x7f 0x05
one_row one.CGetOffset = row format_one 0x5b 0 0x7f 0x06
one_row one.Crrl = row format_one 0x5b 0 0x7f 0x08
one_row one.Cram = row format_one 0x5b 0 0x7f 0x09
one_row one.CMove = row format_one 0x5b 0 0x7f 0x0a
one_row one.CClearTag = row format_one 0x5b 0 0x7f 0x0b
one_row one.CGetAddr = row format_one 0x5b 0 0x7f 0x0f
one_row one.CSealEntry = row format_one 0x5b 0 0x7f 0x11

abbrev pub cjal_row : Row
cjal_row = row format_j 0x6f 0 0x00 0x00

abbrev pub cjalr_row : Row
cjalr_row = row format_i 0x67 0 0x00 0x00

abbrev pub ecall_row : Row
ecall_row = row format_whole 0x73 0 0x00 0x00

abbrev pub ebreak_row : Row
ebreak_row = row format_whole 0x73 0 0x00 0x01

abbrev pub fence_row : Row
fence_row = row format_whole 0x0f 0 0x07 0x1f
