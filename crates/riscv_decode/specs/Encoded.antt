-- The word of an instruction: what its row fixes, and its registers and its immediate in the places of the row's format.
-- The places are those of the formats R, I, S, B, U and J of the RISC-V unprivileged ISA.
use Rattle.std.specs.Prelude.{ℕ, suc, ◌+◌, ◌-◌, ◌*◌, ◌/◌, ◌%◌, ◌^◌, ℤ, pos, negsuc}
use Rattle.riscv_decode.specs.declared.instr.Instr.{Instr}
use Rattle.riscv_decode.specs.declared.instr.Instr.TheVariants.{Reg, Imm, Load, Store, Branch, Upper, Jal, Jalr, One, Ecall, Ebreak, Fence}
use Rattle.riscv_decode.specs.Rows.{Format, format_shift6, format_shift5, Row, reg_row, imm_row, load_row, store_row, branch_row, upper_row, one_row, cjal_row, cjalr_row, ecall_row, ebreak_row, fence_row}

-- a number in two's complement, where the size is two to the number of its bits
abbrev pub unsigned_of : ℤ → ℤ → ℕ
unsigned_of size (pos n) = n
unsigned_of (pos size) (negsuc n) = size - suc n
unsigned_of (negsuc m) (negsuc n) = 0

-- the word of six fields, in the places of format R
abbrev pub joined : ℕ → ℕ → ℕ → ℕ → ℕ → ℕ → ℕ
joined opcode rd funct3 rs1 rs2 funct7 = opcode + rd * 2 ^ 7 + funct3 * 2 ^ 12 + rs1 * 2 ^ 15 + rs2 * 2 ^ 20 + funct7 * 2 ^ 25

-- The 13 bits of a branch's distance in the places where format S has its 12 bits: from the highest on, bits 12, 10 to 5, 4 to 1
-- and 11 of the distance. Bit 0 has no place.
abbrev pub placed_b : ℕ → ℕ
placed_b bits = bits / 2 % 16 * 2 + bits / 2048 % 2 + bits / 32 % 64 * 32 + bits / 4096 * 2048

-- The 21 bits of a jump's distance in the places where format U has its 20 bits: from the highest on, bits 20, 10 to 1, 11, and 19
-- to 12 of the distance. Bit 0 has no place.
abbrev pub placed_j : ℕ → ℕ
placed_j bits = bits / 4096 % 256 + bits / 2048 % 2 * 256 + bits / 2 % 1024 * 512 + bits / 1048576 * 524288

-- the highest 12 bits of a word with an immediate, where a shift amount stands below what the row fixes
abbrev pub bits_in : Format → ℕ → ℤ → ℕ
bits_in format_shift6 funct7 imm = unsigned_of (pos 4096) imm + funct7 / 2 * 64
bits_in format_shift5 funct7 imm = unsigned_of (pos 4096) imm + funct7 * 32
bits_in _ funct7 imm = unsigned_of (pos 4096) imm

-- the word of a row of format R, with three registers
abbrev pub word_r : Row → ℕ → ℕ → ℕ → ℕ
word_r r rd rs1 rs2 = joined r.opcode rd r.funct3 rs1 rs2 r.funct7

-- the word of a row of format I, with two registers and the highest 12 bits
abbrev pub word_i : Row → ℕ → ℕ → ℕ → ℕ
word_i r rd rs1 bits = joined r.opcode rd r.funct3 rs1 (bits % 32) (bits / 32)

-- the word of a row of format S or B, with two sources and 12 bits around them
abbrev pub word_s : Row → ℕ → ℕ → ℕ → ℕ
word_s r rs1 rs2 bits = joined r.opcode (bits % 32) r.funct3 rs1 rs2 (bits / 32)

-- the word of a row of format U or J, with a destination and the highest 20 bits
abbrev pub word_u : Row → ℕ → ℕ → ℕ
word_u r rd bits = joined r.opcode rd (bits % 8) (bits / 8 % 32) (bits / 256 % 32) (bits / 8192)

-- the word of a row with a destination and a source, and all else as the row fixes it
abbrev pub word_one : Row → ℕ → ℕ → ℕ
word_one r rd rs1 = joined r.opcode rd r.funct3 rs1 r.rs2 r.funct7

-- the word of an instruction that is in range
abbrev pub word_of : Instr → ℕ
word_of (Reg o rd rs1 rs2) = word_r (reg_row o) rd rs1 rs2
word_of (Imm o rd rs1 imm) = word_i (imm_row o) rd rs1 (bits_in (imm_row o).format (imm_row o).funct7 imm)
word_of (Load o rd rs1 imm) = word_i (load_row o) rd rs1 (unsigned_of (pos 4096) imm)
word_of (Store o rs1 rs2 imm) = word_s (store_row o) rs1 rs2 (unsigned_of (pos 4096) imm)
word_of (Branch o rs1 rs2 imm) = word_s (branch_row o) rs1 rs2 (placed_b (unsigned_of (pos 8192) imm))
word_of (Upper o rd imm) = word_u (upper_row o) rd imm
word_of (Jal rd imm) = word_u cjal_row rd (placed_j (unsigned_of (pos 2097152) imm))
word_of (Jalr rd rs1 imm) = word_i cjalr_row rd rs1 (unsigned_of (pos 4096) imm)
word_of (One o rd rs1) = word_one (one_row o) rd rs1
word_of Ecall = word_one ecall_row 0 0
word_of Ebreak = word_one ebreak_row 0 0
word_of Fence = word_one fence_row 0 0
