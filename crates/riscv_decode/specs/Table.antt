-- Which word is which instruction.
use Rattle.std.specs.Prelude.{◌≡◌, ℕ, ◌<◌, ◌^◌, ⊤, IsTrue, ℤ, pos, ◌≤ℤ◌, ◌<ℤ◌, ◌-ℤ◌}
use Rattle.std.specs.Int.{int_rem_euclid}
use Rattle.riscv_decode.specs.declared.instr.Instr.{Instr}
use Rattle.riscv_decode.specs.declared.instr.Instr.TheVariants.{Reg, Imm, Load, Store, Branch, Upper, Jal, Jalr, One, Ecall, Ebreak, Fence}
use Rattle.riscv_decode.specs.Words.{field, rd_of, rs1_of, rs2_of, immediate_i, immediate_s, immediate_b, immediate_u, immediate_j}
use Rattle.riscv_decode.specs.Rows.{Format, format_unsigned, format_shift6, format_shift5, matches, reg_row, imm_row, load_row, store_row, branch_row, upper_row, one_row, cjal_row, cjalr_row, ecall_row, ebreak_row, fence_row}

-- the immediate of a row of opcode 13, 1b or 5b, by its format
abbrev pub immediate_in : Format → ℕ → ℤ
immediate_in format_unsigned word = pos (field word 20 12)
immediate_in format_shift6 word = pos (field word 20 6)
immediate_in format_shift5 word = pos (field word 20 5)
immediate_in _ word = immediate_i word

-- The word matches the row of the instruction's operation, and the instruction has the word's fields.
abbrev pub IsRow : ℕ → Instr → Type 0
IsRow word (Reg op rd rs1 rs2) = IsTrue (matches (reg_row op) word) × (rd ≡ rd_of word) × (rs1 ≡ rs1_of word) × (rs2 ≡ rs2_of word)
IsRow word (Imm op rd rs1 imm) = IsTrue (matches (imm_row op) word) × (rd ≡ rd_of word) × (rs1 ≡ rs1_of word) × (imm ≡ immediate_in (imm_row op).format word)
IsRow word (Load op rd rs1 imm) = IsTrue (matches (load_row op) word) × (rd ≡ rd_of word) × (rs1 ≡ rs1_of word) × (imm ≡ immediate_i word)
IsRow word (Store op rs1 rs2 imm) = IsTrue (matches (store_row op) word) × (rs1 ≡ rs1_of word) × (rs2 ≡ rs2_of word) × (imm ≡ immediate_s word)
IsRow word (Branch op rs1 rs2 imm) = IsTrue (matches (branch_row op) word) × (rs1 ≡ rs1_of word) × (rs2 ≡ rs2_of word) × (imm ≡ immediate_b word)
IsRow word (Upper op rd imm) = IsTrue (matches (upper_row op) word) × (rd ≡ rd_of word) × (imm ≡ immediate_u word)
IsRow word (Jal rd imm) = IsTrue (matches cjal_row word) × (rd ≡ rd_of word) × (imm ≡ immediate_j word)
IsRow word (Jalr rd rs1 imm) = IsTrue (matches cjalr_row word) × (rd ≡ rd_of word) × (rs1 ≡ rs1_of word) × (imm ≡ immediate_i word)
IsRow word (One op rd rs1) = IsTrue (matches (one_row op) word) × (rd ≡ rd_of word) × (rs1 ≡ rs1_of word)
IsRow word Ecall = IsTrue (matches ecall_row word)
IsRow word Ebreak = IsTrue (matches ebreak_row word)
IsRow word Fence = IsTrue (matches fence_row word)

-- from the least on, below the other
abbrev pub IsFrom : ℤ → ℤ → ℤ → Type 0
IsFrom least past z = (least ≤ℤ z) × (z <ℤ past)

abbrev pub IsEven : ℤ → Type 0
IsEven z = int_rem_euclid z (pos 2) ≡ pos 0

-- a signed number of 12 bits
abbrev pub IsSigned12 : ℤ → Type 0
IsSigned12 z = IsFrom (pos 0 -ℤ pos 2048) (pos 2048) z

-- the range of the immediate of a row of opcode 13, 1b or 5b
abbrev pub IsImmediateIn : Format → ℤ → Type 0
IsImmediateIn format_unsigned imm = IsFrom (pos 0) (pos 4096) imm
IsImmediateIn format_shift6 imm = IsFrom (pos 0) (pos 64) imm
IsImmediateIn format_shift5 imm = IsFrom (pos 0) (pos 32) imm
IsImmediateIn _ imm = IsSigned12 imm

-- The registers are below 32, the immediate is in the range of its row, and the distance of a branch or a jump is even.
abbrev pub IsInRange : Instr → Type 0
IsInRange (Reg op rd rs1 rs2) = (rd < 32) × (rs1 < 32) × (rs2 < 32)
IsInRange (Imm op rd rs1 imm) = (rd < 32) × (rs1 < 32) × IsImmediateIn (imm_row op).format imm
IsInRange (Load op rd rs1 imm) = (rd < 32) × (rs1 < 32) × IsSigned12 imm
IsInRange (Store op rs1 rs2 imm) = (rs1 < 32) × (rs2 < 32) × IsSigned12 imm
IsInRange (Branch op rs1 rs2 imm) = (rs1 < 32) × (rs2 < 32) × IsFrom (pos 0 -ℤ pos 4096) (pos 4096) imm × IsEven imm
IsInRange (Upper op rd imm) = (rd < 32) × (imm < 2 ^ 20)
IsInRange (Jal rd imm) = (rd < 32) × IsFrom (pos 0 -ℤ pos 1048576) (pos 1048576) imm × IsEven imm
IsInRange (Jalr rd rs1 imm) = (rd < 32) × (rs1 < 32) × IsSigned12 imm
IsInRange (One op rd rs1) = (rd < 32) × (rs1 < 32)
IsInRange Ecall = ⊤
IsInRange Ebreak = ⊤
IsInRange Fence = ⊤

-- a word is at most one instruction
abbrev pub EachWordHasOneRow : Type 0
EachWordHasOneRow = (word : ℕ) (i j : Instr) → IsRow word i → IsRow word j → i ≡ j
