-- The values of the integer instructions. After the RISC-V unprivileged ISA, RV64I and the extension M.
-- An operand is a number below 2^64. Each operation is said once, for so many bits; the rows of 32 bits make it of the low 32
-- bits of their operands and extend the sign of what it gives.
use Rattle.std.specs.Prelude.{ℕ, ◌+◌, ◌-◌, ◌*◌, ◌/◌, ◌%◌, ◌^◌, ◌==◌, ◌&&◌, Bool, true, false, not, nat_lt, if◌then◌else◌, ℤ, pos, ◌-ℤ◌, ◌*ℤ◌, unsigned_abs, int_lt, int_div, int_rem, bit_and, bit_or, bit_xor}
use Rattle.std.specs.Int.{int_rem_euclid, int_div_euclid}
use Rattle.riscv_decode.specs.Words.{signed}
use Rattle.riscv_decode.specs.declared.instr.RegOp.{RegOp}
use Rattle.riscv_decode.specs.declared.instr.RegOp.TheVariants as reg
use Rattle.riscv_decode.specs.declared.instr.ImmOp.{ImmOp}
use Rattle.riscv_decode.specs.declared.instr.ImmOp.TheVariants as imm
use Rattle.riscv_decode.specs.declared.instr.BranchOp.{BranchOp}
use Rattle.riscv_decode.specs.declared.instr.BranchOp.TheVariants as branch

-- an integer modulo 2 to the number of bits
abbrev pub wrapped : ℕ → ℤ → ℕ
wrapped width z = unsigned_abs (int_rem_euclid z (pos (2 ^ width)))

-- a truth value: 1 or 0
abbrev pub truth : Bool → ℕ
truth b = if b then 1 else 0

-- sums, differences and the low halves of products wrap
abbrev pub sum : ℕ → ℕ → ℕ → ℕ
sum width a b = (a + b) % 2 ^ width

abbrev pub difference : ℕ → ℕ → ℕ → ℕ
difference width a b = wrapped width (pos a -ℤ pos b)

abbrev pub product : ℕ → ℕ → ℕ → ℕ
product width a b = (a * b) % 2 ^ width

-- the high half of a product of two integers: what is left of it above the low bits, rounded down
abbrev pub high_half : ℕ → ℤ → ℕ
high_half width z = wrapped width (int_div_euclid z (pos (2 ^ width)))

-- The first of two numbers is the less, as signed integers.
abbrev pub is_less : ℕ → ℕ → ℕ → Bool
is_less width a b = int_lt (signed width a) (signed width b)

-- How far a shift goes: the low 6 bits of an operand of 64 bits, and the low 5 of one of 32.
abbrev pub amount : ℕ → ℕ → ℕ
amount width b = b % width

-- to the left, and to the right with zeros, or with the sign, coming in
abbrev pub shifted_left : ℕ → ℕ → ℕ → ℕ
shifted_left width a b = (a * 2 ^ amount width b) % 2 ^ width

abbrev pub shifted_right : ℕ → ℕ → ℕ → ℕ
shifted_right width a b = a / 2 ^ amount width b

abbrev pub shifted_signed : ℕ → ℕ → ℕ → ℕ
shifted_signed width a b = wrapped width (int_div_euclid (signed width a) (pos (2 ^ amount width b)))

-- all bits are ones, and the least signed integer
abbrev pub all_ones : ℕ → ℕ
all_ones width = 2 ^ width - 1

abbrev pub least_integer : ℕ → ℕ
least_integer width = 2 ^ (width - 1)

-- the quotient of the least signed integer by -1 is no signed integer
abbrev pub overflows : ℕ → ℕ → ℕ → Bool
overflows width a b = (a == least_integer width) && (b == all_ones width)

-- Division of signed integers rounds toward zero. By zero the quotient is all ones and the remainder the dividend; in the
-- overflow the quotient is the dividend and the remainder zero.
abbrev pub quotient : ℕ → ℕ → ℕ → ℕ
quotient width a b =
    if b == 0 then all_ones width else (
    if overflows width a b then a else
    wrapped width (int_div (signed width a) (signed width b)))

abbrev pub remainder : ℕ → ℕ → ℕ → ℕ
remainder width a b =
    if b == 0 then a else (
    if overflows width a b then 0 else
    wrapped width (int_rem (signed width a) (signed width b)))

-- the same of unsigned integers, which don't overflow
abbrev pub unsigned_quotient : ℕ → ℕ → ℕ → ℕ
unsigned_quotient width a b = if b == 0 then all_ones width else a / b

abbrev pub unsigned_remainder : ℕ → ℕ → ℕ → ℕ
unsigned_remainder width a b = if b == 0 then a else a % b

-- a number of 32 bits as one of 64 with the same sign
abbrev pub extended : ℕ → ℕ
extended n = wrapped 64 (signed 32 n)

-- an operation of 32 bits, on the low 32 bits of the operands
abbrev pub in_word : (ℕ → ℕ → ℕ → ℕ) → ℕ → ℕ → ℕ
in_word operation a b = extended (operation 32 (a % 2 ^ 32) (b % 2 ^ 32))

-- the integer rows of two registers: all but those of capabilities
abbrev pub is_integer : RegOp → Bool
is_integer reg.CSetBounds = false
is_integer reg.CSetBoundsExact = false
is_integer reg.CAndPerm = false
is_integer reg.CSetAddr = false
is_integer reg.CIncOffset = false
is_integer reg.CSub = false
is_integer reg.CTestSubset = false
is_integer reg.CSeqx = false
is_integer _ = true

-- The integer value of a row of two registers. A row of capabilities has none, and 0 stands for it.
abbrev pub reg_value : RegOp → ℕ → ℕ → ℕ
reg_value reg.Add a b = sum 64 a b
reg_value reg.Sub a b = difference 64 a b
reg_value reg.Sll a b = shifted_left 64 a b
reg_value reg.Slt a b = truth (is_less 64 a b)
reg_value reg.Sltu a b = truth (nat_lt a b)
reg_value reg.Xor a b = bit_xor a b
reg_value reg.Srl a b = shifted_right 64 a b
reg_value reg.Sra a b = shifted_signed 64 a b
reg_value reg.Or a b = bit_or a b
reg_value reg.And a b = bit_and a b
reg_value reg.Mul a b = product 64 a b
reg_value reg.Mulh a b = high_half 64 (signed 64 a *ℤ signed 64 b)
reg_value reg.Mulhsu a b = high_half 64 (signed 64 a *ℤ pos b)
reg_value reg.Mulhu a b = high_half 64 (pos a *ℤ pos b)
reg_value reg.Div a b = quotient 64 a b
reg_value reg.Divu a b = unsigned_quotient 64 a b
reg_value reg.Rem a b = remainder 64 a b
reg_value reg.Remu a b = unsigned_remainder 64 a b
reg_value reg.Addw a b = in_word sum a b
reg_value reg.Subw a b = in_word difference a b
reg_value reg.Sllw a b = in_word shifted_left a b
reg_value reg.Srlw a b = in_word shifted_right a b
reg_value reg.Sraw a b = in_word shifted_signed a b
reg_value reg.Mulw a b = in_word product a b
reg_value reg.Divw a b = in_word quotient a b
reg_value reg.Divuw a b = in_word unsigned_quotient a b
reg_value reg.Remw a b = in_word remainder a b
reg_value reg.Remuw a b = in_word unsigned_remainder a b
reg_value _ a b = 0

-- The row of two registers that does the same as a row of a register and an immediate.
abbrev pub register_row : ImmOp → RegOp
register_row imm.Addi = reg.Add
register_row imm.Slti = reg.Slt
register_row imm.Sltiu = reg.Sltu
register_row imm.Xori = reg.Xor
register_row imm.Ori = reg.Or
register_row imm.Andi = reg.And
register_row imm.Slli = reg.Sll
register_row imm.Srli = reg.Srl
register_row imm.Srai = reg.Sra
register_row imm.Addiw = reg.Addw
register_row imm.Slliw = reg.Sllw
register_row imm.Srliw = reg.Srlw
register_row imm.Sraiw = reg.Sraw
register_row imm.CIncOffsetImm = reg.CIncOffset
register_row imm.CSetBoundsImm = reg.CSetBounds

-- an immediate as an operand: its sign is extended
abbrev pub operand : ℤ → ℕ
operand i = wrapped 64 i

-- The integer value of a row of a register and an immediate: that of the row of two registers, with the immediate as the second
-- operand.
abbrev pub imm_value : ImmOp → ℕ → ℤ → ℕ
imm_value op a i = reg_value (register_row op) a (operand i)

-- whether a branch is taken
abbrev pub taken : BranchOp → ℕ → ℕ → Bool
taken branch.Beq a b = a == b
taken branch.Bne a b = not (a == b)
taken branch.Blt a b = is_less 64 a b
taken branch.Bge a b = not (is_less 64 a b)
taken branch.Bltu a b = nat_lt a b
taken branch.Bgeu a b = not (nat_lt a b)
