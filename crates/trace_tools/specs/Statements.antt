-- The text of an instruction word, which is a statement of the assembler. This project's own.
use Rattle.std.specs.Prelude.{ℕ, ℤ, Bool, true, false, Option, Some, None, List, [], ◌++◌, codes, decimal}
use Rattle.std.specs.Fmt.{signed_decimal}
use Rattle.riscv_decode.specs.declared.instr.Instr.{Instr}
use Rattle.riscv_decode.specs.declared.instr.Instr.TheVariants.{Reg, Imm, Load, Store, Branch, Upper, Jal, Jalr, One, Ecall, Ebreak, Fence}
use Rattle.riscv_decode.specs.declared.instr.RegOp.{RegOp}
use Rattle.riscv_decode.specs.declared.instr.RegOp.TheVariants.{CSetBounds, CSetBoundsExact, CAndPerm, CSetAddr, CIncOffset, CSub, CTestSubset, CSeqx}
use Rattle.riscv_decode.specs.declared.instr.ImmOp.{ImmOp}
use Rattle.riscv_decode.specs.declared.instr.ImmOp.TheVariants.{CIncOffsetImm, CSetBoundsImm}
use Rattle.riscv_decode.specs.declared.instr.LoadOp.{LoadOp}
use Rattle.riscv_decode.specs.declared.instr.LoadOp.TheVariants.{Clc}
use Rattle.riscv_decode.specs.declared.instr.StoreOp.{StoreOp}
use Rattle.riscv_decode.specs.declared.instr.StoreOp.TheVariants.{Csc}
use Rattle.riscv_decode.specs.declared.instr.UpperOp.{UpperOp}
use Rattle.riscv_decode.specs.declared.instr.UpperOp.TheVariants.{Auipcc}
use Rattle.riscv_decode.specs.declared.instr.OneOp.{OneOp}
use Rattle.riscv_decode.specs.declared.instr.OneOp.TheVariants.{Crrl, Cram, CMove, CClearTag, CSealEntry}
use Rattle.riscv_decode.specs.Decoded.{decoded}
use Rattle.asm_text.specs.Mnemonics.{mnemonic}
use Rattle.text_line.specs.Texts.{hexadecimal}

-- An operation on two registers derives a capability, or it compares two; and else it is one on integers.
abbrev pub derives : RegOp → Bool
derives CSetBounds = true
derives CSetBoundsExact = true
derives CAndPerm = true
derives CSetAddr = true
derives CIncOffset = true
derives _ = false

abbrev pub compares : RegOp → Bool
compares CSub = true
compares CTestSubset = true
compares CSeqx = true
compares _ = false

abbrev pub takes : RegOp → Bool
takes CSub = true
takes CTestSubset = true
takes CSeqx = true
takes op = derives op

-- one on a register and an immediate derives a capability
abbrev pub derives_by_immediate : ImmOp → Bool
derives_by_immediate CIncOffsetImm = true
derives_by_immediate CSetBoundsImm = true
derives_by_immediate _ = false

-- a load or a store is of a capability
abbrev pub loads_capability : LoadOp → Bool
loads_capability Clc = true
loads_capability _ = false

abbrev pub stores_capability : StoreOp → Bool
stores_capability Csc = true
stores_capability _ = false

-- an operation with an upper immediate gives a capability
abbrev pub gives_capability : UpperOp → Bool
gives_capability Auipcc = true
gives_capability _ = false

-- one on one register gives a capability, or is one on the parts of a capability
abbrev pub derives_from_one : OneOp → Bool
derives_from_one CMove = true
derives_from_one CClearTag = true
derives_from_one CSealEntry = true
derives_from_one _ = false

abbrev pub takes_one : OneOp → Bool
takes_one Crrl = false
takes_one Cram = false
takes_one _ = true

-- A register as an operand: `c` and its number where it is used as a capability, and `x` where it is used as an integer.
abbrev pub register : Bool → ℕ → List ℕ
register true n = codes "c" ++ decimal n
register false n = codes "x" ++ decimal n

-- what stands between two operands
abbrev pub comma : List ℕ
comma = codes ", "

-- two operands, and three
abbrev pub two : List ℕ → List ℕ → List ℕ
two first second = first ++ (comma ++ second)

abbrev pub three : List ℕ → List ℕ → List ℕ → List ℕ
three first second third = two first (two second third)

-- a place in memory: the distance from the address of a capability, and the capability
abbrev pub place : ℤ → ℕ → List ℕ
place distance rs1 = signed_decimal distance ++ (codes "(" ++ (register true rs1 ++ codes ")"))

-- The operands of an instruction, behind a space. A distance is a number.
abbrev pub operands : Instr → List ℕ
operands (Reg op rd rs1 rs2) = codes " " ++ three (register (derives op) rd) (register (takes op) rs1) (register (compares op) rs2)
operands (Imm op rd rs1 imm) = codes " " ++ three (register (derives_by_immediate op) rd) (register (derives_by_immediate op) rs1) (signed_decimal imm)
operands (Load op rd rs1 imm) = codes " " ++ two (register (loads_capability op) rd) (place imm rs1)
operands (Store op rs1 rs2 imm) = codes " " ++ two (register (stores_capability op) rs2) (place imm rs1)
operands (Branch op rs1 rs2 imm) = codes " " ++ three (register false rs1) (register false rs2) (signed_decimal imm)
operands (Upper op rd imm) = codes " " ++ two (register (gives_capability op) rd) (decimal imm)
operands (Jal rd imm) = codes " " ++ two (register true rd) (signed_decimal imm)
operands (Jalr rd rs1 imm) = codes " " ++ three (register true rd) (register true rs1) (signed_decimal imm)
operands (One op rd rs1) = codes " " ++ two (register (derives_from_one op) rd) (register (takes_one op) rs1)
operands Ecall = []
operands Ebreak = []
operands Fence = []

-- the statement of an instruction
abbrev pub instr_text : Instr → List ℕ
instr_text instr = mnemonic instr ++ operands instr

-- The statement of a word: that of its instruction, and the number itself where it is none.
abbrev pub text_of : Option Instr → ℕ → List ℕ
text_of (Some instr) word = instr_text instr
text_of None word = codes ".word 0x" ++ hexadecimal 8 word

unfoldable pub statement : ℕ → List ℕ
statement word = text_of (decoded word) word

-- the line of a word at an offset in the region
abbrev pub instr_line : ℕ → ℕ → List ℕ
instr_line offset word = hexadecimal 5 offset ++ (codes ": " ++ (hexadecimal 8 word ++ (codes " " ++ (statement word ++ codes "\n"))))
