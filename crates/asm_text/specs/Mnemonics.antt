-- The names of instructions. Those of integers are after the RISC-V unprivileged ISA, and those of capabilities are this project's own.
use Rattle.std.specs.Prelude.{ℕ, List, codes}
use Rattle.riscv_decode.specs.declared.instr.Instr.{Instr}
use Rattle.riscv_decode.specs.declared.instr.Instr.TheVariants.{Reg, Imm, Load, Store, Branch, Upper, Jal, Jalr, One, Ecall, Ebreak, Fence}
use Rattle.riscv_decode.specs.declared.instr.RegOp.{RegOp}
use Rattle.riscv_decode.specs.declared.instr.RegOp.TheVariants as reg
use Rattle.riscv_decode.specs.declared.instr.ImmOp.{ImmOp}
use Rattle.riscv_decode.specs.declared.instr.ImmOp.TheVariants as imm
use Rattle.riscv_decode.specs.declared.instr.LoadOp.{LoadOp}
use Rattle.riscv_decode.specs.declared.instr.LoadOp.TheVariants as load
use Rattle.riscv_decode.specs.declared.instr.StoreOp.{StoreOp}
use Rattle.riscv_decode.specs.declared.instr.StoreOp.TheVariants as store
use Rattle.riscv_decode.specs.declared.instr.BranchOp.{BranchOp}
use Rattle.riscv_decode.specs.declared.instr.BranchOp.TheVariants as branch
use Rattle.riscv_decode.specs.declared.instr.UpperOp.{UpperOp}
use Rattle.riscv_decode.specs.declared.instr.UpperOp.TheVariants as upper
use Rattle.riscv_decode.specs.declared.instr.OneOp.{OneOp}
use Rattle.riscv_decode.specs.declared.instr.OneOp.TheVariants as one

-- an operation on two registers
abbrev pub reg_name : RegOp → List ℕ
reg_name reg.Add = codes "add"
reg_name reg.Sub = codes "sub"
reg_name reg.Sll = codes "sll"
reg_name reg.Slt = codes "slt"
reg_name reg.Sltu = codes "sltu"
reg_name reg.Xor = codes "xor"
reg_name reg.Srl = codes "srl"
reg_name reg.Sra = codes "sra"
reg_name reg.Or = codes "or"
reg_name reg.And = codes "and"
reg_name reg.Mul = codes "mul"
reg_name reg.Mulh = codes "mulh"
reg_name reg.Mulhsu = codes "mulhsu"
reg_name reg.Mulhu = codes "mulhu"
reg_name reg.Div = codes "div"
reg_name reg.Divu = codes "divu"
reg_name reg.Rem = codes "rem"
reg_name reg.Remu = codes "remu"
reg_name reg.Addw = codes "addw"
reg_name reg.Subw = codes "subw"
reg_name reg.Sllw = codes "sllw"
reg_name reg.Srlw = codes "srlw"
reg_name reg.Sraw = codes "sraw"
reg_name reg.Mulw = codes "mulw"
reg_name reg.Divw = codes "divw"
reg_name reg.Divuw = codes "divuw"
reg_name reg.Remw = codes "remw"
reg_name reg.Remuw = codes "remuw"
reg_name reg.CSetBounds = codes "csetbounds"
reg_name reg.CSetBoundsExact = codes "csetboundsexact"
reg_name reg.CAndPerm = codes "candperm"
reg_name reg.CSetAddr = codes "csetaddr"
reg_name reg.CIncOffset = codes "cincoffset"
reg_name reg.CSub = codes "csub"
reg_name reg.CTestSubset = codes "ctestsubset"
reg_name reg.CSeqx = codes "cseqx"

-- one on a register and an immediate
abbrev pub imm_name : ImmOp → List ℕ
imm_name imm.Addi = codes "addi"
imm_name imm.Slti = codes "slti"
imm_name imm.Sltiu = codes "sltiu"
imm_name imm.Xori = codes "xori"
imm_name imm.Ori = codes "ori"
imm_name imm.Andi = codes "andi"
imm_name imm.Slli = codes "slli"
imm_name imm.Srli = codes "srli"
imm_name imm.Srai = codes "srai"
imm_name imm.Addiw = codes "addiw"
imm_name imm.Slliw = codes "slliw"
imm_name imm.Srliw = codes "srliw"
imm_name imm.Sraiw = codes "sraiw"
imm_name imm.CIncOffsetImm = codes "cincoffsetimm"
imm_name imm.CSetBoundsImm = codes "csetboundsimm"

-- a load
abbrev pub load_name : LoadOp → List ℕ
load_name load.Lb = codes "lb"
load_name load.Lh = codes "lh"
load_name load.Lw = codes "lw"
load_name load.Ld = codes "ld"
load_name load.Lbu = codes "lbu"
load_name load.Lhu = codes "lhu"
load_name load.Lwu = codes "lwu"
load_name load.Clc = codes "clc"

-- a store
abbrev pub store_name : StoreOp → List ℕ
store_name store.Sb = codes "sb"
store_name store.Sh = codes "sh"
store_name store.Sw = codes "sw"
store_name store.Sd = codes "sd"
store_name store.Csc = codes "csc"

-- a branch
abbrev pub branch_name : BranchOp → List ℕ
branch_name branch.Beq = codes "beq"
branch_name branch.Bne = codes "bne"
branch_name branch.Blt = codes "blt"
branch_name branch.Bge = codes "bge"
branch_name branch.Bltu = codes "bltu"
branch_name branch.Bgeu = codes "bgeu"

-- an operation with an upper immediate
abbrev pub upper_name : UpperOp → List ℕ
upper_name upper.Lui = codes "lui"
upper_name upper.Auipcc = codes "auipcc"

-- one on one register
abbrev pub one_name : OneOp → List ℕ
one_name one.CGetPerm = codes "cgetperm"
one_name one.CGetBase = codes "cgetbase"
one_name one.CGetLen = codes "cgetlen"
one_name one.CGetTag = codes "cgettag"
one_name one.CGetSealed = codes "cgetsealed"
one_name one.CGetOffset = codes "cgetoffset"
one_name one.Crrl = codes "crrl"
one_name one.Cram = codes "cram"
one_name one.CMove = codes "cmove"
one_name one.CClearTag = codes "ccleartag"
one_name one.CGetAddr = codes "cgetaddr"
one_name one.CSealEntry = codes "csealentry"

-- the name of an instruction
abbrev pub mnemonic : Instr → List ℕ
mnemonic (Reg op rd rs1 rs2) = reg_name op
mnemonic (Imm op rd rs1 value) = imm_name op
mnemonic (Load op rd rs1 value) = load_name op
mnemonic (Store op rs1 rs2 value) = store_name op
mnemonic (Branch op rs1 rs2 value) = branch_name op
mnemonic (Upper op rd value) = upper_name op
mnemonic (Jal rd value) = codes "cjal"
mnemonic (Jalr rd rs1 value) = codes "cjalr"
mnemonic (One op rd rs1) = one_name op
mnemonic Ecall = codes "ecall"
mnemonic Ebreak = codes "ebreak"
mnemonic Fence = codes "fence"
