-- The names of statements, each of which finds its own row.
use Rattle.std.proofs.Common.{◌≡◌, sym, refl, ℕ, Bool, true, List, [], ◌∷◌, Some, pos, inl, inr}
use Rattle.std.specs.Prelude.{find, bytes_eq}
use Rattle.std.proofs.lemmas.Bool.{cases_Bool}
use Rattle.std.proofs.lemmas.Slice.Eq.{bytes_eq-Decides}
use Rattle.riscv_decode.specs.declared.instr.Instr.{Instr}
use Rattle.riscv_decode.specs.declared.instr.Instr.TheVariants.{Reg, Imm, Load, Store, Branch, Upper, Jal, Jalr, One, Ecall, Ebreak, Fence}
use Rattle.riscv_decode.specs.declared.instr.RegOp.{RegOp}
use Rattle.riscv_decode.specs.declared.instr.RegOp.TheVariants.{Add}
use Rattle.riscv_decode.specs.declared.instr.ImmOp.{ImmOp}
use Rattle.riscv_decode.specs.declared.instr.ImmOp.TheVariants.{Addi}
use Rattle.riscv_decode.specs.declared.instr.LoadOp.{LoadOp}
use Rattle.riscv_decode.specs.declared.instr.LoadOp.TheVariants.{Lb}
use Rattle.riscv_decode.specs.declared.instr.StoreOp.{StoreOp}
use Rattle.riscv_decode.specs.declared.instr.StoreOp.TheVariants.{Sb}
use Rattle.riscv_decode.specs.declared.instr.BranchOp.{BranchOp}
use Rattle.riscv_decode.specs.declared.instr.BranchOp.TheVariants.{Beq}
use Rattle.riscv_decode.specs.declared.instr.UpperOp.{UpperOp}
use Rattle.riscv_decode.specs.declared.instr.UpperOp.TheVariants.{Lui}
use Rattle.riscv_decode.specs.declared.instr.OneOp.{OneOp}
use Rattle.riscv_decode.specs.declared.instr.OneOp.TheVariants.{CGetPerm}
use Rattle.asm_text.specs.declared.operands.Operands.{Operands}
use Rattle.asm_text.specs.declared.statements.DataSize.{DataSize}
use Rattle.asm_text.specs.declared.statements.DataSize.TheVariants.{Byte}
use Rattle.asm_text.specs.declared.statements.Statement.{Statement}
use Rattle.asm_text.specs.declared.statements.Statement.TheVariants as statement
use Rattle.asm_text.specs.declared.statements.TheConstants.{STATEMENTS}
use Rattle.asm_text.specs.Mnemonics.{reg_name, imm_name, load_name, store_name, branch_name, upper_name, one_name, mnemonic}
use Rattle.asm_text.specs.Statements.{data_name, name_of, statement_named, with_registers}

-- the names of operations on two registers find their rows
reg-named : (op : RegOp) → statement_named (reg_name op) ≡ Some (statement.Instr (Reg op 0 0 0))
reg-named Add = refl
reg-named _ = refl

-- and so do those on a register and an immediate
imm-named : (op : ImmOp) → statement_named (imm_name op) ≡ Some (statement.Instr (Imm op 0 0 (pos 0)))
imm-named Addi = refl
imm-named _ = refl

-- those of loads
load-named : (op : LoadOp) → statement_named (load_name op) ≡ Some (statement.Instr (Load op 0 0 (pos 0)))
load-named Lb = refl
load-named _ = refl

-- those of stores
store-named : (op : StoreOp) → statement_named (store_name op) ≡ Some (statement.Instr (Store op 0 0 (pos 0)))
store-named Sb = refl
store-named _ = refl

-- those of branches
branch-named : (op : BranchOp) → statement_named (branch_name op) ≡ Some (statement.Instr (Branch op 0 0 (pos 0)))
branch-named Beq = refl
branch-named _ = refl

-- those with an upper immediate
upper-named : (op : UpperOp) → statement_named (upper_name op) ≡ Some (statement.Instr (Upper op 0 0))
upper-named Lui = refl
upper-named _ = refl

-- and those on one register
one-named : (op : OneOp) → statement_named (one_name op) ≡ Some (statement.Instr (One op 0 0))
one-named CGetPerm = refl
one-named _ = refl

-- the name of an instruction is found as its row
pub instr-named : (instr : Instr) (operands : Operands) → (found : Instr) × (statement_named (mnemonic instr) ≡ Some (statement.Instr found)) × (with_registers found operands ≡ with_registers instr operands)
instr-named (Reg op rd rs1 rs2) operands = (Reg op 0 0 0, reg-named op, refl)
instr-named (Imm op rd rs1 value) operands = (Imm op 0 0 (pos 0), imm-named op, refl)
instr-named (Load op rd rs1 value) operands = (Load op 0 0 (pos 0), load-named op, refl)
instr-named (Store op rs1 rs2 value) operands = (Store op 0 0 (pos 0), store-named op, refl)
instr-named (Branch op rs1 rs2 value) operands = (Branch op 0 0 (pos 0), branch-named op, refl)
instr-named (Upper op rd value) operands = (Upper op 0 0, upper-named op, refl)
instr-named (Jal rd value) operands = (Jal 0 (pos 0), refl, refl)
instr-named (Jalr rd rs1 value) operands = (Jalr 0 0 (pos 0), refl, refl)
instr-named (One op rd rs1) operands = (One op 0 0, one-named op, refl)
instr-named Ecall operands = (Ecall, refl, refl)
instr-named Ebreak operands = (Ebreak, refl, refl)
instr-named Fence operands = (Fence, refl, refl)

-- what is found passes the test
found-passes : {X : Type 0} (test : X → Bool) (all : List X) (found : X) → find test all ≡ Some found → test found ≡ true
found-passes test [] found is = cc
found-passes test (first ∷ others) found is = elim (cases_Bool (test first)) [
  | inl passes ↦
      let here : Some first ≡ Some found = rw passes at is in
      let same : first ≡ found = cc in
      rw (← same) passes
  | inr fails ↦ found-passes test others found (rw fails at is)
]

-- a statement is found by its name alone
pub named-as : (name : List ℕ) (found : Statement) → statement_named name ≡ Some found → name ≡ name_of found
named-as name found is = sym ((bytes_eq-Decides (name_of found) name).0 (found-passes (λ row. bytes_eq (name_of row) name) STATEMENTS found is))

-- registers don't change the name of an instruction
pub name-kept : (instr : Instr) (operands : Operands) → mnemonic (with_registers instr operands) ≡ mnemonic instr
name-kept (Reg op rd rs1 rs2) operands = refl
name-kept _ operands = refl

-- the names of directives for data find their rows
pub data-named : (size : DataSize) → statement_named (data_name size) ≡ Some (statement.Data size)
data-named Byte = refl
data-named _ = refl
