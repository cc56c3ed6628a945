-- The names of instructions and of registers are words.
use Rattle.std.proofs.Common.{◌≡◌, refl, ℕ, Bool, true, false, List, [], ◌∷◌}
use Rattle.std.specs.Prelude.{decimal}
use Rattle.std.proofs.lemmas.Bool.{and_from, and_parts, or_right}
use Rattle.riscv_decode.specs.declared.instr.Instr.{Instr}
use Rattle.riscv_decode.specs.declared.instr.Instr.TheVariants.{Reg, Imm, Load, Store, Branch, Upper, One}
use Rattle.riscv_decode.specs.declared.instr.RegOp.{RegOp}
use Rattle.riscv_decode.specs.declared.instr.RegOp.TheVariants.{Add}
use Rattle.riscv_decode.specs.declared.instr.ImmOp.{ImmOp}
use Rattle.riscv_decode.specs.declared.instr.ImmOp.TheVariants.{Addi}
use Rattle.riscv_decode.specs.declared.instr.LoadOp.{LoadOp}
use Rattle.riscv_decode.specs.declared.instr.LoadOp.TheVariants.{Lb}
use Rattle.riscv_decode.specs.declared.instr.StoreOp.{StoreOp}
use Rattle.riscv_decode.specs.declared.instr.StoreOp.TheVariants.{Sb}
use Rattle.riscv_decode.specs.declared.instr.BranchOp.{BranchOp}
use Rattle.riscv_decode.specs.declared.instr.BranchOp.TheVariants.{Beq}
use Rattle.riscv_decode.specs.declared.instr.UpperOp.{UpperOp}
use Rattle.riscv_decode.specs.declared.instr.UpperOp.TheVariants.{Lui}
use Rattle.riscv_decode.specs.declared.instr.OneOp.{OneOp}
use Rattle.riscv_decode.specs.declared.instr.OneOp.TheVariants.{CGetPerm}
use Rattle.asm_text.specs.Bytes.{is_digit, is_in_word, are}
use Rattle.asm_text.specs.Tokens.{is_word}
use Rattle.asm_text.specs.Mnemonics.{reg_name, imm_name, load_name, store_name, branch_name, upper_name, one_name, mnemonic}
use Rattle.asm_text.proofs.Decimals.{decimal-digits}
use Rattle.trace_tools.specs.Statements.{register}

-- the names of operations on two registers are words
reg-word : (op : RegOp) → is_word (reg_name op) ≡ true
reg-word Add = refl
reg-word _ = refl

-- those on a register and an immediate
imm-word : (op : ImmOp) → is_word (imm_name op) ≡ true
imm-word Addi = refl
imm-word _ = refl

-- those of loads
load-word : (op : LoadOp) → is_word (load_name op) ≡ true
load-word Lb = refl
load-word _ = refl

-- of stores
store-word : (op : StoreOp) → is_word (store_name op) ≡ true
store-word Sb = refl
store-word _ = refl

-- of branches
branch-word : (op : BranchOp) → is_word (branch_name op) ≡ true
branch-word Beq = refl
branch-word _ = refl

-- those with an upper immediate
upper-word : (op : UpperOp) → is_word (upper_name op) ≡ true
upper-word Lui = refl
upper-word _ = refl

-- and those on one register
one-word : (op : OneOp) → is_word (one_name op) ≡ true
one-word CGetPerm = refl
one-word _ = refl

-- so the name of an instruction is one
pub mnemonic-word : (instr : Instr) → is_word (mnemonic instr) ≡ true
mnemonic-word (Reg op rd rs1 rs2) = reg-word op
mnemonic-word (Imm op rd rs1 imm) = imm-word op
mnemonic-word (Load op rd rs1 imm) = load-word op
mnemonic-word (Store op rs1 rs2 imm) = store-word op
mnemonic-word (Branch op rs1 rs2 imm) = branch-word op
mnemonic-word (Upper op rd imm) = upper-word op
mnemonic-word (One op rd rs1) = one-word op
mnemonic-word _ = refl

-- digits stand in words
digits-in-word : (bytes : List ℕ) → are is_digit bytes ≡ true → are is_in_word bytes ≡ true
digits-in-word [] all = refl
digits-in-word (byte ∷ bytes) all =
    let parts = and_parts (is_digit byte) (are is_digit bytes) all in
    and_from _ _ (or_right _ _ parts.0) (digits-in-word bytes parts.1)

-- a register is a word
pub register-word : (is : Bool) (n : ℕ) → is_word (register is n) ≡ true
register-word true n = digits-in-word (decimal n) (decimal-digits n)
register-word false n = digits-in-word (decimal n) (decimal-digits n)
