-- The statement of an instruction as a row of tokens, and what they say.
use Rattle.std.proofs.Common.{◌≡◌, refl, ℕ, ◌<◌, Bool, true, false, ℤ, pos, List, [], ◌∷◌, Some, append-nil, inl, inr, arith}
use Rattle.std.specs.Prelude.{decimal}
use Rattle.std.specs.Fmt.{signed_decimal}
use Rattle.riscv_decode.specs.declared.instr.Instr.{Instr}
use Rattle.riscv_decode.specs.declared.instr.Instr.TheVariants.{Reg, Imm, Load, Store, Branch, Upper, Jal, Jalr, One, Ecall, Ebreak, Fence}
use Rattle.riscv_decode.specs.Table.{IsInRange}
use Rattle.asm_text.specs.declared.tokens.Token.TheVariants as token
use Rattle.asm_text.specs.declared.listing.Value.TheVariants as value
use Rattle.asm_text.specs.declared.operands.Operands.{Operands}
use Rattle.asm_text.specs.Mnemonics.{mnemonic}
use Rattle.asm_text.specs.Statements.{register_of, instr_form, no_operands}
use Rattle.asm_text.proofs.RegisterNames.{register-read}
use Rattle.trace_tools.specs.Statements.{derives, compares, takes, derives_by_immediate, loads_capability, stores_capability, gives_capability, derives_from_one, takes_one, register, instr_text}
use Rattle.trace_tools.proofs.Parts.{Piece, Blank, Part, text-of}
use Rattle.trace_tools.proofs.PartsRead.{filled-by}

-- a register as an operand
abbrev pub reg : Bool → ℕ → Piece
reg is n = Part (register is n) token.Word

-- a number as an operand
abbrev pub number : ℤ → Piece
number n = Part (signed_decimal n) (token.Number n)

-- a comma
abbrev pub comma : Piece
comma = Part (44 ∷ []) token.Comma

-- a place in memory
abbrev pub at : ℤ → ℕ → List Piece
at distance rs1 = number distance ∷ Part (40 ∷ []) token.Open ∷ reg true rs1 ∷ Part (41 ∷ []) token.Close ∷ []

-- the operands of an instruction, behind its name
abbrev pub pieces-of : Instr → List Piece
pieces-of (Reg op rd rs1 rs2) = Blank ∷ reg (derives op) rd ∷ comma ∷ Blank ∷ reg (takes op) rs1 ∷ comma ∷ Blank ∷ reg (compares op) rs2 ∷ []
pieces-of (Imm op rd rs1 imm) = Blank ∷ reg (derives_by_immediate op) rd ∷ comma ∷ Blank ∷ reg (derives_by_immediate op) rs1 ∷ comma ∷ Blank ∷ number imm ∷ []
pieces-of (Load op rd rs1 imm) = Blank ∷ reg (loads_capability op) rd ∷ comma ∷ Blank ∷ at imm rs1
pieces-of (Store op rs1 rs2 imm) = Blank ∷ reg (stores_capability op) rs2 ∷ comma ∷ Blank ∷ at imm rs1
pieces-of (Branch op rs1 rs2 imm) = Blank ∷ reg false rs1 ∷ comma ∷ Blank ∷ reg false rs2 ∷ comma ∷ Blank ∷ number imm ∷ []
pieces-of (Upper op rd imm) = Blank ∷ reg (gives_capability op) rd ∷ comma ∷ Blank ∷ number (pos imm) ∷ []
pieces-of (Jal rd imm) = Blank ∷ reg true rd ∷ comma ∷ Blank ∷ number imm ∷ []
pieces-of (Jalr rd rs1 imm) = Blank ∷ reg true rd ∷ comma ∷ Blank ∷ reg true rs1 ∷ comma ∷ Blank ∷ number imm ∷ []
pieces-of (One op rd rs1) = Blank ∷ reg (derives_from_one op) rd ∷ comma ∷ Blank ∷ reg (takes_one op) rs1 ∷ []
pieces-of Ecall = []
pieces-of Ebreak = []
pieces-of Fence = []

-- and all of its statement
abbrev pub instr-pieces : Instr → List Piece
instr-pieces instr = Part (mnemonic instr) token.Word ∷ pieces-of instr

-- the bytes of those are its statement
pub instr-text : (instr : Instr) → text-of (instr-pieces instr) ≡ instr_text instr
instr-text (Reg op rd rs1 rs2) = rw (append-nil (register (compares op) rs2)) refl
instr-text (Imm op rd rs1 imm) = rw (append-nil (signed_decimal imm)) refl
instr-text (Load op rd rs1 imm) = refl
instr-text (Store op rs1 rs2 imm) = refl
instr-text (Branch op rs1 rs2 imm) = rw (append-nil (signed_decimal imm)) refl
instr-text (Upper op rd imm) = rw (append-nil (decimal imm)) refl
instr-text (Jal rd imm) = rw (append-nil (signed_decimal imm)) refl
instr-text (Jalr rd rs1 imm) = rw (append-nil (signed_decimal imm)) refl
instr-text (One op rd rs1) = rw (append-nil (register (takes_one op) rs1)) refl
instr-text Ecall = refl
instr-text Ebreak = refl
instr-text Fence = refl

-- the operands that an instruction has
abbrev pub operands-of : Instr → Operands
operands-of (Reg op rd rs1 rs2) = record no_operands { rd = rd; rs1 = rs1; rs2 = rs2 }
operands-of (Imm op rd rs1 imm) = record no_operands { rd = rd; rs1 = rs1; value = value.Number imm }
operands-of (Load op rd rs1 imm) = record no_operands { rd = rd; rs1 = rs1; value = value.Number imm }
operands-of (Store op rs1 rs2 imm) = record no_operands { rs1 = rs1; rs2 = rs2; value = value.Number imm }
operands-of (Branch op rs1 rs2 imm) = record no_operands { rs1 = rs1; rs2 = rs2; value = value.Number imm }
operands-of (Upper op rd imm) = record no_operands { rd = rd; value = value.Number (pos imm) }
operands-of (Jal rd imm) = record no_operands { rd = rd; value = value.Number imm }
operands-of (Jalr rd rs1 imm) = record no_operands { rd = rd; rs1 = rs1; value = value.Number imm }
operands-of (One op rd rs1) = record no_operands { rd = rd; rs1 = rs1 }
operands-of Ecall = no_operands
operands-of Ebreak = no_operands
operands-of Fence = no_operands

-- either name of a register is read
register-reads : (is : Bool) (n : ℕ) → n < 32 → register_of (register is n) ≡ Some n
register-reads true n small = register-read n (99 ∷ decimal n) (omega arith) (inr refl)
register-reads false n small = register-read n (120 ∷ decimal n) (omega arith) (inl refl)

-- the tokens say the operands
pub instr-filled : (instr : Instr) → IsInRange instr → filled-by (pieces-of instr) (instr_form instr) no_operands ≡ Some (operands-of instr)
instr-filled (Reg op rd rs1 rs2) range = rw (register-reads (derives op) rd range.0, register-reads (takes op) rs1 range.1, register-reads (compares op) rs2 range.2) refl
instr-filled (Imm op rd rs1 imm) range = rw (register-reads (derives_by_immediate op) rd range.0, register-reads (derives_by_immediate op) rs1 range.1) refl
instr-filled (Load op rd rs1 imm) range = rw (register-reads (loads_capability op) rd range.0, register-reads true rs1 range.1) refl
instr-filled (Store op rs1 rs2 imm) range = rw (register-reads (stores_capability op) rs2 range.1, register-reads true rs1 range.0) refl
instr-filled (Branch op rs1 rs2 imm) range = rw (register-reads false rs1 range.0, register-reads false rs2 range.1) refl
instr-filled (Upper op rd imm) range = rw (register-reads (gives_capability op) rd range.0) refl
instr-filled (Jal rd imm) range = rw (register-reads true rd range.0) refl
instr-filled (Jalr rd rs1 imm) range = rw (register-reads true rd range.0, register-reads true rs1 range.1) refl
instr-filled (One op rd rs1) range = rw (register-reads (derives_from_one op) rd range.0, register-reads (takes_one op) rs1 range.1) refl
instr-filled Ecall range = refl
instr-filled Ebreak range = refl
instr-filled Fence range = refl
