-- The tokens of an instruction's statement are found one after another.
use Rattle.std.proofs.Common.{◌≡◌, refl, ℕ, ◌<◌, ◌^◌, Bool, true, false, ℤ, pos, ◌-ℤ◌, List, [], ◌∷◌, arith}
use Rattle.std.specs.Fmt.{signed_decimal}
use Rattle.std.proofs.lemmas.Int.{ints}
use Rattle.riscv_decode.specs.declared.instr.Instr.{Instr}
use Rattle.riscv_decode.specs.declared.instr.Instr.TheVariants.{Reg, Imm, Load, Store, Branch, Upper, Jal, Jalr, One, Ecall, Ebreak, Fence}
use Rattle.riscv_decode.specs.Rows.{Format, format_unsigned, format_shift6, format_shift5, imm_row}
use Rattle.riscv_decode.specs.Table.{IsInRange, IsFrom, IsSigned12, IsImmediateIn}
use Rattle.asm_text.specs.declared.tokens.Token.TheVariants.{Word, Number, Comma, Open, Close}
use Rattle.asm_text.specs.Bytes.{is_in_word}
use Rattle.asm_text.specs.Scanning.{run_length}
use Rattle.asm_text.specs.Mnemonics.{mnemonic}
use Rattle.trace_tools.specs.Statements.{derives, compares, takes, derives_by_immediate, loads_capability, stores_capability, gives_capability, derives_from_one, takes_one, register}
use Rattle.trace_tools.proofs.Parts.{text-of, IsPart, AreParts}
use Rattle.trace_tools.proofs.WordParts.{word-part, mark-part}
use Rattle.trace_tools.proofs.NumberParts.{signed-part}
use Rattle.trace_tools.proofs.InstrParts.{at, pieces-of, instr-pieces}
use Rattle.trace_tools.proofs.InstrWords.{mnemonic-word, register-word}

-- a register is found
reg-part : (is : Bool) (n : ℕ) (rest : List ℕ) → run_length is_in_word rest ≡ 0 → IsPart (register is n) Word rest
reg-part is n rest none = word-part (register is n) rest (register-word is n) none

-- a comma is
comma-part : (rest : List ℕ) → IsPart (44 ∷ []) Comma rest
comma-part rest = mark-part 44 Comma rest refl refl refl refl refl

-- a number of 21 bits with a sign
IsNear : ℤ → Type 0
IsNear n = IsFrom (pos 0 -ℤ pos 1048576) (pos 1048576) n

-- is found
number-part : (n : ℤ) (rest : List ℕ) → IsNear n → run_length is_in_word rest ≡ 0 → IsPart (signed_decimal n) (Number n) rest
unfolding IsNear
number-part n rest near none = signed-part n rest (omega (arith, ints, near.0)) (omega (arith, ints, near.1)) none

-- and so is a place in memory
at-parts : (distance : ℤ) (rs1 : ℕ) → IsNear distance → AreParts (at distance rs1)
at-parts distance rs1 near = (
  number-part distance _ near refl,
  (mark-part 40 Open _ refl refl refl refl refl, (reg-part true rs1 _ refl, (mark-part 41 Close _ refl refl refl refl refl, tt))),
)

-- the immediate of an instruction in range is such a number: one of 12 bits
signed12-near : (n : ℤ) → IsSigned12 n → IsNear n
unfolding IsNear
signed12-near n is = (omega (arith, ints, is.0, is.1), omega (arith, ints, is.0, is.1))

-- that of a row of opcode 13, 1b or 5b
format-near : (format : Format) (n : ℤ) → IsImmediateIn format n → IsNear n
unfolding IsNear
format-near format_unsigned n is = (omega (arith, ints, is.0, is.1), omega (arith, ints, is.0, is.1))
format-near format_shift6 n is = (omega (arith, ints, is.0, is.1), omega (arith, ints, is.0, is.1))
format-near format_shift5 n is = (omega (arith, ints, is.0, is.1), omega (arith, ints, is.0, is.1))
format-near _ n is = signed12-near n is

-- that of a branch
wider-near : (n : ℤ) → IsFrom (pos 0 -ℤ pos 4096) (pos 4096) n → IsNear n
unfolding IsNear
wider-near n is = (omega (arith, ints, is.0, is.1), omega (arith, ints, is.0, is.1))

-- an upper immediate
natural-near : (n : ℕ) → n < 2 ^ 20 → IsNear (pos n)
unfolding IsNear
natural-near n small = (omega (arith, ints), omega (arith, ints))

-- and that of a jump
same-near : (n : ℤ) → IsFrom (pos 0 -ℤ pos 1048576) (pos 1048576) n → IsNear n
unfolding IsNear
same-near n is = is

-- the operands of an instruction are found
parts-behind : (instr : Instr) → IsInRange instr → AreParts (pieces-of instr)
parts-behind (Reg op rd rs1 rs2) range =
    (reg-part (derives op) rd _ refl, (comma-part _, (reg-part (takes op) rs1 _ refl, (comma-part _, (reg-part (compares op) rs2 _ refl, tt)))))
parts-behind (Imm op rd rs1 imm) range = (
  reg-part (derives_by_immediate op) rd _ refl,
  (
    comma-part _,
    (
      reg-part (derives_by_immediate op) rs1 _ refl,
      (
        comma-part _,
        (number-part imm _ (format-near (imm_row op).format imm range.2) refl, tt),
      ),
    ),
  ),
)
parts-behind (Load op rd rs1 imm) range = (reg-part (loads_capability op) rd _ refl, (comma-part _, at-parts imm rs1 (signed12-near imm range.2)))
parts-behind (Store op rs1 rs2 imm) range = (reg-part (stores_capability op) rs2 _ refl, (comma-part _, at-parts imm rs1 (signed12-near imm range.2)))
parts-behind (Branch op rs1 rs2 imm) range =
    (reg-part false rs1 _ refl, (comma-part _, (reg-part false rs2 _ refl, (comma-part _, (number-part imm _ (wider-near imm range.2) refl, tt)))))
parts-behind (Upper op rd imm) range = (reg-part (gives_capability op) rd _ refl, (comma-part _, (number-part (pos imm) _ (natural-near imm range.1) refl, tt)))
parts-behind (Jal rd imm) range = (reg-part true rd _ refl, (comma-part _, (number-part imm _ (same-near imm range.1) refl, tt)))
parts-behind (Jalr rd rs1 imm) range =
    (reg-part true rd _ refl, (comma-part _, (reg-part true rs1 _ refl, (comma-part _, (number-part imm _ (signed12-near imm range.2) refl, tt)))))
parts-behind (One op rd rs1) range = (reg-part (derives_from_one op) rd _ refl, (comma-part _, (reg-part (takes_one op) rs1 _ refl, tt)))
parts-behind Ecall range = tt
parts-behind Ebreak range = tt
parts-behind Fence range = tt

-- no byte of a word stands behind its name
name-ends : (instr : Instr) → run_length is_in_word (text-of (pieces-of instr)) ≡ 0
name-ends (Reg op rd rs1 rs2) = refl
name-ends _ = refl

-- so the tokens of its statement are found
pub instr-parts : (instr : Instr) → IsInRange instr → AreParts (instr-pieces instr)
instr-parts instr range = (word-part (mnemonic instr) (text-of (pieces-of instr)) (mnemonic-word instr) (name-ends instr), parts-behind instr range)
