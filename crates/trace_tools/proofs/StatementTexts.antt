-- The statement of a word, by what it is decoded as.
use Rattle.std.proofs.Common.{◌≡◌, ℕ, ap, Some, None, ◌++◌, codes}
use Rattle.riscv_decode.specs.declared.instr.Instr.{Instr}
use Rattle.riscv_decode.specs.Decoded.{decoded}
use Rattle.text_line.specs.Texts.{hexadecimal}
use Rattle.trace_tools.specs.Statements.{instr_text, text_of, statement}

-- that of an instruction
pub statement-instr : (word : ℕ) (instr : Instr) → decoded word ≡ Some instr → statement word ≡ instr_text instr
unfolding statement
statement-instr word instr is = ap (λ found. text_of found word) is

-- and of a word that is none
pub statement-word : (word : ℕ) → decoded word ≡ None → statement word ≡ codes ".word 0x" ++ hexadecimal 8 word
unfolding statement
statement-word word is = ap (λ found. text_of found word) is
