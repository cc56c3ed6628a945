-- What the statements of words say to the assembler: each law is the contract of a function of this crate.
use Rattle.std.specs.Prelude.{◌≡◌, ◌≢◌, ℕ, ◌+◌, ◌^◌, ◌<◌, ◌≤◌, ℤ, pos, Option, Some, None, Ok, List, [], ◌∷◌, ◌++◌, All, flat_map, length, codes}
use Rattle.std.specs.Int.{w32, to_le_bytes}
use Rattle.riscv_decode.specs.declared.instr.Instr.{Instr}
use Rattle.riscv_decode.specs.declared.instr.Instr.TheVariants.{Reg, Imm, Load, Store, Branch, Upper, Jal, Jalr, One, Ecall, Ebreak, Fence}
use Rattle.riscv_decode.specs.Decoded.{decoded}
use Rattle.asm_text.specs.declared.listing.Item.{Item}
use Rattle.asm_text.specs.declared.listing.What.{What}
use Rattle.asm_text.specs.declared.listing.What.TheVariants as what
use Rattle.asm_text.specs.declared.listing.Value.TheVariants.{Number}
use Rattle.asm_text.specs.Source.{item, source_of}
use Rattle.asm_image.specs.Labels.{Offsets}
use Rattle.asm_image.specs.Faults.{AllMet}
use Rattle.asm_image.specs.Rules.{value_rules}
use Rattle.asm_image.specs.Values.{with_immediate, item_bytes}
use Rattle.asm_image.specs.Program.{Program, file_of}
use Rattle.asm_image.specs.Assembled.{file_from}
use Rattle.trace_tools.specs.Statements.{statement}

-- the immediate of an instruction, as the number that is written for it
abbrev pub immediate_of : Instr → ℤ
immediate_of (Reg op rd rs1 rs2) = pos 0
immediate_of (Imm op rd rs1 imm) = imm
immediate_of (Load op rd rs1 imm) = imm
immediate_of (Store op rs1 rs2 imm) = imm
immediate_of (Branch op rs1 rs2 imm) = imm
immediate_of (Upper op rd imm) = pos imm
immediate_of (Jal rd imm) = imm
immediate_of (Jalr rd rs1 imm) = imm
immediate_of (One op rd rs1) = pos 0
immediate_of Ecall = pos 0
immediate_of Ebreak = pos 0
immediate_of Fence = pos 0

-- what the statement of a word says: its instruction, or its number
abbrev pub what_of : Option Instr → ℕ → What
what_of (Some instr) word = what.Instr (with_immediate instr (pos 0)) (Number (immediate_of instr))
what_of None word = what.Bytes 4 (Number (pos word))

-- the items of words, one a line, from a line on
abbrev pub items_from : ℕ → List ℕ → List Item
items_from line [] = []
items_from line (word ∷ words) = item line (what_of (decoded word) word) ∷ items_from (line + 1) words

-- the statements of words, one a line
abbrev pub source : List ℕ → List ℕ
source words = flat_map (λ word. statement word ++ codes "\n") words

-- the same in a segment whose pages may be read and executed, with the entry at its start, and what it comes to
abbrev pub program_source : List ℕ → List ℕ
program_source words = codes ".segment 0 rx\n.entry start\nstart:\n" ++ source words

abbrev pub code_of : List ℕ → Program
code_of words = record {
  segments = record { start = 0; rights = 5; bytes = flat_map (to_le_bytes w32) words; bss = 0 } ∷ [];
  relocations = [];
  entry = 0;
}

-- a number of 32 bits
abbrev pub IsWord : ℕ → Type 0
IsWord word = word < 2 ^ 32

-- The statements of words are read as what the words say, instruction by instruction. The assembler refuses none of them for its value, and
-- gives the bytes of the word for it again. So what words were disassembled to is assembled to the words.
pub record StatementsGoBack : Type 0 where
  pub read : (words : List ℕ) → All IsWord words → length (source words) ≤ 1048576 → source_of (source words) ≡ Ok (items_from 1 words)
  pub fits : (text : List ℕ) (offsets : Offsets) (at line word : ℕ) → IsWord word → AllMet (value_rules text offsets at line (what_of (decoded word) word))
  pub same : (text : List ℕ) (offsets : Offsets) (at word : ℕ) → IsWord word → item_bytes text offsets at (what_of (decoded word) word) ≡ to_le_bytes w32 word
  pub assembled : (words : List ℕ) → words ≢ [] → All IsWord words → length words ≤ 2 ^ 18 → length (program_source words) ≤ 1048576
      → file_from (program_source words) ≡ Ok (file_of (code_of words))
