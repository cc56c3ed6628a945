-- Decoding finds exactly the rows of the table, and decoding and encoding undo each other.
use Rattle.std.specs.Prelude.{◌≡◌, ◌↔◌, ℕ, ◌<◌, ◌^◌, Some}
use Rattle.riscv_decode.specs.declared.instr.Instr.{Instr}
use Rattle.riscv_decode.specs.Table.{IsRow, IsInRange}
use Rattle.riscv_decode.specs.Decoded.{decoded}
use Rattle.riscv_decode.specs.Encoded.{word_of}

-- a word has the row of an instruction exactly where it is decoded as the instruction
abbrev pub EachRowIsDecoded : Type 0
EachRowIsDecoded = (word : ℕ) (i : Instr) → IsRow word i ↔ (decoded word ≡ Some i)

-- The word that is made of an instruction in range is decoded as the instruction, and the instruction of a word of 32 bits is in
-- range and has that word.
pub record WordsGoRound : Type 0 where
  pub encoded : (i : Instr) → IsInRange i → (word_of i < 2 ^ 32) × (decoded (word_of i) ≡ Some i)
  pub decoded : (word : ℕ) (i : Instr) → word < 2 ^ 32 → decoded word ≡ Some i → IsInRange i × (word_of i ≡ word)
