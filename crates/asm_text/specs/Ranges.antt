-- What the numbers of a listing may be.
use Rattle.std.specs.Prelude.{◌≡◌, ℕ, ◌^◌, ◌<◌, ◌≤◌, ℤ, pos, neg_ℤ, ◌≤ℤ◌, ◌<ℤ◌, true, ◌==◌, ◌||◌, List, All, Ok, ⊤}
use Rattle.riscv_decode.specs.declared.instr.Instr.{Instr}
use Rattle.riscv_decode.specs.declared.instr.Instr.TheVariants.{Reg, Imm, Load, Store, Branch, Upper, Jal, Jalr, One, Ecall, Ebreak, Fence}
use Rattle.asm_text.specs.declared.listing.Value.{Value}
use Rattle.asm_text.specs.declared.listing.Value.TheVariants as value
use Rattle.asm_text.specs.declared.listing.What.{What}
use Rattle.asm_text.specs.declared.listing.What.TheVariants as what
use Rattle.asm_text.specs.declared.listing.Item.{Item}
use Rattle.asm_text.specs.Source.{source_of}

-- a number of a text, and one that isn't negative
pub record IsNumber (n : ℤ) : Type 0 where
  pub least : neg_ℤ (pos (2 ^ 63)) ≤ℤ n
  pub past : n <ℤ pos (2 ^ 64)

pub record IsNatural (n : ℤ) : Type 0 where
  pub least : pos 0 ≤ℤ n
  pub past : n <ℤ pos (2 ^ 64)

abbrev pub IsValue : Value → Type 0
IsValue (value.Number n) = IsNumber n
IsValue (value.Name span) = ⊤

-- the registers of an instruction are those that there are
abbrev pub HasRegisters : Instr → Type 0
HasRegisters (Reg op rd rs1 rs2) = (rd < 32) × (rs1 < 32) × (rs2 < 32)
HasRegisters (Imm op rd rs1 imm) = (rd < 32) × (rs1 < 32)
HasRegisters (Load op rd rs1 imm) = (rd < 32) × (rs1 < 32)
HasRegisters (Store op rs1 rs2 imm) = (rs1 < 32) × (rs2 < 32)
HasRegisters (Branch op rs1 rs2 imm) = (rs1 < 32) × (rs2 < 32)
HasRegisters (Upper op rd imm) = rd < 32
HasRegisters (Jal rd imm) = rd < 32
HasRegisters (Jalr rd rs1 imm) = (rd < 32) × (rs1 < 32)
HasRegisters (One op rd rs1) = (rd < 32) × (rs1 < 32)
HasRegisters Ecall = ⊤
HasRegisters Ebreak = ⊤
HasRegisters Fence = ⊤

-- data has numbers of 1, 2, 4 or 8 bytes, and the pages of a segment may be read
abbrev pub HasRanges : What → Type 0
HasRanges (what.Label name) = ⊤
HasRanges (what.Segment at rights) = IsNatural at × (4 ≤ rights) × (rights ≤ 7)
HasRanges (what.Entry name) = ⊤
HasRanges (what.Bytes size value) = ((size == 1) || ((size == 2) || ((size == 4) || (size == 8))) ≡ true) × IsValue value
HasRanges (what.Ascii text) = ⊤
HasRanges (what.Space count) = IsNatural count
HasRanges (what.Align to) = IsNumber to
HasRanges (what.Bss count) = IsNatural count
HasRanges (what.Cap base length offset perms) = IsNumber length × IsNumber offset × IsNumber perms
HasRanges (what.Instr instr value) = HasRegisters instr × IsValue value

-- the numbers of a source are in their ranges
abbrev pub SourcesHaveRanges : Type 0
SourcesHaveRanges = (text : List ℕ) (items : List Item) → source_of text ≡ Ok items → All (λ item. HasRanges item.what) items
