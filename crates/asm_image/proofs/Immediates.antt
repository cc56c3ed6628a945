-- Which numbers fit an instruction.
use Rattle.std.proofs.Common.{◌≡◌, ◌∙◌, ap, ◌↔◌, ◌⊎◌, inl, inr, refl, subst, true, Result, Ok, Err, Option, Some, None, IsSome, IfSome, ℕ, ◌^◌, ◌<◌, SFits, w32, ℤ, pos, negsuc, ◌-ℤ◌, ◌≤ℤ◌, ◌<ℤ◌, neg_ℤ, Decides, arith}
use Rattle.std.specs.Prelude.{OkIff}
use Rattle.std.specs.Result.{result_unwrap_or}
use Rattle.std.proofs.lemmas.Bool.Decides.{nat_tests, Decides-and}
use Rattle.std.proofs.lemmas.Int.{ints}
use Rattle.riscv_decode.specs.declared.instr.Instr.{Instr}
use Rattle.riscv_decode.specs.declared.instr.Instr.TheVariants.{Reg, Imm, Load, Store, Branch, Upper, Jal, Jalr, One}
use Rattle.riscv_decode.specs.Rows.{Format, format_unsigned, format_shift6, format_shift5, imm_row}
use Rattle.riscv_decode.specs.Table.{IsFrom, IsEven, IsSigned12, IsImmediateIn, IsInRange}
use Rattle.riscv_decode.specs.Encoded.{word_of}
use Rattle.asm_text.specs.Ranges.{HasRegisters}
use Rattle.asm_image.specs.Places.{natural}
use Rattle.asm_image.specs.Values.{is_from, is_even, is_signed12, fits_format, fits_instr, with_immediate, HasSign}
use Rattle.asm_image.specs.Laws.{RangesAreTheTables}

-- A number is tested to be in a range.
pub Decides-from : (least most past n : ℤ) → past -ℤ pos 1 ≡ most → Decides (is_from least most n) (IsFrom least past n)
Decides-from least most past n next = (λ within. (grind (arith, ints), grind (arith, ints)), λ within. grind (arith, ints))

-- and to be even
Decides-even : (n : ℤ) → Decides (is_even n) (IsEven n)
Decides-even n = (λ even. grind (arith, ints, nat_tests), λ even. grind (arith, ints, nat_tests))

-- the ranges of 12 bits with a sign, and of the formats
Decides-signed12 : (n : ℤ) → Decides (is_signed12 n) (IsSigned12 n)
Decides-signed12 n = Decides-from (neg_ℤ (pos 2048)) (pos 2047) (pos 2048) n (omega (arith, ints))

Decides-format : (format : Format) (n : ℤ) → Decides (fits_format format n) (IsImmediateIn format n)
Decides-format format_unsigned n = Decides-from (pos 0) (pos 4095) (pos 4096) n (omega (arith, ints))
Decides-format format_shift6 n = Decides-from (pos 0) (pos 63) (pos 64) n (omega (arith, ints))
Decides-format format_shift5 n = Decides-from (pos 0) (pos 31) (pos 32) n (omega (arith, ints))
Decides-format _ n = Decides-signed12 n

-- a number in the range of an instruction's row
abbrev pub IsImmediate : Instr → ℤ → Type 0
IsImmediate (Imm op rd rs1 imm) n = IsImmediateIn (imm_row op).format n
IsImmediate (Load op rd rs1 imm) n = IsSigned12 n
IsImmediate (Store op rs1 rs2 imm) n = IsSigned12 n
IsImmediate (Branch op rs1 rs2 imm) n = IsFrom (neg_ℤ (pos 4096)) (pos 4096) n × IsEven n
IsImmediate (Upper op rd imm) n = IsFrom (pos 0) (pos 1048576) n
IsImmediate (Jal rd imm) n = IsFrom (neg_ℤ (pos 1048576)) (pos 1048576) n × IsEven n
IsImmediate (Jalr rd rs1 imm) n = IsSigned12 n
IsImmediate _ n = Unit {0}

-- A number fits an instruction exactly where it is in the range of its row.
pub Decides-fits : (instr : Instr) (n : ℤ) → Decides (fits_instr instr n) (IsImmediate instr n)
Decides-fits (Imm op rd rs1 imm) n = Decides-format (imm_row op).format n
Decides-fits (Load op rd rs1 imm) n = Decides-signed12 n
Decides-fits (Store op rs1 rs2 imm) n = Decides-signed12 n
Decides-fits (Branch op rs1 rs2 imm) n =
    Decides-and (is_from (neg_ℤ (pos 4096)) (pos 4095) n) (is_even n) (Decides-from (neg_ℤ (pos 4096)) (pos 4095) (pos 4096) n (omega (arith, ints))) (Decides-even n)
Decides-fits (Upper op rd imm) n = Decides-from (pos 0) (pos 1048575) (pos 1048576) n (omega (arith, ints))
Decides-fits (Jal rd imm) n =
    Decides-and (is_from (neg_ℤ (pos 1048576)) (pos 1048575) n) (is_even n) (Decides-from (neg_ℤ (pos 1048576)) (pos 1048575) (pos 1048576) n (omega (arith, ints))) (Decides-even n)
Decides-fits (Jalr rd rs1 imm) n = Decides-signed12 n
Decides-fits _ n = (λ fits. tt, λ is. refl)

-- an upper immediate that isn't negative is a natural number
upper-below : (n : ℤ) → IsFrom (pos 0) (pos 1048576) n → natural n < 2 ^ 20
upper-below (pos n) is = omega (arith, ints, is.1)
upper-below (negsuc n) is = omega arith

below-upper : (n : ℤ) → pos 0 ≤ℤ n → natural n < 2 ^ 20 → n <ℤ pos 1048576
below-upper (pos n) sign below = omega (arith, ints)
below-upper (negsuc n) sign below = omega (arith, ints)

-- the instruction with a number in that range is in the ranges of the table
in-range : (instr : Instr) (n : ℤ) → HasRegisters instr → IsImmediate instr n → IsInRange (with_immediate instr n) × HasSign instr n
in-range (Reg op rd rs1 rs2) n registers is = (registers, tt)
in-range (Imm op rd rs1 imm) n registers is = ((registers.0, registers.1, is), tt)
in-range (Load op rd rs1 imm) n registers is = ((registers.0, registers.1, is), tt)
in-range (Store op rs1 rs2 imm) n registers is = ((registers.0, registers.1, is), tt)
in-range (Branch op rs1 rs2 imm) n registers is = ((registers.0, registers.1, is.0, is.1), tt)
in-range (Upper op rd imm) n registers is = ((registers, upper-below n is), is.0)
in-range (Jal rd imm) n registers is = ((registers, is.0, is.1), tt)
in-range (Jalr rd rs1 imm) n registers is = ((registers.0, registers.1, is), tt)
in-range (One op rd rs1) n registers is = (registers, tt)
in-range _ n registers is = (tt, tt)

-- and back
from-range : (instr : Instr) (n : ℤ) → IsInRange (with_immediate instr n) → HasSign instr n → HasRegisters instr × IsImmediate instr n
from-range (Reg op rd rs1 rs2) n range sign = (range, tt)
from-range (Imm op rd rs1 imm) n range sign = ((range.0, range.1), range.2)
from-range (Load op rd rs1 imm) n range sign = ((range.0, range.1), range.2)
from-range (Store op rs1 rs2 imm) n range sign = ((range.0, range.1), range.2)
from-range (Branch op rs1 rs2 imm) n range sign = ((range.0, range.1), (range.2, range.3))
from-range (Upper op rd imm) n range sign = (range.0, (sign, below-upper n sign range.1))
from-range (Jal rd imm) n range sign = (range.0, (range.1, range.2))
from-range (Jalr rd rs1 imm) n range sign = ((range.0, range.1), range.2)
from-range (One op rd rs1) n range sign = (range, tt)
from-range _ n range sign = (tt, tt)

-- A number fits an instruction exactly where the instruction with it is in the ranges of the table.
pub ranges-are-tables : RangesAreTheTables
ranges-are-tables instr n = (
  λ (registers, fits). in-range instr n registers ((Decides-fits instr n).0 fits),
  λ (range, sign). let (registers, is) = from-range instr n range sign in (registers, (Decides-fits instr n).1 is),
)

-- an immediate of any row is a number of 21 bits
abbrev IsNear : ℤ → Type 0
IsNear n = IsFrom (neg_ℤ (pos 1048576)) (pos 1048576) n

signed12-near : (n : ℤ) → IsSigned12 n → IsNear n
signed12-near n is = (omega (arith, ints, is.0, is.1), omega (arith, ints, is.0, is.1))

format-near : (format : Format) (n : ℤ) → IsImmediateIn format n → IsNear n
format-near format_unsigned n is = (omega (arith, ints, is.0, is.1), omega (arith, ints, is.0, is.1))
format-near format_shift6 n is = (omega (arith, ints, is.0, is.1), omega (arith, ints, is.0, is.1))
format-near format_shift5 n is = (omega (arith, ints, is.0, is.1), omega (arith, ints, is.0, is.1))
format-near _ n is = signed12-near n is

-- an instruction that has none takes any number, and is the same with each
abbrev HasNone : Instr → Type 0
HasNone instr = (n other : ℤ) → IsImmediate instr other × (with_immediate instr n ≡ with_immediate instr other)

immediate-near : (instr : Instr) (n : ℤ) → IsImmediate instr n → HasNone instr ⊎ IsNear n
immediate-near (Imm op rd rs1 imm) n is = inr (format-near (imm_row op).format n is)
immediate-near (Load op rd rs1 imm) n is = inr (signed12-near n is)
immediate-near (Store op rs1 rs2 imm) n is = inr (signed12-near n is)
immediate-near (Branch op rs1 rs2 imm) n is = inr (omega (arith, ints, is.0.0, is.0.1), omega (arith, ints, is.0.0, is.0.1))
immediate-near (Upper op rd imm) n is = inr (omega (arith, ints, is.0, is.1), is.1)
immediate-near (Jal rd imm) n is = inr is.0
immediate-near (Jalr rd rs1 imm) n is = inr (signed12-near n is)
immediate-near _ n is = inl (λ n other. (tt, refl))

-- so another number is one where it is equal to one that is near
immediate-same : (instr : Instr) (n other : ℤ) → (IsNear n → n ≡ other) → IsImmediate instr n → IsImmediate instr other × (with_immediate instr n ≡ with_immediate instr other)
immediate-same instr n other same is = elim (immediate-near instr n is) [
  | inl none ↦ none n other
  | inr near ↦ (subst (IsImmediate instr) (same near) is, ap (with_immediate instr) (same near))
]

-- a number of 32 bits, and the least one where another isn't one
taken-same : {E : Type 0} (n imm : ℤ) (found : Result ℤ E) → OkIff found (SFits w32 n) n → imm ≡ result_unwrap_or found (negsuc 2147483647) → (IsNear imm → imm ≡ n) × (IsNear n → n ≡ imm)
taken-same n imm (Ok same) is taken = (λ near. cc, λ near. cc)
taken-same n imm (Err other) is taken = (
  λ near. absurd (let least : negsuc 2147483647 ≡ imm = cc in omega (arith, ints, near.0)),
  λ near. absurd (is (record { sfits = omega (arith, ints, near.0, near.1) })),
)

-- the number that is taken for another as an immediate of 32 bits
module _ {E : Type 0} (instr : Instr) (n imm : ℤ) (found : Result ℤ E) (is : OkIff found (SFits w32 n) n) (taken : imm ≡ result_unwrap_or found (negsuc 2147483647)) (sign : HasSign instr imm) where
  -- The instruction with it is in the ranges of the table exactly where the other number fits.
  pub taken-fits : HasRegisters instr → IsInRange (with_immediate instr imm) ↔ (fits_instr instr n ≡ true)
  taken-fits registers =
      let same = taken-same n imm found is taken in (
        λ range. (Decides-fits instr n).1 (immediate-same instr imm n same.0 (from-range instr imm range sign).1).0,
        λ fits. (in-range instr imm registers (immediate-same instr n imm same.1 ((Decides-fits instr n).0 fits)).0).0,
      )

  -- Where it is, it is the instruction with the other number.
  pub taken-word : (word : Option ℕ) → (IsSome word → IsInRange (with_immediate instr imm)) → IfSome word (λ n. n ≡ word_of (with_immediate instr imm)) → IfSome word (λ other. other ≡ word_of (with_immediate instr n))
  taken-word None range word = tt
  taken-word (Some word) range same = same ∙ ap word_of (immediate-same instr imm n (taken-same n imm found is taken).0 (from-range instr imm (range refl) sign).1).1
