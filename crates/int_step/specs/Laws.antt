-- Laws of the integer values, in the words of the RISC-V unprivileged ISA.
use Rattle.std.specs.Prelude.{ℕ, ◌≡◌, ◌≢◌, ◌+◌, ◌-◌, ◌*◌, ◌%◌, ◌^◌, ◌<◌, ◌⊎◌, false, nat_lt, if◌then◌else◌, IsTrue, pos, ◌+ℤ◌, ◌*ℤ◌, unsigned_abs}
use Rattle.std.specs.Int.{bit_at, is_negative}
use Rattle.riscv_decode.specs.Words.{signed}
use Rattle.riscv_decode.specs.declared.instr.RegOp.{RegOp}
use Rattle.riscv_decode.specs.declared.instr.RegOp.TheVariants as reg
use Rattle.int_step.specs.Values.{overflows, extended, reg_value}
use Rattle.int_step.specs.Words.{is_word_row}

-- A sum less one of its terms is the other.
abbrev pub DifferencesUndoSums : Type 0
DifferencesUndoSums = (a b : ℕ) → a < 2 ^ 64 → b < 2 ^ 64 → reg_value reg.Sub (reg_value reg.Add a b) b ≡ a

-- The two halves of a product make the whole product: of two unsigned integers, of two signed ones, and of a signed one and an
-- unsigned one.
pub record ProductsAreWhole : Type 0 where
  pub unsigned : (a b : ℕ) → a < 2 ^ 64 → b < 2 ^ 64 → reg_value reg.Mulhu a b * 2 ^ 64 + reg_value reg.Mul a b ≡ a * b
  pub both_signed : (a b : ℕ) → a < 2 ^ 64 → b < 2 ^ 64 → (signed 64 (reg_value reg.Mulh a b) *ℤ pos (2 ^ 64)) +ℤ pos (reg_value reg.Mul a b) ≡ (signed 64 a *ℤ signed 64 b)
  pub one_signed : (a b : ℕ) → a < 2 ^ 64 → b < 2 ^ 64 → (signed 64 (reg_value reg.Mulhsu a b) *ℤ pos (2 ^ 64)) +ℤ pos (reg_value reg.Mul a b) ≡ (signed 64 a *ℤ pos b)

-- A division of signed integers of so many bits: the dividend is the quotient times the divisor plus the remainder, which is
-- smaller than the divisor and has the dividend's sign or is zero.
pub record Divides (width a b q r : ℕ) : Type 0 where
  pub whole : signed width a ≡ (signed width q *ℤ signed width b) +ℤ signed width r
  pub small : unsigned_abs (signed width r) < unsigned_abs (signed width b)
  pub sign : (signed width r ≡ pos 0) ⊎ (is_negative (signed width r) ≡ is_negative (signed width a))

-- the same of unsigned integers
pub record DividesUnsigned (a b q r : ℕ) : Type 0 where
  pub whole : a ≡ q * b + r
  pub small : r < b

-- Divisions of 64 and of 32 bits, and their special rows: by zero, and the overflow.
pub record DivisionsAreExact : Type 0 where
  pub signed : (a b : ℕ) → a < 2 ^ 64 → b < 2 ^ 64 → b ≢ 0 → overflows 64 a b ≡ false → Divides 64 a b (reg_value reg.Div a b) (reg_value reg.Rem a b)
  pub unsigned : (a b : ℕ) → a < 2 ^ 64 → b < 2 ^ 64 → b ≢ 0 → DividesUnsigned a b (reg_value reg.Divu a b) (reg_value reg.Remu a b)
  pub by_zero : (a : ℕ) → a < 2 ^ 64 → (reg_value reg.Div a 0 ≡ 2 ^ 64 - 1) × (reg_value reg.Divu a 0 ≡ 2 ^ 64 - 1) × (reg_value reg.Rem a 0 ≡ a) × (reg_value reg.Remu a 0 ≡ a)
  pub overflow : (reg_value reg.Div (2 ^ 63) (2 ^ 64 - 1) ≡ 2 ^ 63) × (reg_value reg.Rem (2 ^ 63) (2 ^ 64 - 1) ≡ 0)
  pub words : (a b : ℕ) → b % 2 ^ 32 ≢ 0 → overflows 32 (a % 2 ^ 32) (b % 2 ^ 32) ≡ false
      → Divides 32 (a % 2 ^ 32) (b % 2 ^ 32) (reg_value reg.Divw a b % 2 ^ 32) (reg_value reg.Remw a b % 2 ^ 32)
  pub unsigned_words : (a b : ℕ) → b % 2 ^ 32 ≢ 0 → DividesUnsigned (a % 2 ^ 32) (b % 2 ^ 32) (reg_value reg.Divuw a b % 2 ^ 32) (reg_value reg.Remuw a b % 2 ^ 32)
  pub words_by_zero : (a b : ℕ) → b % 2 ^ 32 ≡ 0 → (reg_value reg.Divw a b ≡ 2 ^ 64 - 1) × (reg_value reg.Divuw a b ≡ 2 ^ 64 - 1) × (reg_value reg.Remw a b ≡ extended (a % 2 ^ 32)) × (reg_value reg.Remuw a b ≡ extended (a % 2 ^ 32))
  pub words_overflow : (reg_value reg.Divw (2 ^ 31) (2 ^ 32 - 1) ≡ 2 ^ 64 - 2 ^ 31) × (reg_value reg.Remw (2 ^ 31) (2 ^ 32 - 1) ≡ 0)

-- Bit by bit: a shift to the left brings zeros in from below, one to the right zeros from above, and one with the sign copies of
-- the sign bit.
pub record ShiftsMoveBits : Type 0 where
  pub left : (a b i : ℕ) → a < 2 ^ 64 → i < 64 → bit_at (reg_value reg.Sll a b) i ≡ (if nat_lt i (b % 64) then 0 else bit_at a (i - b % 64))
  pub right : (a b i : ℕ) → a < 2 ^ 64 → i < 64 → bit_at (reg_value reg.Srl a b) i ≡ (if nat_lt (i + b % 64) 64 then bit_at a (i + b % 64) else 0)
  pub with_sign : (a b i : ℕ) → a < 2 ^ 64 → i < 64 → bit_at (reg_value reg.Sra a b) i ≡ (if nat_lt (i + b % 64) 64 then bit_at a (i + b % 64) else bit_at a 63)

-- Each value has 64 bits. One of a row of 32 bits has the sign of its low 32 bits in all higher ones, and depends on the low 32
-- bits of the operands alone.
pub record ValuesFit : Type 0 where
  pub below : (op : RegOp) (a b : ℕ) → a < 2 ^ 64 → b < 2 ^ 64 → reg_value op a b < 2 ^ 64
  pub words : (op : RegOp) (a b : ℕ) → IsTrue (is_word_row op) → reg_value op a b ≡ extended (reg_value op a b % 2 ^ 32)
  pub low : (op : RegOp) (a b : ℕ) → IsTrue (is_word_row op) → reg_value op (a % 2 ^ 32) (b % 2 ^ 32) ≡ reg_value op a b
