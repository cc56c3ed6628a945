-- The registers and the immediate of a word are in the ranges of its row.
use Rattle.std.proofs.Common.{ℕ, ◌+◌, ◌*◌, ◌^◌, ◌%◌, ◌<◌, ◌≡◌, pos, ◌-ℤ◌, arith}
use Rattle.std.proofs.lemmas.Bool.Decides.{nat_tests}
use Rattle.std.proofs.lemmas.Int.{ints}
use Rattle.riscv_decode.specs.declared.ops.Op.{Op}
use Rattle.riscv_decode.specs.declared.ops.Op.TheVariants as op
use Rattle.riscv_decode.specs.Words.{field, signed, immediate_i}
use Rattle.riscv_decode.specs.Rows.{Format, format_unsigned, format_shift6, format_shift5, imm_row}
use Rattle.riscv_decode.specs.Table.{IsInRange, IsFrom, IsEven, IsSigned12, IsImmediateIn, immediate_in}
use Rattle.riscv_decode.specs.Code.{instr_of}

-- signed numbers of 12, 13 and 21 bits
signed_12 : (n : ℕ) → n < 4096 → IsSigned12 (signed 12 n)
signed_12 n h = grind (arith, ints, nat_tests)

signed_13 : (n : ℕ) → n < 8192 → IsFrom (pos 0 -ℤ pos 4096) (pos 4096) (signed 13 n)
signed_13 n h = grind (arith, ints, nat_tests)

signed_21 : (n : ℕ) → n < 2097152 → IsFrom (pos 0 -ℤ pos 1048576) (pos 1048576) (signed 21 n)
signed_21 n h = grind (arith, ints, nat_tests)

even_13 : (n : ℕ) → n % 2 ≡ 0 → n < 8192 → IsEven (signed 13 n)
even_13 n e h = grind (arith, ints, nat_tests)

even_21 : (n : ℕ) → n % 2 ≡ 0 → n < 2097152 → IsEven (signed 21 n)
even_21 n e h = grind (arith, ints, nat_tests)

-- the immediate of format I
signed_i : (w : ℕ) → IsSigned12 (immediate_i w)
signed_i w = signed_12 (field w 20 12) (omega arith)

immediate_range : (f : Format) (w : ℕ) → IsImmediateIn f (immediate_in f w)
immediate_range format_unsigned w = omega (arith, ints)
immediate_range format_shift6 w = omega (arith, ints)
immediate_range format_shift5 w = omega (arith, ints)
immediate_range _ w = signed_i w

pub in_range : (w : ℕ) (o : Op) → IsInRange (instr_of o w)
in_range w (op.Reg o) = (omega arith, omega arith, omega arith)
in_range w (op.Imm o) = (omega arith, omega arith, immediate_range (imm_row o).format w)
in_range w (op.Load o) = (omega arith, omega arith, signed_i w)
in_range w (op.Store o) = (omega arith, omega arith, signed_12 (field w 25 7 * 2 ^ 5 + field w 7 5) (omega arith))
in_range w (op.Branch o) = (omega arith, omega arith, signed_13 (field w 31 1 * 2 ^ 12 + field w 7 1 * 2 ^ 11 + field w 25 6 * 2 ^ 5 + field w 8 4 * 2) (omega arith), even_13 (field w 31 1 * 2 ^ 12 + field w 7 1 * 2 ^ 11 + field w 25 6 * 2 ^ 5 + field w 8 4 * 2) (omega arith) (omega arith))
in_range w (op.Upper o) = (omega arith, omega arith)
in_range w (op.One o) = (omega arith, omega arith)
in_range w op.Jal = (omega arith, signed_21 (field w 31 1 * 2 ^ 20 + field w 12 8 * 2 ^ 12 + field w 20 1 * 2 ^ 11 + field w 21 10 * 2) (omega arith), even_21 (field w 31 1 * 2 ^ 20 + field w 12 8 * 2 ^ 12 + field w 20 1 * 2 ^ 11 + field w 21 10 * 2) (omega arith) (omega arith))
in_range w op.Jalr = (omega arith, omega arith, signed_i w)
in_range w op.Ecall = search arith
in_range w op.Ebreak = search arith
in_range w op.Fence = search arith
