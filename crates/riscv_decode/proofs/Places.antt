-- The fields of a word that is joined from the six of format R, and the word of six fields.
use Rattle.std.proofs.Common.{◌≡◌, ℕ, ◌+◌, ◌*◌, ◌/◌, ◌%◌, ◌^◌, ◌<◌, ℤ, pos, ◌-ℤ◌, arith}
use Rattle.std.proofs.lemmas.Int.{ints}
use Rattle.std.proofs.lemmas.Bool.Decides.{nat_tests}
use Rattle.riscv_decode.specs.Words.{field, opcode_of, rd_of, funct3_of, rs1_of, rs2_of, funct7_of, signed}
use Rattle.riscv_decode.specs.Table.{IsSigned12, IsFrom, IsEven}
use Rattle.riscv_decode.specs.Encoded.{joined, unsigned_of, placed_b, placed_j}

-- the six fields of a word
pub record Parts (w a b c d e f : ℕ) : Type 0 where
  pub opcode : opcode_of w ≡ a
  pub rd : rd_of w ≡ b
  pub funct3 : funct3_of w ≡ c
  pub rs1 : rs1_of w ≡ d
  pub rs2 : rs2_of w ≡ e
  pub funct7 : funct7_of w ≡ f

-- a joined word has the fields that it is joined from
pub Parts-joined : (a b c d e f : ℕ) → a < 128 → b < 32 → c < 8 → d < 32 → e < 32 → f < 128 → Parts (joined a b c d e f) a b c d e f
Parts-joined a b c d e f ah bh ch dh eh fh = record {
  opcode = omega arith;
  rd = omega arith;
  funct3 = omega arith;
  rs1 = omega arith;
  rs2 = omega arith;
  funct7 = omega arith;
}

-- a joined word has 32 bits
pub joined_below : (a b c d e f : ℕ) → a < 128 → b < 32 → c < 8 → d < 32 → e < 32 → f < 128 → joined a b c d e f < 2 ^ 32
joined_below a b c d e f ah bh ch dh eh fh = omega arith

-- a word of 32 bits is joined from its fields
pub joined-Parts : (w : ℕ) → w < 2 ^ 32 → joined (opcode_of w) (rd_of w) (funct3_of w) (rs1_of w) (rs2_of w) (funct7_of w) ≡ w
joined-Parts w h = omega arith

-- the highest 12 bits are rs2 and funct7
pub split_12 : (w : ℕ) → field w 20 12 ≡ rs2_of w + funct7_of w * 32
split_12 w = omega arith

-- the highest 20 bits are funct3, rs1, rs2 and funct7
pub split_20 : (w : ℕ) → field w 12 20 ≡ funct3_of w + rs1_of w * 8 + rs2_of w * 256 + funct7_of w * 8192
split_20 w = omega arith

-- the highest 6 bits are funct7 without its lowest
pub split_26_6 : (w : ℕ) → field w 26 6 ≡ funct7_of w / 2
split_26_6 w = omega arith

-- a shift amount of 6 bits is rs2 and the lowest bit of funct7
pub split_20_6 : (w : ℕ) → field w 20 6 ≡ rs2_of w + funct7_of w % 2 * 32
split_20_6 w = omega arith

-- the highest bit is that of funct7
pub split_31_1 : (w : ℕ) → field w 31 1 ≡ funct7_of w / 64
split_31_1 w = omega arith

-- bits 25 to 30 are funct7 without its highest
pub split_25_6 : (w : ℕ) → field w 25 6 ≡ funct7_of w % 64
split_25_6 w = omega arith

-- bit 7 is the lowest of rd
pub split_7_1 : (w : ℕ) → field w 7 1 ≡ rd_of w % 2
split_7_1 w = omega arith

-- bits 8 to 11 are rd without its lowest
pub split_8_4 : (w : ℕ) → field w 8 4 ≡ rd_of w / 2
split_8_4 w = omega arith

-- bits 12 to 19 are funct3 and rs1
pub split_12_8 : (w : ℕ) → field w 12 8 ≡ funct3_of w + rs1_of w * 8
split_12_8 w = omega arith

-- bit 20 is the lowest of rs2
pub split_20_1 : (w : ℕ) → field w 20 1 ≡ rs2_of w % 2
split_20_1 w = omega arith

-- bits 21 to 30 are rs2 without its lowest, and funct7 without its highest
pub split_21_10 : (w : ℕ) → field w 21 10 ≡ rs2_of w / 2 + funct7_of w % 64 * 16
split_21_10 w = omega arith

-- the signed number of a number's bits is that number, at 12 bits
pub signed-unsigned_12 : (z : ℤ) → IsSigned12 z → signed 12 (unsigned_of (pos 4096) z) ≡ z
signed-unsigned_12 z h = grind (arith, ints, nat_tests)

-- the same at 13 bits
pub signed-unsigned_13 : (z : ℤ) → IsFrom (pos 0 -ℤ pos 4096) (pos 4096) z → signed 13 (unsigned_of (pos 8192) z) ≡ z
signed-unsigned_13 z h = grind (arith, ints, nat_tests)

-- the same at 21 bits
pub signed-unsigned_21 : (z : ℤ) → IsFrom (pos 0 -ℤ pos 1048576) (pos 1048576) z → signed 21 (unsigned_of (pos 2097152) z) ≡ z
signed-unsigned_21 z h = grind (arith, ints, nat_tests)

-- the bits of the signed number of some bits are these, at 12 bits
pub unsigned_signed_12 : (n : ℕ) → n < 4096 → unsigned_of (pos 4096) (signed 12 n) ≡ n
unsigned_signed_12 n h = grind (arith, ints, nat_tests)

-- the same at 13 bits
pub unsigned_signed_13 : (n : ℕ) → n < 8192 → unsigned_of (pos 8192) (signed 13 n) ≡ n
unsigned_signed_13 n h = grind (arith, ints, nat_tests)

-- the same at 21 bits
pub unsigned_signed_21 : (n : ℕ) → n < 2097152 → unsigned_of (pos 2097152) (signed 21 n) ≡ n
unsigned_signed_21 n h = grind (arith, ints, nat_tests)

-- the bits of an even number are even, at 13 bits
pub even_bits_13 : (z : ℤ) → IsFrom (pos 0 -ℤ pos 4096) (pos 4096) z → IsEven z → unsigned_of (pos 8192) z % 2 ≡ 0
even_bits_13 z h e = grind (arith, ints, nat_tests)

-- the same at 21 bits
pub even_bits_21 : (z : ℤ) → IsFrom (pos 0 -ℤ pos 1048576) (pos 1048576) z → IsEven z → unsigned_of (pos 2097152) z % 2 ≡ 0
even_bits_21 z h e = grind (arith, ints, nat_tests)

-- a branch's distance is read back from the places of its bits
pub unplaced_b : (n : ℕ) → n < 8192 → n % 2 ≡ 0 → placed_b n / 32 / 64 * 2 ^ 12 + placed_b n % 32 % 2 * 2 ^ 11 + placed_b n / 32 % 64 * 2 ^ 5 + placed_b n % 32 / 2 * 2 ≡ n
unplaced_b n h e = omega arith

-- a jump's distance is read back from the places of its bits
pub unplaced_j : (n : ℕ) → n < 2097152 → n % 2 ≡ 0 → placed_j n / 8192 / 64 * 2 ^ 20 + placed_j n % 256 * 2 ^ 12 + placed_j n / 256 % 2 * 2 ^ 11 + placed_j n / 512 % 1024 * 2 ≡ n
unplaced_j n h e = omega arith
