-- The word of an instruction in range is its one word.
use Rattle.std.proofs.Common.{◌≡◌, ℕ, ◌+◌, ◌*◌, ◌/◌, ◌%◌, ◌^◌, ◌<◌, ◌↔◌, Bool, true, false, Some, ℤ, pos, negsuc, ◌-ℤ◌, refl, sym, ap, ◌∙◌, subst, arith}
use Rattle.std.proofs.lemmas.Bool.{eqb-true, eq-eqb, and_from, false≢true}
use Rattle.std.proofs.lemmas.Bool.Decides.{nat_tests}
use Rattle.std.proofs.lemmas.Int.{ints}
use Rattle.riscv_decode.specs.declared.ops.Op.{Op}
use Rattle.riscv_decode.specs.declared.ops.Op.TheVariants as op
use Rattle.riscv_decode.specs.declared.instr.RegOp.{RegOp}
use Rattle.riscv_decode.specs.declared.instr.RegOp.TheVariants as reg
use Rattle.riscv_decode.specs.declared.instr.ImmOp.{ImmOp}
use Rattle.riscv_decode.specs.declared.instr.ImmOp.TheVariants as imm
use Rattle.riscv_decode.specs.declared.instr.LoadOp.{LoadOp}
use Rattle.riscv_decode.specs.declared.instr.LoadOp.TheVariants as load
use Rattle.riscv_decode.specs.declared.instr.StoreOp.{StoreOp}
use Rattle.riscv_decode.specs.declared.instr.StoreOp.TheVariants as store
use Rattle.riscv_decode.specs.declared.instr.BranchOp.{BranchOp}
use Rattle.riscv_decode.specs.declared.instr.BranchOp.TheVariants as branch
use Rattle.riscv_decode.specs.declared.instr.UpperOp.{UpperOp}
use Rattle.riscv_decode.specs.declared.instr.UpperOp.TheVariants as upper
use Rattle.riscv_decode.specs.declared.instr.OneOp.{OneOp}
use Rattle.riscv_decode.specs.declared.instr.OneOp.TheVariants as one
use Rattle.riscv_decode.specs.declared.instr.Instr.{Instr}
use Rattle.riscv_decode.specs.declared.instr.Instr.TheVariants.{Reg, Imm, Load, Store, Branch, Upper, Jal, Jalr, One, Ecall, Ebreak, Fence}
use Rattle.riscv_decode.specs.Words.{field, opcode_of, rd_of, funct3_of, rs1_of, rs2_of, funct7_of, immediate_i, immediate_s, immediate_b, immediate_j, signed}
use Rattle.riscv_decode.specs.Rows.{Format, format_r, format_i, format_unsigned, format_shift6, format_shift5, format_s, format_b, format_u, format_j, format_one, Row, matches, matches_in, reg_row, imm_row, load_row, store_row, branch_row, upper_row, one_row, cjal_row, cjalr_row}
use Rattle.riscv_decode.specs.Table.{IsRow, IsInRange, IsFrom, IsSigned12, IsImmediateIn, IsEven, immediate_in}
use Rattle.riscv_decode.specs.Code.{is_small, row_of, op_of, instr_of}
use Rattle.riscv_decode.specs.Encoded.{word_of, joined, unsigned_of, placed_b, placed_j, bits_in, word_i, word_s, word_u, word_one}
use Rattle.riscv_decode.proofs.Agreement.{Fixed, fixed_in, fixes_funct3, small}
use Rattle.riscv_decode.proofs.Instructions.{op_matches, has_fields}
use Rattle.riscv_decode.proofs.Places.{Parts, Parts-joined, joined_below, joined-Parts, split_12, split_20, split_26_6, split_20_6, split_31_1, split_25_6, split_7_1, split_8_4, split_12_8, split_20_1, split_21_10, signed-unsigned_12, signed-unsigned_13, signed-unsigned_21, unsigned_signed_12, unsigned_signed_13, unsigned_signed_21, even_bits_13, even_bits_21, unplaced_b, unplaced_j}

-- each operation on two registers has format R
format_reg : (o : RegOp) → (reg_row o).format ≡ format_r
format_reg reg.Add = refl
format_reg _ = refl

-- each load has format I
format_load : (o : LoadOp) → (load_row o).format ≡ format_i
format_load load.Lb = refl
format_load _ = refl

-- each store has format S
format_store : (o : StoreOp) → (store_row o).format ≡ format_s
format_store store.Sb = refl
format_store _ = refl

-- each branch has format B
format_branch : (o : BranchOp) → (branch_row o).format ≡ format_b
format_branch branch.Beq = refl
format_branch _ = refl

-- each operation on an upper immediate has format U
format_upper : (o : UpperOp) → (upper_row o).format ≡ format_u
format_upper upper.Lui = refl
format_upper _ = refl

-- each operation on one register fixes the bits of rs2
format_one_of : (o : OneOp) → (one_row o).format ≡ format_one
format_one_of one.CGetPerm = refl
format_one_of _ = refl

-- the formats of operations on an immediate
abbrev has_immediate : Format → Bool
has_immediate format_i = true
has_immediate format_unsigned = true
has_immediate format_shift6 = true
has_immediate format_shift5 = true
has_immediate _ = false

-- each operation on an immediate has a format with an immediate
format_imm : (o : ImmOp) → has_immediate (imm_row o).format ≡ true
format_imm imm.Addi = refl
format_imm _ = refl

-- what the test of a row's fields says
small_parts : (r : Row) → is_small r ≡ true → (r.opcode < 128) × (r.funct3 < 8) × (r.funct7 < 128) × (r.rs2 < 32)
small_parts r s = grind (arith, nat_tests)

-- at a known format, a word matches a row if it matches that format
matches_at : (r : Row) (f : Format) (w : ℕ) → r.format ≡ f → matches_in f r w ≡ true → matches r w ≡ true
matches_at r f w e = subst (λ g. matches_in g r w ≡ true) (sym e)

-- at a known format, a word of a row has what that format fixes
fixed_at : (r : Row) (f : Format) (w : ℕ) → r.format ≡ f → is_small r ≡ true → matches r w ≡ true → Fixed f r w
fixed_at r f w e s m = fixed_in f r w s (subst (λ g. matches_in g r w ≡ true) e m)

-- ---- a word of a row is made again from its fields

-- a word is joined from values that its fields have
again : (w a b c d e f : ℕ) → w < 2 ^ 32 → opcode_of w ≡ a → rd_of w ≡ b → funct3_of w ≡ c → rs1_of w ≡ d → rs2_of w ≡ e → funct7_of w ≡ f → joined a b c d e f ≡ w
again w a b c d e f h ah bh ch dh eh fh = rw (sym ah, sym bh, sym ch, sym dh, sym eh, sym fh) (joined-Parts w h)

-- a word with the row's fields and an immediate of 12 bits is made again
again_i : (r : Row) (f : Format) (w bits : ℕ) → w < 2 ^ 32 → fixes_funct3 f ≡ true → Fixed f r w → bits ≡ field w 20 12 → word_i r (rd_of w) (rs1_of w) bits ≡ w
again_i r f w bits h g p e = let s = split_12 w in again w _ _ _ _ _ _ h p.opcode refl (p.funct3 g) refl (omega arith) (omega arith)

-- a word with the row's fields and 12 bits around its sources is made again
again_s : (r : Row) (f : Format) (w bits : ℕ) → w < 2 ^ 32 → fixes_funct3 f ≡ true → Fixed f r w → bits ≡ funct7_of w * 32 + rd_of w → word_s r (rs1_of w) (rs2_of w) bits ≡ w
again_s r f w bits h g p e = again w _ _ _ _ _ _ h p.opcode (omega arith) (p.funct3 g) refl refl (omega arith)

-- a word with the row's opcode and an immediate of 20 bits is made again
again_u : (r : Row) (f : Format) (w bits : ℕ) → w < 2 ^ 32 → Fixed f r w → bits ≡ field w 12 20 → word_u r (rd_of w) bits ≡ w
again_u r f w bits h p e = let s = split_20 w in again w _ _ _ _ _ _ h p.opcode refl (omega arith) (omega arith) (omega arith) (omega arith)

-- the bits of a word's immediate, as the row's format has it
bits_of_immediate : (f : Format) (r : Row) (w : ℕ) → has_immediate f ≡ true → Fixed f r w → bits_in f r.funct7 (immediate_in f w) ≡ field w 20 12
bits_of_immediate format_i r w h p = unsigned_signed_12 (field w 20 12) (omega arith)
bits_of_immediate format_unsigned r w h p = refl
bits_of_immediate format_shift6 r w h p = let e = p.high refl in let s = split_12 w in let t = split_26_6 w in let u = split_20_6 w in omega arith
bits_of_immediate format_shift5 r w h p = let e = p.funct7 refl in let s = split_12 w in omega arith
bits_of_immediate _ r w h p = absurd (false≢true h)

-- a format with an immediate fixes funct3
has_funct3 : (f : Format) → has_immediate f ≡ true → fixes_funct3 f ≡ true
has_funct3 format_u h = absurd (false≢true h)
has_funct3 format_j h = absurd (false≢true h)
has_funct3 _ h = refl

-- the bits of a branch's distance, in their places, are funct7 and rd
placed_fields_b : (w : ℕ) → placed_b (field w 31 1 * 2 ^ 12 + field w 7 1 * 2 ^ 11 + field w 25 6 * 2 ^ 5 + field w 8 4 * 2) ≡ funct7_of w * 32 + rd_of w
placed_fields_b w = rw (split_31_1 w, split_7_1 w, split_25_6 w, split_8_4 w) (let a : rd_of w < 32 = omega arith in let b : funct7_of w < 128 = omega arith in omega arith)

-- the bits of a jump's distance, in their places, are the word's highest 20
placed_fields_j : (w : ℕ) → placed_j (field w 31 1 * 2 ^ 20 + field w 12 8 * 2 ^ 12 + field w 20 1 * 2 ^ 11 + field w 21 10 * 2) ≡ field w 12 20
placed_fields_j w = rw (split_31_1 w, split_12_8 w, split_20_1 w, split_21_10 w, split_20 w) (omega arith)

-- the instruction that has a word's fields gives the word again
pub word_again : (o : Op) (w : ℕ) → w < 2 ^ 32 → matches (row_of o) w ≡ true → word_of (instr_of o w) ≡ w
word_again (op.Reg o) w h m = let p = fixed_at (reg_row o) format_r w (format_reg o) (small (op.Reg o)) m in again w _ _ _ _ _ _ h p.opcode refl (p.funct3 refl) refl refl (p.funct7 refl)
word_again (op.Imm o) w h m =
    let p = fixed_in (imm_row o).format (imm_row o) w (small (op.Imm o)) m in
    again_i (imm_row o) (imm_row o).format w _ h (has_funct3 (imm_row o).format (format_imm o)) p (bits_of_immediate (imm_row o).format (imm_row o) w (format_imm o) p)
word_again (op.Load o) w h m = let p = fixed_at (load_row o) format_i w (format_load o) (small (op.Load o)) m in again_i (load_row o) format_i w _ h refl p (unsigned_signed_12 (field w 20 12) (omega arith))
word_again (op.Store o) w h m = let p = fixed_at (store_row o) format_s w (format_store o) (small (op.Store o)) m in again_s (store_row o) format_s w _ h refl p (unsigned_signed_12 (field w 25 7 * 2 ^ 5 + field w 7 5) (omega arith))
word_again (op.Branch o) w h m =
    let p = fixed_at (branch_row o) format_b w (format_branch o) (small (op.Branch o)) m in
    again_s (branch_row o) format_b w _ h refl p (ap placed_b (unsigned_signed_13 (field w 31 1 * 2 ^ 12 + field w 7 1 * 2 ^ 11 + field w 25 6 * 2 ^ 5 + field w 8 4 * 2) (omega arith)) ∙ placed_fields_b w)
word_again (op.Upper o) w h m = let p = fixed_at (upper_row o) format_u w (format_upper o) (small (op.Upper o)) m in again_u (upper_row o) format_u w _ h p refl
word_again op.Jal w h m =
    let p = fixed_at cjal_row format_j w refl refl m in
    again_u cjal_row format_j w _ h p (ap placed_j (unsigned_signed_21 (field w 31 1 * 2 ^ 20 + field w 12 8 * 2 ^ 12 + field w 20 1 * 2 ^ 11 + field w 21 10 * 2) (omega arith)) ∙ placed_fields_j w)
word_again op.Jalr w h m = let p = fixed_at cjalr_row format_i w refl refl m in again_i cjalr_row format_i w _ h refl p (unsigned_signed_12 (field w 20 12) (omega arith))
word_again (op.One o) w h m = let p = fixed_at (one_row o) format_one w (format_one_of o) (small (op.One o)) m in again w _ _ _ _ _ _ h p.opcode refl (p.funct3 refl) refl (p.rs2 refl) (p.funct7 refl)
word_again _ w h m = sym (eqb-true _ _ m)

-- the word of an instruction is any word below 2 ^ 32 that has the instruction
pub word_of_row : (w : ℕ) (i : Instr) → w < 2 ^ 32 → IsRow w i → word_of i ≡ w
word_of_row w i h r = ap word_of (has_fields w i r) ∙ word_again (op_of i) w h (op_matches w i r)

-- ---- the word of an instruction in range is in the row of its operation, and has its fields

-- a number from 0 on is its bits
pos_unsigned : (past : ℕ) (z : ℤ) → IsFrom (pos 0) (pos past) z → (pos (unsigned_of (pos 4096) z) ≡ z) × (unsigned_of (pos 4096) z < past)
pos_unsigned past (pos n) h = (refl, omega (arith, ints))
pos_unsigned past (negsuc n) h = absurd (omega (arith, ints))

-- the bits of a number of 12 bits with a sign
signed_bits_below : (z : ℤ) → IsSigned12 z → unsigned_of (pos 4096) z < 4096
signed_bits_below (pos n) h = omega (arith, ints)
signed_bits_below (negsuc n) h = omega arith

-- the bits of a distance of 13 bits
signed_bits_below_13 : (z : ℤ) → IsFrom (pos 0 -ℤ pos 4096) (pos 4096) z → unsigned_of (pos 8192) z < 8192
signed_bits_below_13 (pos n) h = omega (arith, ints)
signed_bits_below_13 (negsuc n) h = omega arith

-- the bits of a distance of 21 bits
signed_bits_below_21 : (z : ℤ) → IsFrom (pos 0 -ℤ pos 1048576) (pos 1048576) z → unsigned_of (pos 2097152) z < 2097152
signed_bits_below_21 (pos n) h = omega (arith, ints)
signed_bits_below_21 (negsuc n) h = omega arith

-- the 12 bits of an immediate in range
bits_below : (f : Format) (r : Row) (z : ℤ) → has_immediate f ≡ true → is_small r ≡ true → IsImmediateIn f z → bits_in f r.funct7 z < 4096
bits_below format_i r z h s i = signed_bits_below z i
bits_below format_unsigned r z h s i = (pos_unsigned 4096 z i).1
bits_below format_shift6 r z h s i = let p = small_parts r s in let q = pos_unsigned 64 z i in omega arith
bits_below format_shift5 r z h s i = let p = small_parts r s in let q = pos_unsigned 32 z i in omega arith
bits_below _ r z h s i = absurd (false≢true h)

-- a word that has the row's fields and an immediate's bits matches the row, and has the immediate
immediate_row : (f : Format) (r : Row) (w : ℕ) (z : ℤ) → has_immediate f ≡ true → IsImmediateIn f z → opcode_of w ≡ r.opcode → funct3_of w ≡ r.funct3 → field w 20 12 ≡ bits_in f r.funct7 z → (matches_in f r w ≡ true) × (z ≡ immediate_in f w)
immediate_row format_i r w z h i o g e = (and_from _ _ (eq-eqb _ _ o) (eq-eqb _ _ g), sym (signed-unsigned_12 z i) ∙ ap (signed 12) (sym e))
immediate_row format_unsigned r w z h i o g e = (and_from _ _ (eq-eqb _ _ o) (eq-eqb _ _ g), sym (pos_unsigned 4096 z i).0 ∙ ap pos (sym e))
immediate_row format_shift6 r w z h i o g e =
    let p = pos_unsigned 64 z i in
    let high : field w 26 6 ≡ r.funct7 / 2 = omega arith in
    let low : field w 20 6 ≡ unsigned_of (pos 4096) z = omega arith in
    (and_from _ _ (eq-eqb _ _ o) (and_from _ _ (eq-eqb _ _ g) (eq-eqb _ _ high)), sym p.0 ∙ ap pos (sym low))
immediate_row format_shift5 r w z h i o g e =
    let p = pos_unsigned 32 z i in
    let high : funct7_of w ≡ r.funct7 = omega arith in
    let low : field w 20 5 ≡ unsigned_of (pos 4096) z = omega arith in
    (and_from _ _ (eq-eqb _ _ o) (and_from _ _ (eq-eqb _ _ g) (eq-eqb _ _ high)), sym p.0 ∙ ap pos (sym low))
immediate_row _ r w z h i o g e = absurd (false≢true h)

-- the fields of a word with two registers and the highest 12 bits
Parts_i : (r : Row) (rd rs1 bits : ℕ) → is_small r ≡ true → rd < 32 → rs1 < 32 → bits < 4096 → Parts (word_i r rd rs1 bits) r.opcode rd r.funct3 rs1 (bits % 32) (bits / 32)
Parts_i r rd rs1 bits s a b c = let p = small_parts r s in Parts-joined r.opcode rd r.funct3 rs1 (bits % 32) (bits / 32) p.0 a p.1 b (omega arith) (omega arith)

-- the fields of a word with two sources and 12 bits around them
Parts_s : (r : Row) (rs1 rs2 bits : ℕ) → is_small r ≡ true → rs1 < 32 → rs2 < 32 → bits < 4096 → Parts (word_s r rs1 rs2 bits) r.opcode (bits % 32) r.funct3 rs1 rs2 (bits / 32)
Parts_s r rs1 rs2 bits s a b c = let p = small_parts r s in Parts-joined r.opcode (bits % 32) r.funct3 rs1 rs2 (bits / 32) p.0 (omega arith) p.1 a b (omega arith)

-- the fields of a word with a destination and the highest 20 bits
Parts_u : (r : Row) (rd bits : ℕ) → is_small r ≡ true → rd < 32 → bits < 1048576 → Parts (word_u r rd bits) r.opcode rd (bits % 8) (bits / 8 % 32) (bits / 256 % 32) (bits / 8192)
Parts_u r rd bits s a b = let p = small_parts r s in Parts-joined r.opcode rd (bits % 8) (bits / 8 % 32) (bits / 256 % 32) (bits / 8192) p.0 a (omega arith) (omega arith) (omega arith) (omega arith)

-- the fields of a word with a destination and a source, and all else as the row fixes it
Parts_one : (r : Row) (rd rs1 : ℕ) → is_small r ≡ true → rd < 32 → rs1 < 32 → Parts (word_one r rd rs1) r.opcode rd r.funct3 rs1 r.rs2 r.funct7
Parts_one r rd rs1 s a b = let p = small_parts r s in Parts-joined r.opcode rd r.funct3 rs1 r.rs2 r.funct7 p.0 a p.1 b p.3 p.2

-- a number of 12 bits from two parts
twelve : (n e f : ℕ) → e ≡ n % 32 → f ≡ n / 32 → e + f * 32 ≡ n
twelve n e f p q = omega arith

-- a number of 20 bits from four parts
twenty : (n c d e f : ℕ) → c ≡ n % 8 → d ≡ n / 8 % 32 → e ≡ n / 256 % 32 → f ≡ n / 8192 → c + d * 8 + e * 256 + f * 8192 ≡ n
twenty n c d e f p q r s = omega arith

-- the lowest 8 bits from two parts
eight : (n c d : ℕ) → c ≡ n % 8 → d ≡ n / 8 % 32 → c + d * 8 ≡ n % 256
eight n c d p q = omega arith

-- bit 8 from the part that it begins
one_bit : (n e : ℕ) → e ≡ n / 256 % 32 → e % 2 ≡ n / 256 % 2
one_bit n e p = omega arith

-- bits 9 to 18 from two parts
ten : (n e f : ℕ) → e ≡ n / 256 % 32 → f ≡ n / 8192 → e / 2 + f % 64 * 16 ≡ n / 512 % 1024
ten n e f p q = omega arith

-- the immediate of a word is the one whose bits it has, in format I
immediate_i_from : (w bits : ℕ) (z : ℤ) → IsSigned12 z → unsigned_of (pos 4096) z ≡ bits → rs2_of w ≡ bits % 32 → funct7_of w ≡ bits / 32 → z ≡ immediate_i w
immediate_i_from w bits z i e a b = let s = split_12 w in let t : unsigned_of (pos 4096) z ≡ field w 20 12 = omega arith in sym (signed-unsigned_12 z i) ∙ ap (signed 12) t

-- the same in format S
immediate_s_from : (w bits : ℕ) (z : ℤ) → IsSigned12 z → unsigned_of (pos 4096) z ≡ bits → rd_of w ≡ bits % 32 → funct7_of w ≡ bits / 32 → z ≡ immediate_s w
immediate_s_from w bits z i e a b = let t : unsigned_of (pos 4096) z ≡ field w 25 7 * 2 ^ 5 + field w 7 5 = omega arith in sym (signed-unsigned_12 z i) ∙ ap (signed 12) t

-- the same in format B
immediate_b_from : (w n : ℕ) (z : ℤ) → IsFrom (pos 0 -ℤ pos 4096) (pos 4096) z → IsEven z → unsigned_of (pos 8192) z ≡ n → rd_of w ≡ placed_b n % 32 → funct7_of w ≡ placed_b n / 32 → z ≡ immediate_b w
immediate_b_from w n z i v e a b =
    let below = signed_bits_below_13 z i in
    let even = even_bits_13 z i v in
    let n_below : n < 8192 = omega arith in
    let n_even : n % 2 ≡ 0 = rw e at even in
    let whole = unplaced_b n n_below n_even in
    let t : field w 31 1 * 2 ^ 12 + field w 7 1 * 2 ^ 11 + field w 25 6 * 2 ^ 5 + field w 8 4 * 2 ≡ n = rw (split_31_1 w, split_7_1 w, split_25_6 w, split_8_4 w, a, b) whole in
    sym (signed-unsigned_13 z i) ∙ ap (signed 13) (e ∙ sym t)

-- the same in format J
immediate_j_from : (w n : ℕ) (z : ℤ) → IsFrom (pos 0 -ℤ pos 1048576) (pos 1048576) z → IsEven z → unsigned_of (pos 2097152) z ≡ n → funct3_of w ≡ placed_j n % 8 → rs1_of w ≡ placed_j n / 8 % 32 → rs2_of w ≡ placed_j n / 256 % 32 → funct7_of w ≡ placed_j n / 8192 → z ≡ immediate_j w
immediate_j_from w n z i v e p q r s =
    let below = signed_bits_below_21 z i in
    let even = even_bits_21 z i v in
    let n_below : n < 2097152 = omega arith in
    let n_even : n % 2 ≡ 0 = rw e at even in
    let whole = unplaced_j n n_below n_even in
    let a : field w 31 1 ≡ placed_j n / 8192 / 64 = split_31_1 w ∙ ap (λ x. x / 64) s in
    let b : field w 12 8 ≡ placed_j n % 256 = split_12_8 w ∙ eight (placed_j n) _ _ p q in
    let c : field w 20 1 ≡ placed_j n / 256 % 2 = split_20_1 w ∙ one_bit (placed_j n) _ r in
    let d : field w 21 10 ≡ placed_j n / 512 % 1024 = split_21_10 w ∙ ten (placed_j n) _ _ r s in
    let t : field w 31 1 * 2 ^ 20 + field w 12 8 * 2 ^ 12 + field w 20 1 * 2 ^ 11 + field w 21 10 * 2 ≡ n = rw (a, b, c, d) whole in
    sym (signed-unsigned_21 z i) ∙ ap (signed 21) (e ∙ sym t)

-- a branch's distance takes 12 bits in its places
placed_b_below : (n : ℕ) → n < 8192 → placed_b n < 4096
placed_b_below n h = omega arith

-- a jump's distance takes 20 bits in its places
placed_j_below : (n : ℕ) → n < 2097152 → placed_j n < 1048576
placed_j_below n h = omega arith

-- the word of an instruction in range is its word
pub is_row_of_word : (i : Instr) → IsInRange i → IsRow (word_of i) i
is_row_of_word (Reg o rd rs1 rs2) h =
    let r = reg_row o in
    let q = small_parts r (small (op.Reg o)) in
    let p = Parts-joined r.opcode rd r.funct3 rs1 rs2 r.funct7 q.0 h.0 q.1 h.1 h.2 q.2 in
    (matches_at r format_r (word_of (Reg o rd rs1 rs2)) (format_reg o) (and_from _ _ (eq-eqb _ _ p.opcode) (and_from _ _ (eq-eqb _ _ p.funct3) (eq-eqb _ _ p.funct7))), sym p.rd, sym p.rs1, sym p.rs2)
is_row_of_word (Imm o rd rs1 imm) h =
    let r = imm_row o in
    let w = word_of (Imm o rd rs1 imm) in
    let bits = bits_in r.format r.funct7 imm in
    let b : bits_in (imm_row o).format (imm_row o).funct7 imm < 4096 = bits_below r.format r imm (format_imm o) (small (op.Imm o)) h.2 in
    let p = Parts_i r rd rs1 (bits_in (imm_row o).format (imm_row o).funct7 imm) (small (op.Imm o)) h.0 h.1 b in
    let whole = split_12 (word_of (Imm o rd rs1 imm)) ∙ twelve (bits_in (imm_row o).format (imm_row o).funct7 imm) _ _ p.rs2 p.funct7 in
    let m = immediate_row r.format r (word_of (Imm o rd rs1 imm)) imm (format_imm o) h.2 p.opcode p.funct3 whole in
    (m.0, sym p.rd, sym p.rs1, m.1)
is_row_of_word (Load o rd rs1 imm) h =
    let p = Parts_i (load_row o) rd rs1 (unsigned_of (pos 4096) imm) (small (op.Load o)) h.0 h.1 (signed_bits_below imm h.2) in
    (matches_at (load_row o) format_i (word_of (Load o rd rs1 imm)) (format_load o) (and_from _ _ (eq-eqb _ _ p.opcode) (eq-eqb _ _ p.funct3)), sym p.rd, sym p.rs1, immediate_i_from (word_of (Load o rd rs1 imm)) (unsigned_of (pos 4096) imm) imm h.2 refl p.rs2 p.funct7)
is_row_of_word (Store o rs1 rs2 imm) h =
    let p = Parts_s (store_row o) rs1 rs2 (unsigned_of (pos 4096) imm) (small (op.Store o)) h.0 h.1 (signed_bits_below imm h.2) in
    (matches_at (store_row o) format_s (word_of (Store o rs1 rs2 imm)) (format_store o) (and_from _ _ (eq-eqb _ _ p.opcode) (eq-eqb _ _ p.funct3)), sym p.rs1, sym p.rs2, immediate_s_from (word_of (Store o rs1 rs2 imm)) (unsigned_of (pos 4096) imm) imm h.2 refl p.rd p.funct7)
is_row_of_word (Branch o rs1 rs2 imm) h =
    let n = unsigned_of (pos 8192) imm in
    let p = Parts_s (branch_row o) rs1 rs2 (placed_b (unsigned_of (pos 8192) imm)) (small (op.Branch o)) h.0 h.1 (placed_b_below (unsigned_of (pos 8192) imm) (signed_bits_below_13 imm h.2)) in
    (matches_at (branch_row o) format_b (word_of (Branch o rs1 rs2 imm)) (format_branch o) (and_from _ _ (eq-eqb _ _ p.opcode) (eq-eqb _ _ p.funct3)), sym p.rs1, sym p.rs2, immediate_b_from (word_of (Branch o rs1 rs2 imm)) (unsigned_of (pos 8192) imm) imm h.2 h.3 refl p.rd p.funct7)
is_row_of_word (Upper o rd imm) h =
    let p = Parts_u (upper_row o) rd imm (small (op.Upper o)) h.0 h.1 in
    (matches_at (upper_row o) format_u (word_of (Upper o rd imm)) (format_upper o) (eq-eqb _ _ p.opcode), sym p.rd, sym (split_20 (word_of (Upper o rd imm)) ∙ twenty imm _ _ _ _ p.funct3 p.rs1 p.rs2 p.funct7))
is_row_of_word (Jal rd imm) h =
    let n_below = signed_bits_below_21 imm h.1 in
    let p = Parts_u cjal_row rd (placed_j (unsigned_of (pos 2097152) imm)) refl h.0 (placed_j_below (unsigned_of (pos 2097152) imm) n_below) in
    (eq-eqb _ _ p.opcode, sym p.rd, immediate_j_from (word_of (Jal rd imm)) (unsigned_of (pos 2097152) imm) imm h.1 h.2 refl p.funct3 p.rs1 p.rs2 p.funct7)
is_row_of_word (Jalr rd rs1 imm) h =
    let p = Parts_i cjalr_row rd rs1 (unsigned_of (pos 4096) imm) refl h.0 h.1 (signed_bits_below imm h.2) in
    (and_from _ _ (eq-eqb _ _ p.opcode) (eq-eqb _ _ p.funct3), sym p.rd, sym p.rs1, immediate_i_from (word_of (Jalr rd rs1 imm)) (unsigned_of (pos 4096) imm) imm h.2 refl p.rs2 p.funct7)
is_row_of_word (One o rd rs1) h =
    let p = Parts_one (one_row o) rd rs1 (small (op.One o)) h.0 h.1 in
    (matches_at (one_row o) format_one (word_of (One o rd rs1)) (format_one_of o) (and_from _ _ (eq-eqb _ _ p.opcode) (and_from _ _ (eq-eqb _ _ p.funct3) (and_from _ _ (eq-eqb _ _ p.funct7) (eq-eqb _ _ p.rs2)))), sym p.rd, sym p.rs1)
is_row_of_word Ecall h = refl
is_row_of_word Ebreak h = refl
is_row_of_word Fence h = refl

-- the word of an instruction in range is the one word below 2 ^ 32 that has it
pub one_word : (i : Instr) → IsInRange i → (w : ℕ) → w < 2 ^ 32 → IsRow w i ↔ (Some (word_of i) ≡ Some w)
one_word i h w small_w = (λ r. ap (λ x. Some x) (word_of_row w i small_w r), λ e. let same : word_of i ≡ w = cc in subst (λ x. IsRow x i) same (is_row_of_word i h))

-- ---- the word of an instruction in range has 32 bits

-- a word with two registers and the highest 12 bits
below_i : (r : Row) (rd rs1 bits : ℕ) → is_small r ≡ true → rd < 32 → rs1 < 32 → bits < 4096 → word_i r rd rs1 bits < 2 ^ 32
below_i r rd rs1 bits s a b c = let p = small_parts r s in joined_below r.opcode rd r.funct3 rs1 (bits % 32) (bits / 32) p.0 a p.1 b (omega arith) (omega arith)

-- a word with two sources and 12 bits around them
below_s : (r : Row) (rs1 rs2 bits : ℕ) → is_small r ≡ true → rs1 < 32 → rs2 < 32 → bits < 4096 → word_s r rs1 rs2 bits < 2 ^ 32
below_s r rs1 rs2 bits s a b c = let p = small_parts r s in joined_below r.opcode (bits % 32) r.funct3 rs1 rs2 (bits / 32) p.0 (omega arith) p.1 a b (omega arith)

-- a word with a destination and the highest 20 bits
below_u : (r : Row) (rd bits : ℕ) → is_small r ≡ true → rd < 32 → bits < 1048576 → word_u r rd bits < 2 ^ 32
below_u r rd bits s a b = let p = small_parts r s in joined_below r.opcode rd (bits % 8) (bits / 8 % 32) (bits / 256 % 32) (bits / 8192) p.0 a (omega arith) (omega arith) (omega arith) (omega arith)

-- the word of an instruction in range is below 2 ^ 32
pub word_below : (i : Instr) → IsInRange i → word_of i < 2 ^ 32
word_below (Reg o rd rs1 rs2) h = let r = reg_row o in let p = small_parts r (small (op.Reg o)) in joined_below r.opcode rd r.funct3 rs1 rs2 r.funct7 p.0 h.0 p.1 h.1 h.2 p.2
word_below (Imm o rd rs1 imm) h = let r = imm_row o in below_i r rd rs1 (bits_in r.format r.funct7 imm) (small (op.Imm o)) h.0 h.1 (bits_below r.format r imm (format_imm o) (small (op.Imm o)) h.2)
word_below (Load o rd rs1 imm) h = below_i (load_row o) rd rs1 (unsigned_of (pos 4096) imm) (small (op.Load o)) h.0 h.1 (signed_bits_below imm h.2)
word_below (Store o rs1 rs2 imm) h = below_s (store_row o) rs1 rs2 (unsigned_of (pos 4096) imm) (small (op.Store o)) h.0 h.1 (signed_bits_below imm h.2)
word_below (Branch o rs1 rs2 imm) h = below_s (branch_row o) rs1 rs2 (placed_b (unsigned_of (pos 8192) imm)) (small (op.Branch o)) h.0 h.1 (placed_b_below (unsigned_of (pos 8192) imm) (signed_bits_below_13 imm h.2))
word_below (Upper o rd imm) h = below_u (upper_row o) rd imm (small (op.Upper o)) h.0 h.1
word_below (Jal rd imm) h = below_u cjal_row rd (placed_j (unsigned_of (pos 2097152) imm)) refl h.0 (placed_j_below (unsigned_of (pos 2097152) imm) (signed_bits_below_21 imm h.1))
word_below (Jalr rd rs1 imm) h = below_i cjalr_row rd rs1 (unsigned_of (pos 4096) imm) refl h.0 h.1 (signed_bits_below imm h.2)
word_below (One o rd rs1) h = let r = one_row o in let p = small_parts r (small (op.One o)) in joined_below r.opcode rd r.funct3 rs1 r.rs2 r.funct7 p.0 h.0 p.1 h.1 p.3 p.2
word_below Ecall h = omega arith
word_below Ebreak h = omega arith
word_below Fence h = omega arith
