-- Two rows that have a word in common are one row of the table.
use Rattle.std.proofs.Common.{◌≡◌, ℕ, ◌/◌, ◌==◌, ◌&&◌, Bool, true, false, List, [], ◌∷◌, Some, refl, sym, ap, subst, ◌∙◌, arith, inl, inr}
use Rattle.std.specs.List.{find, filter}
use Rattle.std.proofs.lemmas.Bool.{and_from, eq-eqb, true≢false, cases_Bool, cond-true, cond-false}
use Rattle.std.proofs.lemmas.Bool.Decides.{nat_tests}
use Rattle.riscv_decode.specs.Opcodes.{ops_of}
use Rattle.riscv_decode.specs.declared.ops.Op.{Op}
use Rattle.riscv_decode.specs.declared.ops.Op.TheVariants as op
use Rattle.riscv_decode.specs.declared.instr.RegOp.{RegOp}
use Rattle.riscv_decode.specs.declared.instr.RegOp.TheVariants as reg
use Rattle.riscv_decode.specs.declared.instr.ImmOp.{ImmOp}
use Rattle.riscv_decode.specs.declared.instr.ImmOp.TheVariants as imm
use Rattle.riscv_decode.specs.declared.instr.LoadOp.{LoadOp}
use Rattle.riscv_decode.specs.declared.instr.LoadOp.TheVariants as load
use Rattle.riscv_decode.specs.declared.instr.StoreOp.{StoreOp}
use Rattle.riscv_decode.specs.declared.instr.StoreOp.TheVariants as store
use Rattle.riscv_decode.specs.declared.instr.BranchOp.{BranchOp}
use Rattle.riscv_decode.specs.declared.instr.BranchOp.TheVariants as branch
use Rattle.riscv_decode.specs.declared.instr.UpperOp.{UpperOp}
use Rattle.riscv_decode.specs.declared.instr.UpperOp.TheVariants as upper
use Rattle.riscv_decode.specs.declared.instr.OneOp.{OneOp}
use Rattle.riscv_decode.specs.declared.instr.OneOp.TheVariants as one
use Rattle.riscv_decode.specs.Words.{field, opcode_of, funct3_of, rs2_of, funct7_of}
use Rattle.riscv_decode.specs.Rows.{Format, format_r, format_shift6, format_shift5, format_u, format_j, format_one, format_whole, Row, matches, matches_in, reg_row, imm_row, load_row, store_row, branch_row, upper_row, one_row}
use Rattle.riscv_decode.specs.Code.{is_small, row_of}

-- the formats that fix funct3
abbrev pub fixes_funct3 : Format → Bool
fixes_funct3 format_u = false
fixes_funct3 format_j = false
fixes_funct3 _ = true

-- the formats that fix the highest six bits
abbrev pub fixes_high : Format → Bool
fixes_high format_r = true
fixes_high format_shift6 = true
fixes_high format_shift5 = true
fixes_high format_one = true
fixes_high format_whole = true
fixes_high _ = false

-- the formats that fix funct7
abbrev pub fixes_funct7 : Format → Bool
fixes_funct7 format_r = true
fixes_funct7 format_shift5 = true
fixes_funct7 format_one = true
fixes_funct7 format_whole = true
fixes_funct7 _ = false

-- the formats that fix the bits of rs2
abbrev pub fixes_rs2 : Format → Bool
fixes_rs2 format_one = true
fixes_rs2 format_whole = true
fixes_rs2 _ = false

-- what a word of a row has of the row
pub record Fixed (f : Format) (r : Row) (w : ℕ) : Type 0 where
  pub opcode : opcode_of w ≡ r.opcode
  pub funct3 : fixes_funct3 f ≡ true → funct3_of w ≡ r.funct3
  pub high : fixes_high f ≡ true → field w 26 6 ≡ r.funct7 / 2
  pub funct7 : fixes_funct7 f ≡ true → funct7_of w ≡ r.funct7
  pub rs2 : fixes_rs2 f ≡ true → rs2_of w ≡ r.rs2

-- a word that matches a row has what the row's format fixes
pub fixed_in : (f : Format) (r : Row) (w : ℕ) → is_small r ≡ true → matches_in f r w ≡ true → Fixed f r w
fixed_in format_r r w s m = grind (arith, nat_tests)
fixed_in _ r w s m = grind (arith, nat_tests)

-- where two rows fix one part of a word, they fix it to one value
abbrev pub same_where : Bool → Bool → ℕ → ℕ → Bool
same_where true true m n = m == n
same_where true false m n = true
same_where false _ m n = true

-- no part of a word rules out that it matches both rows
abbrev pub agree : Row → Row → Bool
agree r s = (r.opcode == s.opcode) && (same_where (fixes_funct3 r.format) (fixes_funct3 s.format) r.funct3 s.funct3 && (same_where (fixes_high r.format) (fixes_high s.format) (r.funct7 / 2) (s.funct7 / 2) && (same_where (fixes_funct7 r.format) (fixes_funct7 s.format) r.funct7 s.funct7 && same_where (fixes_rs2 r.format) (fixes_rs2 s.format) r.rs2 s.rs2)))

-- two rows that both fit what a word has of one part fix it to one value
same_where_from : (b c : Bool) (m n x : ℕ) → (b ≡ true → x ≡ m) → (c ≡ true → x ≡ n) → same_where b c m n ≡ true
same_where_from true true m n x p q = eq-eqb m n (sym (p refl) ∙ q refl)
same_where_from true false m n x p q = refl
same_where_from false c m n x p q = refl

-- two rows that have a word in common agree
pub agree_from_word : (r s : Row) (w : ℕ) → is_small r ≡ true → is_small s ≡ true → matches r w ≡ true → matches s w ≡ true → agree r s ≡ true
agree_from_word r s w r_small s_small in_r in_s =
    let p = fixed_in r.format r w r_small in_r in
    let q = fixed_in s.format s w s_small in_s in
    and_from _ _ (eq-eqb _ _ (sym p.opcode ∙ q.opcode)) (and_from _ _ (same_where_from _ _ _ _ _ p.funct3 q.funct3) (and_from _ _ (same_where_from _ _ _ _ _ p.high q.high) (and_from _ _ (same_where_from _ _ _ _ _ p.funct7 q.funct7) (same_where_from _ _ _ _ _ p.rs2 q.rs2))))

-- the operations of an operation's opcode whose rows agree with its own
abbrev pub agreeing : Op → List Op
agreeing o = filter (λ p. agree (row_of o) (row_of p)) (ops_of (row_of o).opcode)

-- no other row agrees with that of an operation on two registers
alone_reg : (o : RegOp) → agreeing (op.Reg o) ≡ op.Reg o ∷ []
alone_reg reg.Add = refl
alone_reg _ = refl

-- no other row agrees with that of an operation on an immediate
alone_imm : (o : ImmOp) → agreeing (op.Imm o) ≡ op.Imm o ∷ []
alone_imm imm.Addi = refl
alone_imm _ = refl

-- no other row agrees with that of a load
alone_load : (o : LoadOp) → agreeing (op.Load o) ≡ op.Load o ∷ []
alone_load load.Lb = refl
alone_load _ = refl

-- no other row agrees with that of a store
alone_store : (o : StoreOp) → agreeing (op.Store o) ≡ op.Store o ∷ []
alone_store store.Sb = refl
alone_store _ = refl

-- no other row agrees with that of a branch
alone_branch : (o : BranchOp) → agreeing (op.Branch o) ≡ op.Branch o ∷ []
alone_branch branch.Beq = refl
alone_branch _ = refl

-- no other row agrees with that of an operation on an upper immediate
alone_upper : (o : UpperOp) → agreeing (op.Upper o) ≡ op.Upper o ∷ []
alone_upper upper.Lui = refl
alone_upper _ = refl

-- no other row agrees with that of an operation on one register
alone_one : (o : OneOp) → agreeing (op.One o) ≡ op.One o ∷ []
alone_one one.CGetPerm = refl
alone_one _ = refl

-- each operation stands among those of its opcode, and no other row there agrees with its own
pub alone : (o : Op) → agreeing o ≡ o ∷ []
alone (op.Reg o) = alone_reg o
alone (op.Imm o) = alone_imm o
alone (op.Load o) = alone_load o
alone (op.Store o) = alone_store o
alone (op.Branch o) = alone_branch o
alone (op.Upper o) = alone_upper o
alone (op.One o) = alone_one o
alone _ = refl

-- the rows of operations on two registers fit their places
small_reg : (o : RegOp) → is_small (reg_row o) ≡ true
small_reg reg.Add = refl
small_reg _ = refl

-- the rows of operations on an immediate fit their places
small_imm : (o : ImmOp) → is_small (imm_row o) ≡ true
small_imm imm.Addi = refl
small_imm _ = refl

-- the rows of loads fit their places
small_load : (o : LoadOp) → is_small (load_row o) ≡ true
small_load load.Lb = refl
small_load _ = refl

-- the rows of stores fit their places
small_store : (o : StoreOp) → is_small (store_row o) ≡ true
small_store store.Sb = refl
small_store _ = refl

-- the rows of branches fit their places
small_branch : (o : BranchOp) → is_small (branch_row o) ≡ true
small_branch branch.Beq = refl
small_branch _ = refl

-- the rows of operations on an upper immediate fit their places
small_upper : (o : UpperOp) → is_small (upper_row o) ≡ true
small_upper upper.Lui = refl
small_upper _ = refl

-- the rows of operations on one register fit their places
small_one : (o : OneOp) → is_small (one_row o) ≡ true
small_one one.CGetPerm = refl
small_one _ = refl

-- the fields of each row fit their places
pub small : (o : Op) → is_small (row_of o) ≡ true
small (op.Reg o) = small_reg o
small (op.Imm o) = small_imm o
small (op.Load o) = small_load o
small (op.Store o) = small_store o
small (op.Branch o) = small_branch o
small (op.Upper o) = small_upper o
small (op.One o) = small_one o
small _ = refl

-- Where one element alone passes a test that follows from another test, and passes that too, a search by that finds it.
found_alone : {X : Type 0} (t g : X → Bool) (o : X) → t o ≡ true → ((x : X) → t x ≡ true → g x ≡ true) → (xs : List X) → filter g xs ≡ o ∷ [] → find t xs ≡ Some o
found_alone t g o at_o follows [] e = cc
found_alone t g o at_o follows (x ∷ xs) e =
    let again = found_alone t g o at_o follows xs in
    let here = follows x in
    elim (cases_Bool (t x)) [
      | inl p ↦ let one : x ∷ filter g xs ≡ o ∷ [] = sym (cond-true (g x) (x ∷ filter g xs) (filter g xs) (here p)) ∙ e in cond-true (t x) (Some x) (find t xs) p ∙ cc
      | inr p ↦ elim (cases_Bool (g x)) [
        | inl q ↦ let one : x ∷ filter g xs ≡ o ∷ [] = sym (cond-true (g x) (x ∷ filter g xs) (filter g xs) q) ∙ e in let same : x ≡ o = cc in absurd (true≢false (sym at_o ∙ (ap t (sym same) ∙ p)))
        | inr q ↦ cond-false (t x) (Some x) (find t xs) p ∙ again (sym (cond-false (g x) (x ∷ filter g xs) (filter g xs) q) ∙ e)
      ]
    ]

-- a search for a word's row among the operations of its opcode finds it
pub found : (o : Op) (w : ℕ) → matches (row_of o) w ≡ true → find (λ p. matches (row_of p) w) (ops_of (opcode_of w)) ≡ Some o
found o w in_o =
    let here = fixed_in (row_of o).format (row_of o) w (small o) in_o in
    subst (λ x. find (λ p. matches (row_of p) w) (ops_of x) ≡ Some o) (sym here.opcode) (found_alone (λ p. matches (row_of p) w) (λ p. agree (row_of o) (row_of p)) o in_o (λ p in_p. agree_from_word (row_of o) (row_of p) w (small o) (small p) in_o in_p) (ops_of (row_of o).opcode) (alone o))

-- a word is in one row at most
pub one_row_at_most : (o p : Op) (w : ℕ) → matches (row_of o) w ≡ true → matches (row_of p) w ≡ true → o ≡ p
one_row_at_most o p w in_o in_p = let e = found o w in_o in let f = found p w in_p in cc

-- an operation that a search by a test finds passes the test
pub found_passes : {X : Type 0} (t : X → Bool) (o : X) (xs : List X) → find t xs ≡ Some o → t o ≡ true
found_passes t o [] e = cc
found_passes t o (x ∷ xs) e = elim (cases_Bool (t x)) [
  | inl p ↦ let same : Some x ≡ Some o = sym (cond-true (t x) (Some x) (find t xs) p) ∙ e in let one : x ≡ o = cc in sym (ap t one) ∙ p
  | inr p ↦ found_passes t o xs (sym (cond-false (t x) (Some x) (find t xs) p) ∙ e)
]
