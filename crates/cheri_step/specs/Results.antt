-- What the instructions on capabilities and integers give.
-- Integers after the RISC-V unprivileged ISA. The rows of capabilities are after the CHERI ISA v9; their results
-- are this project's own.
use Rattle.std.specs.Prelude.{ℕ, ◌*◌, ◌^◌, ◌%◌, ◌==◌, ◌&&◌, not, Bool, false, if◌then◌else◌, IsTrue, ℤ, ◌≤ℤ◌, int_le}
use Rattle.cap_format.specs.declared.cap.Cap.{Cap}
use Rattle.cap_format.specs.Pattern.{address_of, perms_of, kind_of, base_of, top_of, length_of}
use Rattle.cap_format.specs.Made.{from_int, with_address}
use Rattle.cap_format.specs.SetBounds.{set_bounds, rounded_length, align_mask}
use Rattle.cap_format.specs.Rights.{allows}
use Rattle.cap_format.specs.Sealing.{and_perms, seal_entry}
use Rattle.int_step.specs.Values.{sum, difference, wrapped, truth, extended, reg_value, register_row, operand}
use Rattle.riscv_decode.specs.declared.instr.RegOp.{RegOp}
use Rattle.riscv_decode.specs.declared.instr.RegOp.TheVariants as reg
use Rattle.riscv_decode.specs.declared.instr.ImmOp.{ImmOp}
use Rattle.riscv_decode.specs.declared.instr.UpperOp.{UpperOp}
use Rattle.riscv_decode.specs.declared.instr.UpperOp.TheVariants as upper
use Rattle.riscv_decode.specs.declared.instr.OneOp.{OneOp}
use Rattle.riscv_decode.specs.declared.instr.OneOp.TheVariants as one

-- the integer of a capability is its address
abbrev pub integer_of : Cap → ℕ
integer_of cap = address_of cap.bits

-- a truth value as an integer
abbrev pub truth_cap : Bool → Cap
truth_cap b = from_int (truth b)

-- the base and the length of a tagged capability, and 0 of an untagged one
abbrev pub shown_base : Cap → ℕ
shown_base cap = if cap.tag then wrapped 64 (base_of cap.bits) else 0

abbrev pub shown_length : Cap → ℕ
shown_length cap = if cap.tag then length_of cap.bits % 2 ^ 64 else 0

-- the bounds that are asked for, without the tag where they were rounded
abbrev pub exact_bounds : Cap → ℕ → Cap
exact_bounds cap size = record (set_bounds cap size).cap { tag = (set_bounds cap size).cap.tag && (set_bounds cap size).exact }

-- the bounds of the second lie in those of the first
abbrev pub is_around : Cap → Cap → Bool
is_around cap other = int_le (base_of cap.bits) (base_of other.bits) && int_le (top_of other.bits) (top_of cap.bits)

-- both are tagged, and the bounds and the permissions of the second lie in those of the first
abbrev pub is_subset : Cap → Cap → Bool
is_subset cap other = cap.tag && (other.tag && (is_around cap other && allows cap.bits (perms_of other.bits)))

-- two truth values are equal
abbrev pub same : Bool → Bool → Bool
same a b = if a then b else not b

-- the result of a row of two sources
abbrev pub reg_result : RegOp → Cap → Cap → Cap
reg_result reg.CSetBounds a b = (set_bounds a (integer_of b)).cap
reg_result reg.CSetBoundsExact a b = exact_bounds a (integer_of b)
reg_result reg.CAndPerm a b = and_perms a (integer_of b % 2 ^ 16)
reg_result reg.CSetAddr a b = with_address a (integer_of b)
reg_result reg.CIncOffset a b = with_address a (sum 64 (integer_of a) (integer_of b))
reg_result reg.CSub a b = from_int (difference 64 (integer_of a) (integer_of b))
reg_result reg.CTestSubset a b = truth_cap (is_subset a b)
reg_result reg.CSeqx a b = truth_cap ((a.bits == b.bits) && same a.tag b.tag)
reg_result op a b = from_int (reg_value op (integer_of a) (integer_of b))

-- of a row of a source and an immediate: that of the row of two sources, with the immediate as an integer
abbrev pub imm_result : ImmOp → Cap → ℤ → Cap
imm_result op a i = reg_result (register_row op) a (from_int (operand i))

-- of a row of PCC and an upper immediate
abbrev pub upper_result : UpperOp → Cap → ℕ → Cap
upper_result upper.Lui pcc i = from_int (extended (i * 4096))
upper_result upper.Auipcc pcc i = with_address pcc (sum 64 (integer_of pcc) (extended (i * 4096)))

-- of a row of one source
abbrev pub one_result : OneOp → Cap → Cap
one_result one.CGetPerm a = from_int (perms_of a.bits)
one_result one.CGetBase a = from_int (shown_base a)
one_result one.CGetLen a = from_int (shown_length a)
one_result one.CGetTag a = truth_cap a.tag
one_result one.CGetSealed a = truth_cap (not (kind_of a.bits == 0))
one_result one.CGetOffset a = from_int (difference 64 (integer_of a) (shown_base a))
one_result one.Crrl a = from_int (rounded_length (integer_of a))
one_result one.Cram a = from_int (align_mask (integer_of a))
one_result one.CMove a = a
one_result one.CClearTag a = record a { tag = false }
one_result one.CGetAddr a = from_int (integer_of a)
one_result one.CSealEntry a = seal_entry a

-- PCC at the next instruction
abbrev pub next_pcc : Cap → Cap
next_pcc pcc = with_address pcc (sum 64 (integer_of pcc) 4)

-- What a capability derives from another: where it is tagged the other is, its bounds lie in those of the other, and its
-- permissions are among those of the other.
pub record Derives (from to : Cap) : Type 0 where
  pub tagged : IsTrue to.tag → IsTrue from.tag
  pub base : IsTrue to.tag → base_of from.bits ≤ℤ base_of to.bits
  pub top : IsTrue to.tag → top_of to.bits ≤ℤ top_of from.bits
  pub permissions : IsTrue to.tag → IsTrue (allows from.bits (perms_of to.bits))
