-- What instructions give are patterns: their bits are below 2^128.
use Rattle.std.proofs.Common.{ℕ, Bool, true, false, cond, ◌+◌, ◌*◌, ◌/◌, ◌%◌, ◌^◌, ◌<◌, ◌≤◌, bit_and, nat_lt, arith}
use Rattle.std.specs.Prelude.{ℤ}
use Rattle.std.proofs.lemmas.Nat.{mod_below, and_le_l, pow_pos}
use Rattle.cap_format.specs.Numbers.{permit_load_capability}
use Rattle.cap_format.specs.declared.cap.Cap.{Cap}
use Rattle.cap_format.specs.Pattern.{address_of, meta_of, perms_of, length_of, base_of, with_address_bits}
use Rattle.cap_format.specs.Made.{from_int, with_address}
use Rattle.cap_format.specs.SetBounds.{set_bounds, bounded, bounds_for, exact_length, align_mask, exponent_for}
use Rattle.cap_format.specs.Rights.{allows}
use Rattle.cap_format.specs.Sealing.{with_kind_bits, with_perms_bits, and_perms, seal_entry, unseal_entry}
use Rattle.cap_format.proofs.NewBases.{bounds-short}
use Rattle.riscv_decode.specs.declared.instr.RegOp.{RegOp}
use Rattle.riscv_decode.specs.declared.instr.RegOp.TheVariants as reg
use Rattle.riscv_decode.specs.declared.instr.ImmOp.{ImmOp}
use Rattle.riscv_decode.specs.declared.instr.UpperOp.{UpperOp}
use Rattle.riscv_decode.specs.declared.instr.UpperOp.TheVariants as upper
use Rattle.riscv_decode.specs.declared.instr.OneOp.{OneOp}
use Rattle.riscv_decode.specs.declared.instr.OneOp.TheVariants as one
use Rattle.riscv_decode.specs.declared.instr.LoadOp.{LoadOp}
use Rattle.riscv_decode.specs.declared.instr.LoadOp.TheVariants as load
use Rattle.int_step.specs.Values.{wrapped, truth, sum, operand, register_row, extended}
use Rattle.int_step.proofs.Wrapped.{wrapped-below}
use Rattle.int_step.proofs.Sizes.{reg_value-below}
use Rattle.cheri_step.specs.Results.{integer_of, shown_base, shown_length, reg_result, imm_result, upper_result, one_result, next_pcc}
use Rattle.cheri_step.specs.Tests.{is_entry}
use Rattle.cheri_step.specs.Plans.{loaded, link, unsealed}
use Rattle.cheri_step.proofs.Derivations.{integer-fits, sum-fits}

-- the bits are a pattern
abbrev pub IsPattern : Cap → Type 0
IsPattern cap = cap.bits < 2 ^ 128

-- an integer of 64 bits is one
pub integer-pattern : (n : ℕ) → n < 2 ^ 64 → IsPattern (from_int n)
integer-pattern n fits = omega arith

-- one of two numbers below a third
chosen-below : (first : Bool) (x y n : ℕ) → x < n → y < n → cond first x y < n
chosen-below true x y n small other = small
chosen-below false x y n small other = other

-- a truth value has 64 bits
truth-fits : (holds : Bool) → truth holds < 2 ^ 64
truth-fits holds = chosen-below holds 1 0 (2 ^ 64) (omega arith) (omega arith)

-- so does an integer that was wrapped
wrapped-fits : (z : ℤ) → wrapped 64 z < 2 ^ 64
wrapped-fits z = wrapped-below 64 z

-- a remainder modulo 2^64
rest-fits : (n : ℕ) → n % 2 ^ 64 < 2 ^ 64
rest-fits n = mod_below n (2 ^ 64) (omega arith)

-- a pattern with another address is a pattern
pub address-pattern : (cap : Cap) (address : ℕ) → IsPattern cap → address < 2 ^ 64 → IsPattern (with_address cap address)
unfolding with_address
address-pattern cap address is fits = by cap.bits is
  where
    by : (bits : ℕ) → bits < 2 ^ 128 → with_address_bits bits address < 2 ^ 128
    by bits is = omega arith

-- so is one with new bounds
pub bounds-pattern : (cap : Cap) (size : ℕ) → IsPattern cap → size < 2 ^ 64 → bounded cap.bits size < 2 ^ 128
bounds-pattern cap size is fits = by cap.bits is (bounds_for (address_of cap.bits) size) (bounds-short (address_of cap.bits) size (omega arith))
  where
    by : (bits : ℕ) → bits < 2 ^ 128 → (bounds : ℕ) → bounds < 2 ^ 27 → (meta_of bits / 2 ^ 27 * 2 ^ 27 + bounds) * 2 ^ 64 + address_of bits < 2 ^ 128
    by bits is bounds short = omega arith

-- and where they are asked for
rounded-pattern : (cap : Cap) (size : ℕ) → IsPattern cap → size < 2 ^ 64 → IsPattern (set_bounds cap size).cap
unfolding set_bounds
rounded-pattern cap size is fits = bounds-pattern cap size is fits

-- one with fewer permissions
perms-pattern : (cap : Cap) (mask : ℕ) → IsPattern (and_perms cap mask)
unfolding and_perms
perms-pattern cap mask = by cap.bits (bit_and (perms_of cap.bits) mask) (and_le_l (perms_of cap.bits) mask)
  where
    by : (bits perms : ℕ) → perms ≤ perms_of bits → with_perms_bits bits perms < 2 ^ 128
    by bits perms few = omega arith

-- one of another kind
kind-pattern : (bits kind : ℕ) → bits < 2 ^ 128 → kind < 2 ^ 18 → with_kind_bits bits kind < 2 ^ 128
kind-pattern bits kind is small = omega arith

-- a sealed entry
pub sealed-pattern : (cap : Cap) → IsPattern cap → IsPattern (seal_entry cap)
unfolding seal_entry
sealed-pattern cap is = kind-pattern cap.bits 1 is (omega arith)

-- and one that is unsealed
pub unsealed-pattern : (cap : Cap) → IsPattern cap → IsPattern (unsealed cap)
unfolding unseal_entry
unsealed-pattern cap is = by (is_entry cap)
  where
    by : (entry : Bool) → IsPattern (cond entry (unseal_entry cap) cap)
    by true = kind-pattern cap.bits 0 is (omega arith)
    by false = is

-- the result of a row of two sources
pub reg-pattern : (op : RegOp) (a b : Cap) → IsPattern a → IsPattern (reg_result op a b)
reg-pattern reg.CSetBounds a b is = rounded-pattern a (integer_of b) is (integer-fits b)
reg-pattern reg.CSetBoundsExact a b is = rounded-pattern a (integer_of b) is (integer-fits b)
reg-pattern reg.CAndPerm a b is = perms-pattern a (integer_of b % 2 ^ 16)
reg-pattern reg.CSetAddr a b is = address-pattern a (integer_of b) is (integer-fits b)
reg-pattern reg.CIncOffset a b is = address-pattern a (sum 64 (integer_of a) (integer_of b)) is (sum-fits (integer_of a) (integer_of b))
reg-pattern reg.CSub a b is = integer-pattern _ (wrapped-fits _)
reg-pattern reg.CTestSubset a b is = integer-pattern _ (truth-fits _)
reg-pattern reg.CSeqx a b is = integer-pattern _ (truth-fits _)
reg-pattern op a b is = integer-pattern _ (reg_value-below op (integer_of a) (integer_of b) (integer-fits a) (integer-fits b))

-- of a row of an immediate
pub imm-pattern : (op : ImmOp) (a : Cap) (imm : ℤ) → IsPattern a → IsPattern (imm_result op a imm)
imm-pattern op a imm is = reg-pattern (register_row op) a (from_int (operand imm)) is

-- of a row of an upper immediate
pub upper-pattern : (op : UpperOp) (pcc : Cap) (imm : ℕ) → IsPattern pcc → IsPattern (upper_result op pcc imm)
upper-pattern upper.Lui pcc imm is = integer-pattern _ (wrapped-fits _)
upper-pattern upper.Auipcc pcc imm is = address-pattern pcc _ is (sum-fits (integer_of pcc) (extended (imm * 4096)))

-- the base that is shown has 64 bits
base-fits : (cap : Cap) → shown_base cap < 2 ^ 64
base-fits cap = chosen-below cap.tag _ _ (2 ^ 64) (wrapped-fits (base_of cap.bits)) (pow_pos 64)

-- so has the length
length-fits : (cap : Cap) → shown_length cap < 2 ^ 64
length-fits cap = chosen-below cap.tag _ _ (2 ^ 64) (rest-fits (length_of cap.bits)) (pow_pos 64)

-- and the mask of aligned addresses
mask-fits : (size : ℕ) → align_mask size < 2 ^ 64
mask-fits size = chosen-below (nat_lt size 4096) _ _ (2 ^ 64) (omega arith) (let some = pow_pos (exponent_for 0 size + 3) in omega arith)

-- the result of a row of one source
pub one-pattern : (op : OneOp) (a : Cap) → IsPattern a → IsPattern (one_result op a)
one-pattern one.CGetPerm a is = integer-pattern (perms_of a.bits) (by a.bits)
  where
    by : (bits : ℕ) → perms_of bits < 2 ^ 64
    by bits = omega arith
one-pattern one.CGetBase a is = integer-pattern _ (base-fits a)
one-pattern one.CGetLen a is = integer-pattern _ (length-fits a)
one-pattern one.CGetTag a is = integer-pattern _ (truth-fits a.tag)
one-pattern one.CGetSealed a is = integer-pattern _ (truth-fits _)
one-pattern one.CGetOffset a is = integer-pattern _ (wrapped-fits _)
one-pattern one.Crrl a is = integer-pattern _ (rest-fits (exact_length (integer_of a)))
one-pattern one.Cram a is = integer-pattern _ (mask-fits (integer_of a))
one-pattern one.CMove a is = is
one-pattern one.CClearTag a is = is
one-pattern one.CGetAddr a is = integer-pattern _ (integer-fits a)
one-pattern one.CSealEntry a is = sealed-pattern a is

-- PCC after an instruction
pub next-pattern : (pcc : Cap) → IsPattern pcc → IsPattern (next_pcc pcc)
next-pattern pcc is = address-pattern pcc _ is (sum-fits (integer_of pcc) 4)

-- the way back from a jump
pub link-pattern : (pcc : Cap) → IsPattern pcc → IsPattern (link pcc)
link-pattern pcc is = sealed-pattern (next_pcc pcc) (next-pattern pcc is)

-- what a load puts into its register
pub loaded-pattern : (op : LoadOp) (authority value : Cap) → IsPattern value → IsPattern (loaded op authority value)
loaded-pattern load.Lb authority value is = integer-pattern _ (wrapped-fits _)
loaded-pattern load.Lh authority value is = integer-pattern _ (wrapped-fits _)
loaded-pattern load.Lw authority value is = integer-pattern _ (wrapped-fits _)
loaded-pattern load.Clc authority value is = by (allows authority.bits permit_load_capability)
  where
    by : (allowed : Bool) → IsPattern (cond allowed value (record value { tag = false }))
    by true = is
    by false = is
loaded-pattern _ authority value is = is
