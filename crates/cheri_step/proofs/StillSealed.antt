-- What a sealed capability gives.
use Rattle.std.proofs.Common.{◌≡◌, inl, inr, ℕ, ℤ, Bool, false, ◌==◌, ◌&&◌, ◌+◌, ◌*◌, ◌%◌, ◌^◌, ◌<◌, ◌∙◌, IsTrue, refl, ap, arith}
use Rattle.std.proofs.lemmas.Bool.{and_parts, eqb-true}
use Rattle.std.proofs.Math.Nat.{mod-eq_of_lt}
use Rattle.cap_format.specs.Numbers.{permit_execute, permit_load_capability}
use Rattle.cap_format.specs.declared.cap.Cap.{Cap}
use Rattle.cap_format.specs.Pattern.{address_of, kind_of, with_address_bits}
use Rattle.cap_format.specs.Made.{from_int, with_address}
use Rattle.cap_format.specs.SetBounds.{set_bounds}
use Rattle.cap_format.specs.Rights.{allows, holds}
use Rattle.cap_format.specs.Sealing.{and_perms, seal_entry}
use Rattle.riscv_decode.specs.declared.instr.RegOp.{RegOp}
use Rattle.riscv_decode.specs.declared.instr.RegOp.TheVariants as reg
use Rattle.riscv_decode.specs.declared.instr.ImmOp.{ImmOp}
use Rattle.riscv_decode.specs.declared.instr.UpperOp.{UpperOp}
use Rattle.riscv_decode.specs.declared.instr.UpperOp.TheVariants as upper
use Rattle.riscv_decode.specs.declared.instr.OneOp.{OneOp}
use Rattle.riscv_decode.specs.declared.instr.OneOp.TheVariants as one
use Rattle.riscv_decode.specs.declared.instr.LoadOp.TheVariants as load
use Rattle.int_step.specs.Values.{sum, operand, register_row, extended}
use Rattle.cheri_step.specs.Results.{integer_of, exact_bounds, reg_result, imm_result, upper_result, one_result, next_pcc}
use Rattle.cheri_step.specs.Plans.{link, loaded}
use Rattle.cheri_step.specs.Laws.{StaysSealed}
use Rattle.cap_format.proofs.Bases.{with_address-address}
use Rattle.cheri_step.proofs.Derivations.{was-moved}
use Rattle.cheri_step.proofs.KeptCounters.{kind-put}

-- what is untagged does
sealed-untagged : (from to : Cap) → to.tag ≡ false → StaysSealed from to
sealed-untagged from to untagged = record { plain_or_same = λ t. absurd (cc) }

-- so does what comes of a plain source
sealed-plain : (from to : Cap) → (IsTrue to.tag → kind_of from.bits ≡ 0) → StaysSealed from to
sealed-plain from to plain = record { plain_or_same = λ t. inl (plain t) }

-- a tag with a test of the kind tells that it is plain
plain-tag : (tag rest : Bool) (kind : ℕ) → IsTrue (tag && ((kind == 0) && rest)) → kind ≡ 0
plain-tag tag rest kind t = eqb-true kind 0 (and_parts (kind == 0) rest (and_parts tag ((kind == 0) && rest) t).1).0

-- another address
sealed-address : (cap : Cap) (address : ℕ) → StaysSealed cap (with_address cap address)
unfolding with_address
sealed-address cap address = sealed-plain cap (with_address cap address) (λ t. (was-moved cap.tag cap.bits (with_address_bits cap.bits address) t).plain)

-- rounded bounds
sealed-rounded : (cap : Cap) (size : ℕ) → StaysSealed cap (set_bounds cap size).cap
unfolding set_bounds
sealed-rounded cap size = sealed-plain cap (set_bounds cap size).cap (λ t. plain-tag cap.tag (holds cap.bits (address_of cap.bits) size) (kind_of cap.bits) t)

-- exact bounds
sealed-exact : (cap : Cap) (size : ℕ) → StaysSealed cap (exact_bounds cap size)
unfolding set_bounds
sealed-exact cap size =
    sealed-plain cap (exact_bounds cap size)
    (λ t. plain-tag cap.tag (holds cap.bits (address_of cap.bits) size) (kind_of cap.bits) (and_parts (set_bounds cap size).cap.tag (set_bounds cap size).exact t).0)

-- fewer permissions
sealed-perms : (cap : Cap) (mask : ℕ) → StaysSealed cap (and_perms cap mask)
unfolding and_perms
sealed-perms cap mask = sealed-plain cap (and_perms cap mask) (λ t. eqb-true (kind_of cap.bits) 0 (and_parts cap.tag (kind_of cap.bits == 0) t).1)

-- a sealed entry
sealed-entry : (cap : Cap) → StaysSealed cap (seal_entry cap)
unfolding seal_entry
sealed-entry cap = sealed-plain cap (seal_entry cap) (λ t. plain-tag cap.tag (allows cap.bits permit_execute) (kind_of cap.bits) t)

-- The result of a row of two sources.
pub sealed-reg : (op : RegOp) (a b : Cap) → StaysSealed a (reg_result op a b)
sealed-reg reg.CSetBounds a b = sealed-rounded a (integer_of b)
sealed-reg reg.CSetBoundsExact a b = sealed-exact a (integer_of b)
sealed-reg reg.CAndPerm a b = sealed-perms a (integer_of b % 2 ^ 16)
sealed-reg reg.CSetAddr a b = sealed-address a (integer_of b)
sealed-reg reg.CIncOffset a b = sealed-address a (sum 64 (integer_of a) (integer_of b))
sealed-reg _ a b = sealed-untagged a _ refl

-- That of a row of an immediate.
pub sealed-imm : (op : ImmOp) (a : Cap) (imm : ℤ) → StaysSealed a (imm_result op a imm)
sealed-imm op a imm = sealed-reg (register_row op) a (from_int (operand imm))

-- That of a row of an upper immediate.
pub sealed-upper : (op : UpperOp) (pcc : Cap) (imm : ℕ) → StaysSealed pcc (upper_result op pcc imm)
sealed-upper upper.Lui pcc imm = sealed-untagged pcc _ refl
sealed-upper upper.Auipcc pcc imm = sealed-address pcc (sum 64 (integer_of pcc) (extended (imm * 4096)))

-- That of a row of one source.
pub sealed-one : (op : OneOp) (a : Cap) → StaysSealed a (one_result op a)
sealed-one one.CMove a = record { plain_or_same = λ t. inr refl }
sealed-one one.CSealEntry a = sealed-entry a
sealed-one _ a = sealed-untagged a _ refl

-- the way back from a jump is sealed
pub back-sealed : (pcc : Cap) → kind_of (link pcc).bits ≡ 1
unfolding seal_entry
back-sealed pcc = kind-put (next_pcc pcc).bits 1 (omega arith)

-- PCC goes four bytes on, where the sum doesn't wrap
pub next-on : (pcc : Cap) → address_of pcc.bits + 4 < 2 ^ 64 → address_of (next_pcc pcc).bits ≡ address_of pcc.bits + 4
unfolding with_address
next-on pcc fits =
    let same : sum 64 (integer_of pcc) 4 ≡ address_of pcc.bits + 4 = mod-eq_of_lt fits in
    ap (λ a. address_of (with_address_bits pcc.bits a)) same ∙ with_address-address pcc.bits (address_of pcc.bits + 4) fits

-- by an authority that may not load capabilities none comes with its tag
pub loaded-untagged : (authority value : Cap) → allows authority.bits permit_load_capability ≡ false → (loaded load.Clc authority value).tag ≡ false
loaded-untagged authority value denied = rw denied refl
