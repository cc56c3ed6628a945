-- The registers of a process stay what it may have.
use Rattle.std.proofs.Common.{◌≡◌, ◌≢◌, ◌∙◌, ℕ, Bool, true, false, ◌==◌, cond, ◌⊎◌, inl, inr, ◌^◌, ◌<◌, ◌≤◌, List, length, slice_set, slice_index_or, refl, arith}
use Rattle.std.specs.Prelude.{ℤ}
use Rattle.std.proofs.lemmas.Bool.{cases_lt, eqb-false}
use Rattle.std.proofs.lemmas.List.{length-set, get_or-set_other, get_or_past}
use Rattle.std.proofs.lemmas.List.Elements.{All-set}
use Rattle.cap_format.specs.declared.cap.Cap.{Cap}
use Rattle.cap_format.specs.Made.{null, from_int}
use Rattle.machine_types.specs.Held.{IsHeld, AreHeld}
use Rattle.machine_types.specs.Registers.{register, with_register, IsRegisterFile}
use Rattle.riscv_decode.specs.declared.instr.RegOp.{RegOp}
use Rattle.riscv_decode.specs.declared.instr.ImmOp.{ImmOp}
use Rattle.riscv_decode.specs.declared.instr.UpperOp.{UpperOp}
use Rattle.riscv_decode.specs.declared.instr.OneOp.{OneOp}
use Rattle.riscv_decode.specs.declared.instr.LoadOp.{LoadOp}
use Rattle.cheri_step.specs.Results.{reg_result, imm_result, upper_result, one_result, Derives}
use Rattle.cheri_step.specs.Plans.{loaded, link, unsealed}
use Rattle.cheri_step.proofs.Derivations.{derives-reg, derives-imm, derives-upper, derives-one, derives-back, derives-loaded, derives-unsealed, derived-inside}
use Rattle.cheri_step.proofs.ResultBits.{IsPattern, reg-pattern, imm-pattern, upper-pattern, one-pattern, link-pattern, loaded-pattern, unsealed-pattern}

-- What a region may have.

-- a pattern without a tag
pub held-untagged : (region : ℕ) (cap : Cap) → IsPattern cap → cap.tag ≡ false → IsHeld region cap
held-untagged region cap is untagged = record { pattern = is; inside = λ tagged. absurd (cc) }

-- an integer
pub held-integer : (region n : ℕ) → n < 2 ^ 128 → IsHeld region (from_int n)
held-integer region n fits = held-untagged region (from_int n) fits refl

-- a pattern that derives from what it may have
pub held-derived : (region : ℕ) (from to : Cap) → IsHeld region from → Derives from to → IsPattern to → IsHeld region to
held-derived region from to held derives is = record {
  pattern = is;
  inside = derived-inside region from to derives held.inside;
}

-- one of a list of such capabilities, and null past its end
pub held-at : (region : ℕ) (caps : List Cap) (n : ℕ) → AreHeld region caps → IsHeld region (slice_index_or caps n null)
held-at region caps n held = by (cases_lt n (length caps))
  where
    by : (n < length caps) ⊎ (length caps ≤ n) → IsHeld region (slice_index_or caps n null)
    by (inl there) = held n null there
    by (inr past) = rw (get_or_past caps n null past) (held-integer region 0 (omega arith))

-- Registers.

-- a register file of what the region may have
pub record AreKept (region : ℕ) (registers : List Cap) : Type 0 where
  pub file : IsRegisterFile registers
  pub held : AreHeld region registers

-- each register is such
pub kept-register : (region : ℕ) (registers : List Cap) (n : ℕ) → AreKept region registers → IsHeld region (register registers n)
kept-register region registers n kept = held-at region registers n kept.held

-- with such a capability in a register they are kept
pub kept-with : (region : ℕ) (registers : List Cap) (n : ℕ) (cap : Cap) → AreKept region registers → IsHeld region cap → AreKept region (with_register registers n cap)
kept-with region registers n cap kept held = by (n == 0) refl
  where
    by : (zero : Bool) → (n == 0) ≡ zero → AreKept region (cond zero registers (slice_set registers n cap))
    by true e = kept
    by false e =
        let other : 0 ≢ n = λ same. eqb-false n 0 e (omega arith) in
        record {
          file = record {
            length_is = length-set registers n cap ∙ kept.file.length_is;
            zero = get_or-set_other registers n 0 cap null other ∙ kept.file.zero;
            patterns = All-set (λ x. x.bits < 2 ^ 128) registers n cap held.pattern kept.file.patterns;
          };
          held = All-set (IsHeld region) registers n cap held kept.held;
        }

-- Results.

-- of a row of two sources
pub held-reg : (region : ℕ) (op : RegOp) (a b : Cap) → IsHeld region a → IsHeld region (reg_result op a b)
held-reg region op a b held = held-derived region a (reg_result op a b) held (derives-reg op a b) (reg-pattern op a b held.pattern)

-- of a row of an immediate
pub held-imm : (region : ℕ) (op : ImmOp) (a : Cap) (imm : ℤ) → IsHeld region a → IsHeld region (imm_result op a imm)
held-imm region op a imm held = held-derived region a (imm_result op a imm) held (derives-imm op a imm) (imm-pattern op a imm held.pattern)

-- of a row of an upper immediate
pub held-upper : (region : ℕ) (op : UpperOp) (pcc : Cap) (imm : ℕ) → IsHeld region pcc → IsHeld region (upper_result op pcc imm)
held-upper region op pcc imm held = held-derived region pcc (upper_result op pcc imm) held (derives-upper op pcc imm) (upper-pattern op pcc imm held.pattern)

-- of a row of one source
pub held-one : (region : ℕ) (op : OneOp) (a : Cap) → IsHeld region a → IsHeld region (one_result op a)
held-one region op a held = held-derived region a (one_result op a) held (derives-one op a) (one-pattern op a held.pattern)

-- the way back from a jump
pub held-link : (region : ℕ) (pcc : Cap) → IsHeld region pcc → IsHeld region (link pcc)
held-link region pcc held = held-derived region pcc (link pcc) held (derives-back pcc) (link-pattern pcc held.pattern)

-- what a load puts into its register
pub held-loaded : (region : ℕ) (op : LoadOp) (authority value : Cap) → IsHeld region value → IsHeld region (loaded op authority value)
held-loaded region op authority value held = held-derived region value (loaded op authority value) held (derives-loaded op authority value) (loaded-pattern op authority value held.pattern)

-- a sealed entry as a plain capability
pub held-unsealed : (region : ℕ) (cap : Cap) → IsHeld region cap → IsHeld region (unsealed cap)
held-unsealed region cap held = held-derived region cap (unsealed cap) held (derives-unsealed cap) (unsealed-pattern cap held.pattern)
