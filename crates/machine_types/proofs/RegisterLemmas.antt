-- The registers at the start.
use Rattle.std.proofs.Common.{◌≡◌, ◌<◌, ◌^◌, ℕ, refl, replicate, arith, inl, inr, rules, subst, IsTrue}
use Rattle.std.proofs.lemmas.Bool.{cases_lt}
use Rattle.std.proofs.lemmas.List.{get_or-replicate, get_or_past}
use Rattle.std.proofs.lemmas.List.Elements.{All-replicate}
use Rattle.std.proofs.lemmas.Grind.{common_steps}
use Rattle.cap_format.specs.Made.{null}
use Rattle.machine_types.specs.Registers.{register, AreInside, IsRegisterFile}

-- each of them is null
pub register-null : (count n : ℕ) → register (replicate count null) n ≡ null
register-null count n = elim (cases_lt n count) [
  | inl h ↦ get_or-replicate count n null null h
  | inr h ↦ get_or_past (replicate count null) n null (grind (arith, common_steps))
]

-- so none of them is tagged
pub AreInside-null : (count region : ℕ) → AreInside (replicate count null) region
AreInside-null count region n small tagged =
    let untagged : IsTrue null.tag = subst (λ cap. IsTrue cap.tag) (register-null count n) tagged in
    absurd (search rules)

-- and they are a register file
pub file-null : IsRegisterFile (replicate 32 null)
file-null = record {
  length_is = refl;
  zero = refl;
  patterns = All-replicate (λ cap. cap.bits < 2 ^ 128) 32 null (omega arith);
}
