-- An effect with two contents that are alike to the region.
use Rattle.std.proofs.Common.{◌≡◌, ℕ, refl, ap, Bool, true, false, cond, Option, Some, None, Ok, Err, Result, List}
use Rattle.cap_format.specs.declared.cap.Cap.{Cap}
use Rattle.cap_format.specs.Pattern.{address_of}
use Rattle.cap_format.specs.Rights.{holds}
use Rattle.machine_types.specs.declared.cause.Cause.{Cause}
use Rattle.machine_types.specs.declared.cause.Cause.TheVariants as cause
use Rattle.machine_types.specs.declared.touches.Note.{Note}
use Rattle.riscv_decode.specs.declared.instr.Instr.{Instr}
use Rattle.riscv_decode.specs.Decoded.{decoded}
use Rattle.contents.specs.declared.refusal.Refusal.{Refusal}
use Rattle.contents.specs.Content.{Content, CallOutcome}
use Rattle.contents.specs.Accesses.{fetch_of}
use Rattle.contents.specs.Laws.{AreAlike, GiveAlike}
use Rattle.contents.proofs.OwnStore.{fetch-alike}
use Rattle.cheri_step.specs.Tests.{tests_of_access, passed}
use Rattle.cheri_step.specs.Access.{place_in, access_cause, fetch_cause, caused, tested, access_of, code_of}
use Rattle.cheri_step.specs.Plans.{Plan, ends, asks}
use Rattle.cheri_step.specs.Effect.{state, Work, performed, carried_out, plan_of, fetch_then, effect}
use Rattle.cheri_step.specs.Laws.{AreAlikeEffects}
use Rattle.cheri_step.proofs.Accessed.{accessed-alike}

-- the plan of a word doesn't depend on the content
pub plan-same : (registers : List Cap) (pcc : Cap) (c d : Content) (o : Option Instr) → plan_of (state registers pcc d) o ≡ plan_of (state registers pcc c) o
plan-same registers pcc c d (Some instr) = refl
plan-same registers pcc c d None = refl

-- the fetch gives the same, and contents that are alike
code-alike : (c d : Content) (region : ℕ) (pcc : Cap) → AreAlike region c d → GiveAlike region (code_of c region pcc) (code_of d region pcc)
code-alike c d region pcc h = by (holds pcc.bits (address_of pcc.bits) 4)
  where
    fetched : Content → CallOutcome (Result (ℕ × Note) Refusal)
    fetched e = fetch_of e region (place_in region (address_of pcc.bits))

    code : Content → Bool → CallOutcome (Result (ℕ × Note) Cause)
    code e held = cond held (record { answer = caused fetch_cause (fetched e).answer; after = (fetched e).after }) (record { answer = Err cause.CodeBounds; after = e })

    by : (held : Bool) → GiveAlike region (code c held) (code d held)
    by true = let k = fetch-alike c d region (place_in region (address_of pcc.bits)) h in record { answer = ap (caused fetch_cause) k.answer; after = k.after }
    by false = record { answer = refl; after = h }

-- and so does an access after its tests
tested-alike : (c d : Content) (region : ℕ) (tests : Result (Unit {0}) Cause) (o p : CallOutcome (Result (Cap × Note) Refusal)) → AreAlike region c d → GiveAlike region o p
    → GiveAlike region (tested c tests o) (tested d tests p)
tested-alike c d region (Ok passes) o p h k = record { answer = ap (caused access_cause) k.answer; after = k.after }
tested-alike c d region (Err cause) o p h k = record { answer = refl; after = h }

-- Two works are one, but for what their contents have of other regions.
record AreAlikeWorks (region : ℕ) (w v : Work) : Type 0 where
  pub rest : v ≡ record w { after = state w.after.registers w.after.pcc v.after.content }
  pub content : AreAlike region w.after.content v.after.content

module _ (registers : List Cap) (pcc : Cap) (c d : Content) (region : ℕ) where
  -- what an access came to
  performed-alike : (loaded : Cap → List Cap) (o p : CallOutcome (Result (Cap × Note) Cause)) → GiveAlike region o p
      → AreAlikeWorks region (performed (state registers pcc c) loaded o.after o.answer) (performed (state registers pcc d) loaded p.after p.answer)
  performed-alike loaded o p h = rw h.answer (by o.answer)
    where
      by : (answer : Result (Cap × Note) Cause) → AreAlikeWorks region (performed (state registers pcc c) loaded o.after answer) (performed (state registers pcc d) loaded p.after answer)
      by (Ok a) = record { rest = refl; content = h.after }
      by (Err cause) = record { rest = refl; content = h.after }

  -- what a plan came to
  plan-alike : AreAlike region c d → (plan : Plan) → AreAlikeWorks region (carried_out (state registers pcc c) region plan) (carried_out (state registers pcc d) region plan)
  plan-alike h (ends end r p) = record { rest = refl; content = h }
  plan-alike h (asks a) =
      performed-alike a.registers (access_of c region a.authority a.address a.op) (access_of d region a.authority a.address a.op)
      (tested-alike c d region (passed (tests_of_access a.authority a.address a.op)) _ _ h (accessed-alike c d region a.address a.op h))

-- what follows the fetch
then-alike : (registers : List Cap) (pcc : Cap) (c d : Content) (region : ℕ) (o p : CallOutcome (Result (ℕ × Note) Cause)) → GiveAlike region o p
    → AreAlikeEffects region (fetch_then (state registers pcc c) region o.after o.answer) (fetch_then (state registers pcc d) region p.after p.answer)
then-alike registers pcc c d region o p h = rw h.answer (by o.answer)
  where
    by : (answer : Result (ℕ × Note) Cause) → AreAlikeEffects region (fetch_then (state registers pcc c) region o.after answer) (fetch_then (state registers pcc d) region p.after answer)
    by (Ok f) =
        rw (plan-same registers pcc o.after p.after (decoded f.0))
        (let k = plan-alike registers pcc o.after p.after region h.after (plan_of (state registers pcc o.after) (decoded f.0)) in record { rest = rw k.rest refl; content = k.content })
    by (Err cause) = record { rest = refl; content = h.after }

-- the effect
pub effect-alike : (registers : List Cap) (pcc : Cap) (c d : Content) (region : ℕ) → AreAlike region c d
    → AreAlikeEffects region (effect (state registers pcc c) region) (effect (state registers pcc d) region)
unfolding effect
effect-alike registers pcc c d region h = then-alike registers pcc c d region (code_of c region pcc) (code_of d region pcc) (code-alike c d region pcc h)
