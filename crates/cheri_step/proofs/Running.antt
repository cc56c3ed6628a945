-- A process that may run may run after an instruction.
use Rattle.std.proofs.Common.{◌≡◌, ℕ, ◌<◌, ◌^◌, List, Option, Some, None, Result, Ok, Err, IsTrue, refl, arith}
use Rattle.std.proofs.lemmas.List.Elements.{All-from_get_or}
use Rattle.cap_format.specs.Numbers.{most_regions}
use Rattle.cap_format.specs.declared.cap.Cap.{Cap}
use Rattle.cap_format.specs.Made.{null, from_int}
use Rattle.cap_format.specs.Pattern.{address_of}
use Rattle.cap_format.specs.Rights.{holds}
use Rattle.machine_types.specs.declared.cause.Cause.{Cause}
use Rattle.machine_types.specs.declared.touches.Note.{Note}
use Rattle.machine_types.specs.Held.{IsHeld}
use Rattle.machine_types.specs.Registers.{with_register}
use Rattle.riscv_decode.specs.declared.instr.Instr.{Instr}
use Rattle.riscv_decode.specs.Decoded.{decoded}
use Rattle.contents.specs.Content.{Content}
use Rattle.contents.specs.Looks.{peek_of}
use Rattle.contents.specs.Having.{MayHave}
use Rattle.cheri_step.specs.declared.step.StepEnd.TheVariants.{Call}
use Rattle.cheri_step.specs.Results.{next_pcc}
use Rattle.cheri_step.specs.Access.{access_of, code_of}
use Rattle.cheri_step.specs.Plans.{Plan, ends, asks}
use Rattle.cheri_step.specs.Effect.{State, state, performed, carried_out, plan_of, fetch_then, effect}
use Rattle.cheri_step.specs.Laws.{MayRun}
use Rattle.cheri_step.proofs.KeptRegisters.{AreKept, kept-register, kept-with, held-integer}
use Rattle.cheri_step.proofs.KeptCounters.{counter-next}
use Rattle.cheri_step.proofs.KeptContents.{IsReady, peek-held, access-kept, code-fetched}
use Rattle.cheri_step.proofs.KeptPlans.{IsKept, IsKeptPlan, planned-kept}
use Rattle.cheri_step.proofs.LeftByFaults.{effect-left, call-bound}

-- the state of a process of the region
pub record Runs (region : ℕ) (s : State) : Type 0 where
  pub ready : IsReady region s.content
  pub kept : IsKept region s.registers s.pcc

-- one that may run is such
pub runs-first : (s : State) (region : ℕ) → MayRun region s → Runs region s
runs-first s region may = record {
  ready = record { whole = may.whole; store = may.steps.store };
  kept = record {
    registers_kept = record {
      file = may.steps.file;
      held = All-from_get_or (IsHeld region) s.registers null (λ n there.
          let long = may.steps.file.length_is in
          record { pattern = may.steps.file.patterns n null there; inside = may.steps.registers_held n (omega arith) });
    };
    counter = record { code = may.steps.code; held = record { pattern = may.pattern; inside = may.steps.counter } };
  };
}

-- and such a one may run
pub runs-last : (s : State) (region : ℕ) → region < most_regions → Runs region s → MayRun region s
runs-last s region some runs = record {
  below = some;
  whole = runs.ready.whole;
  pattern = runs.kept.counter.held.pattern;
  steps = record {
    store = runs.ready.store;
    code = runs.kept.counter.code;
    file = runs.kept.registers_kept.file;
    counter = runs.kept.counter.held.inside;
    registers_held = λ n small. (kept-register region s.registers n runs.kept.registers_kept).inside;
  };
}

module _ (region : ℕ) (registers : List Cap) (pcc : Cap) (some : region < most_regions) (kept : IsKept region registers pcc) where
  -- a load or a store, made or not
  performed-runs : (c after : Content) (put : Cap → List Cap) (answer : Result (Cap × Note) Cause) → IsReady region after → IsTrue (holds pcc.bits (address_of pcc.bits) 4)
      → ((value : Cap) → IsHeld region value → AreKept region (put value)) → ((a : Cap × Note) → answer ≡ Ok a → IsHeld region a.0) → Runs region (performed (state registers pcc c) put after answer).after
  performed-runs c after put (Ok a) ready bytes are held = record { ready = ready; kept = record { registers_kept = are a.0 (held a refl); counter = counter-next region pcc some kept.counter bytes } }
  performed-runs c after put (Err cause) ready bytes are held = record { ready = ready; kept = kept }

  -- what a plan comes to
  carried-runs : (c : Content) (plan : Plan) → IsReady region c → IsTrue (holds pcc.bits (address_of pcc.bits) 4) → IsKeptPlan region plan → Runs region (carried_out (state registers pcc c) region plan).after
  carried-runs c (ends end after next) ready bytes is = record { ready = ready; kept = is }
  carried-runs c (asks d) ready bytes is =
      let access = access-kept c region d.authority d.address d.op ready is.op in
      performed-runs c (access_of c region d.authority d.address d.op).after d.registers (access_of c region d.authority d.address d.op).answer access.ready bytes is.registers access.held

  -- the plan of a word, of which some have no row
  plan-kept : (c : Content) (o : Option Instr) → IsTrue (holds pcc.bits (address_of pcc.bits) 4) → IsKeptPlan region (plan_of (state registers pcc c) o)
  plan-kept c (Some instr) bytes = planned-kept region registers pcc some kept bytes instr
  plan-kept c None bytes = kept

  -- a fetch, and what follows it
  fetch-runs : (after : Content) (answer : Result (ℕ × Note) Cause) (s : State) → s.registers ≡ registers → s.pcc ≡ pcc → IsReady region after → ((f : ℕ × Note) → answer ≡ Ok f → IsTrue (holds pcc.bits (address_of pcc.bits) 4))
      → Runs region (fetch_then s region after answer).after
  fetch-runs after (Ok f) s e g ready bytes = rw (e, g) (carried-runs after (plan_of (state registers pcc after) (decoded f.0)) ready (bytes f refl) (plan-kept after (decoded f.0) (bytes f refl)))
  fetch-runs after (Err cause) s e g ready bytes = rw (e, g) (record { ready = ready; kept = kept })

-- after an instruction it may run
pub effect-runs : (s : State) (region : ℕ) → MayRun region s → MayRun region (effect s region).after
unfolding effect
effect-runs s region may =
    let runs = runs-first s region may in
    let fetched = code-fetched s.content region s.pcc runs.ready in
    runs-last (effect s region).after region may.below
    (fetch-runs region s.registers s.pcc may.below runs.kept (code_of s.content region s.pcc).after (code_of s.content region s.pcc).answer s refl refl fetched.ready fetched.bytes)

-- and each granule of its store is what it may have
pub effect-holds : (s : State) (region page g : ℕ) (cap : Cap) → MayRun region s → peek_of (effect s region).after.content region page g ≡ Some cap → MayHave (effect s region).after.content region cap
effect-holds s region page g cap may h = (peek-held (effect s region).after.content region page g cap (effect-runs s region may).whole h).inside

-- so it may with PCC behind an instruction, and an integer in a register
pub answered-runs : (s : State) (region n answer : ℕ) → MayRun region s → IsTrue (holds s.pcc.bits (address_of s.pcc.bits) 4) → answer < 2 ^ 64
    → MayRun region (state (with_register s.registers n (from_int answer)) (next_pcc s.pcc) s.content)
answered-runs s region n answer may bytes small =
    let runs = runs-first s region may in
    runs-last (state (with_register s.registers n (from_int answer)) (next_pcc s.pcc) s.content) region may.below (record {
      ready = runs.ready;
      kept = record {
        registers_kept = kept-with region s.registers n (from_int answer) runs.kept.registers_kept (held-integer region answer (omega (arith, small)));
        counter = counter-next region s.pcc may.below runs.kept.counter bytes;
      };
    })
