-- Where an effect lacks a frame.
use Rattle.std.proofs.Common.{◌≡◌, ◌≢◌, ◌⊎◌, ◌∙◌, inl, inr, ℕ, refl, true, false, Ok, Err, Result, List}
use Rattle.cap_format.specs.declared.cap.Cap.{Cap}
use Rattle.machine_types.specs.declared.cause.Cause.{Cause}
use Rattle.machine_types.specs.declared.cause.Cause.TheVariants as cause
use Rattle.machine_types.specs.declared.config.Rule.TheVariants.{Full}
use Rattle.machine_types.specs.declared.touches.Access.{Access}
use Rattle.machine_types.specs.declared.touches.Access.TheVariants.{Fetch}
use Rattle.machine_types.specs.declared.touches.Note.{Note}
use Rattle.riscv_decode.specs.Decoded.{decoded}
use Rattle.contents.specs.declared.refusal.Refusal.{Refusal}
use Rattle.contents.specs.declared.refusal.Refusal.TheVariants.{NoPage, NoRight, NoFrame}
use Rattle.contents.specs.Content.{Content, CallOutcome}
use Rattle.contents.specs.Laws.{HasSameSetting}
use Rattle.contents.specs.Refusing.{LacksFrame}
use Rattle.contents.proofs.RefusalCauses.{fetch-in-order}
use Rattle.contents.proofs.Settings.{setting-steps}
use Rattle.cheri_step.specs.declared.step.StepEnd.TheVariants.{Next, Call, Fault}
use Rattle.cheri_step.specs.Tests.{tests_of_access, passed}
use Rattle.cheri_step.specs.Access.{place_in, accessed, access_cause, fetch_cause, caused, tested, code_of}
use Rattle.cheri_step.specs.Plans.{Demand, Plan, ends, asks}
use Rattle.cheri_step.specs.Effect.{State, state, performed, carried_out, plan_of, fetch_then, effect}
use Rattle.cheri_step.specs.Laws.{place_of_code, FetchLacksFrame, AccessLacksFrame, kind_of_access}
use Rattle.cheri_step.proofs.Accessed.{accessed-lacks}
use Rattle.cheri_step.proofs.AlikeEffects.{plan-same}
use Rattle.cheri_step.proofs.Fetched.{fetched_at, by-code}
use Rattle.cheri_step.proofs.FaultPlans.{IsOwn, access-own, IsSettled, plan-settled}
use Rattle.cheri_step.proofs.KeptByEffects.{code-holds}
use Rattle.cheri_step.proofs.Unfetched.{effect-unfetched, code-lacks-frame}

-- The fetch has the cause only where it lacks a frame.
code-lacks : (s : State) (region : ℕ) → (code_of s.content region s.pcc).answer ≡ Err cause.NoFrame → FetchLacksFrame s region
code-lacks s region =
    by-code (λ (o : CallOutcome (Result (ℕ × Note) Cause)). o.answer ≡ Err cause.NoFrame → FetchLacksFrame s region) s.content region s.pcc (λ outside e. absurd (cc))
    (λ within e. record { bound = within; frame = (fetch-in-order s.content region (place_of_code s region)).frame.0 (refused (fetched_at s.content region s.pcc).answer e) })
  where
    refused : (answer : Result (ℕ × Note) Refusal) → caused fetch_cause answer ≡ Err cause.NoFrame → answer ≡ Err NoFrame
    refused (Ok f) e = absurd (cc)
    refused (Err NoPage) e = absurd (cc)
    refused (Err NoRight) e = absurd (cc)
    refused (Err NoFrame) e = refl

-- The plan is a load or a store whose tests pass, and which lacks a frame.
record PlanLacksFrame (c : Content) (region : ℕ) (plan : Plan) : Type 0 where
  pub demand : Demand
  pub asked : plan ≡ asks demand
  pub passes : passed (tests_of_access demand.authority demand.address demand.op) ≡ Ok tt
  pub frame : LacksFrame c (kind_of_access demand.op) region (place_in region demand.address)

-- an access after its tests has the cause only where they pass and it is refused so
tested-lacks : (s : State) (registers : Cap → List Cap) (tests : Result (Unit {0}) Cause) (o : CallOutcome (Result (Cap × Note) Refusal)) → IsOwn tests
    → (performed s registers (tested s.content tests o).after (tested s.content tests o).answer).end ≡ Fault cause.NoFrame → (tests ≡ Ok tt) × (o.answer ≡ Err NoFrame)
tested-lacks s registers (Err cause) o own e = absurd (own (cc))
tested-lacks s registers (Ok tt) o own e = (refl, by o.answer e)
  where
    by : (answer : Result (Cap × Note) Refusal) → (performed s registers o.after (caused access_cause answer)).end ≡ Fault cause.NoFrame → answer ≡ Err NoFrame
    by (Ok a) e = absurd (cc)
    by (Err NoPage) e = absurd (cc)
    by (Err NoRight) e = absurd (cc)
    by (Err NoFrame) e = refl

-- and it has it there
tested-lacking : (s : State) (registers : Cap → List Cap) (tests : Result (Unit {0}) Cause) (o : CallOutcome (Result (Cap × Note) Refusal)) → tests ≡ Ok tt → o.answer ≡ Err NoFrame
    → (performed s registers (tested s.content tests o).after (tested s.content tests o).answer).end ≡ Fault cause.NoFrame
tested-lacking s registers tests o passes e = rw (passes, e) refl

-- a plan ends so only where it lacks a frame
plan-lacks : (s : State) (region : ℕ) (plan : Plan) → IsSettled s.registers s.pcc plan → (carried_out s region plan).end ≡ Fault cause.NoFrame → PlanLacksFrame s.content region plan
plan-lacks s region (ends Next registers pcc) settled e = absurd (cc)
plan-lacks s region (ends Call registers pcc) settled e = absurd (cc)
plan-lacks s region (ends (Fault cause) registers pcc) settled e = absurd (settled.1.1 (cc))
plan-lacks s region (asks d) settled e =
    let k = tested-lacks s d.registers (passed (tests_of_access d.authority d.address d.op)) (accessed s.content region d.address d.op) (access-own d.authority d.address d.op) e in
    record { demand = d; asked = refl; passes = k.0; frame = (accessed-lacks s.content region d.address d.op).0 k.1 }

-- and it does there
plan-lacking : (s : State) (region : ℕ) (plan : Plan) → PlanLacksFrame s.content region plan → (carried_out s region plan).end ≡ Fault cause.NoFrame
plan-lacking s region plan l =
    let d : Demand = l.demand in
    rw l.asked
    (tested-lacking s d.registers (passed (tests_of_access d.authority d.address d.op)) (accessed s.content region d.address d.op) l.passes ((accessed-lacks s.content region d.address d.op).1 l.frame))

-- the state in which a word is executed
abbrev left_by_fetch : State → ℕ → State
left_by_fetch s region = state s.registers s.pcc (code_of s.content region s.pcc).after

-- An effect ends for want of a frame only where the fetch, or the load or the store, lacks one.
pub effect-lacks : (s : State) (region : ℕ) → (effect s region).end ≡ Fault cause.NoFrame → FetchLacksFrame s region ⊎ AccessLacksFrame s region
unfolding effect
effect-lacks s region = by (code_of s.content region s.pcc).answer refl
  where
    by : (answer : Result (ℕ × Note) Cause) → (code_of s.content region s.pcc).answer ≡ answer
        → (fetch_then s region (code_of s.content region s.pcc).after answer).end ≡ Fault cause.NoFrame → FetchLacksFrame s region ⊎ AccessLacksFrame s region
    by (Err stopped) is e = let lacks : (code_of s.content region s.pcc).answer ≡ Err cause.NoFrame = cc in inl (code-lacks s region lacks)
    by (Ok f) is e =
        let t : State = left_by_fetch s region in
        let l = plan-lacks t region (plan_of t (decoded f.0)) (plan-settled t (decoded f.0)) e in
        inr (record {
          code = f;
          fetched = is;
          demand = l.demand;
          asked = plan-same s.registers s.pcc t.content s.content (decoded f.0) ∙ l.asked;
          passes = l.passes;
          frame = l.frame;
        })

-- It does where the load or the store lacks one.
access-lacking : (s : State) (region : ℕ) → AccessLacksFrame s region → (effect s region).end ≡ Fault cause.NoFrame
unfolding effect
access-lacking s region l =
    let t : State = left_by_fetch s region in
    rw l.fetched
    (plan-lacking t region (plan_of t (decoded l.code.0))
    (record { demand = l.demand; asked = plan-same s.registers s.pcc s.content t.content (decoded l.code.0) ∙ l.asked; passes = l.passes; frame = l.frame }))

-- It does exactly there.
pub effect-lacking : (s : State) (region : ℕ) → FetchLacksFrame s region ⊎ AccessLacksFrame s region → (effect s region).end ≡ Fault cause.NoFrame
effect-lacking s region (inl l) = (effect-unfetched s region cause.NoFrame (code-lacks-frame s region l)).end
effect-lacking s region (inr l) = access-lacking s region l

-- Under `full` nothing is touched, so that no access lacks a frame.
full-lacks-none : (c : Content) (access : Access) (region at : ℕ) → c.rule ≡ Full → LacksFrame c access region at → ⊥
full-lacks-none c access region at full l = let touched : false ≡ true = rw full at l.touched in absurd (cc)

pub effect-full : (s : State) (region : ℕ) → s.content.rule ≡ Full → (effect s region).end ≢ Fault cause.NoFrame
effect-full s region full e = by (effect-lacks s region e)
  where
    setting : HasSameSetting s.content (code_of s.content region s.pcc).after
    setting = code-holds HasSameSetting region (setting-steps region).stores.touches s.content s.pcc

    by : FetchLacksFrame s region ⊎ AccessLacksFrame s region → ⊥
    by (inl l) = full-lacks-none s.content Fetch region (place_of_code s region) full l.frame
    by (inr l) = full-lacks-none (code_of s.content region s.pcc).after (kind_of_access l.demand.op) region (place_in region l.demand.address) (setting.rule ∙ full) l.frame
