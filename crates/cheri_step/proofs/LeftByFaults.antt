-- What a fault or a call leaves.
use Rattle.std.proofs.Common.{◌≡◌, ◌≢◌, ◌∙◌, ℕ, refl, ap, IsTrue, Option, Some, Ok, Err, Result, List}
use Rattle.cap_format.specs.declared.cap.Cap.{Cap}
use Rattle.cap_format.specs.Pattern.{address_of}
use Rattle.cap_format.specs.Rights.{holds}
use Rattle.machine_types.specs.Stores.{Store}
use Rattle.machine_types.specs.declared.cause.Cause.{Cause}
use Rattle.machine_types.specs.declared.touches.Note.{Note}
use Rattle.riscv_decode.specs.Decoded.{decoded}
use Rattle.contents.specs.declared.refusal.Refusal.{Refusal}
use Rattle.contents.specs.Content.{Content, CallOutcome}
use Rattle.contents.proofs.OtherStores.{AllStay, all-touches}
use Rattle.cheri_step.specs.declared.step.StepEnd.TheVariants.{Next, Call, Fault}
use Rattle.cheri_step.specs.Tests.{tests_of_access, passed}
use Rattle.cheri_step.specs.Access.{accessed, access_cause, caused, tested, code_of}
use Rattle.cheri_step.specs.Plans.{Plan, ends, asks}
use Rattle.cheri_step.specs.Effect.{State, state, performed, carried_out, plan_of, fetch_then, effect}
use Rattle.cheri_step.specs.Laws.{IsLeft}
use Rattle.cheri_step.proofs.Accessed.{accessed-refused}
use Rattle.cheri_step.proofs.Fetched.{by-code}
use Rattle.cheri_step.proofs.KeptByEffects.{code-holds}
use Rattle.cheri_step.proofs.FaultPlans.{IsSettled, plan-settled}

-- registers and PCC are as before, with this content
pub record IsLeftWith (s : State) (after : Content) (t : State) : Type 0 where
  pub registers : t.registers ≡ s.registers
  pub pcc : t.pcc ≡ s.pcc
  pub content : t.content ≡ after

-- an access that a refusal leaves
asked-left : (s : State) (registers : Cap → List Cap) (tests : Result (Unit {0}) Cause) (o : CallOutcome (Result (Cap × Note) Refusal)) → ((refused : Refusal) → o.answer ≡ Err refused → o.after ≡ s.content)
    → (performed s registers (tested s.content tests o).after (tested s.content tests o).answer).end ≢ Next
    → IsLeftWith s s.content (performed s registers (tested s.content tests o).after (tested s.content tests o).answer).after
asked-left s registers (Err cause) o refused stops = record { registers = refl; pcc = refl; content = refl }
asked-left s registers (Ok passes) o refused stops = by o.answer refl stops
  where
    by : (answer : Result (Cap × Note) Refusal) → o.answer ≡ answer → (performed s registers o.after (caused access_cause answer)).end ≢ Next
        → IsLeftWith s s.content (performed s registers o.after (caused access_cause answer)).after
    by (Ok a) e stops = absurd (stops refl)
    by (Err refusal) e stops = record { registers = refl; pcc = refl; content = refused refusal e }

-- a plan that doesn't go on
plan-left : (s : State) (region : ℕ) (plan : Plan) → IsSettled s.registers s.pcc plan → (carried_out s region plan).end ≢ Next → IsLeftWith s s.content (carried_out s region plan).after
plan-left s region (ends Next registers pcc) settled stops = absurd (stops refl)
plan-left s region (ends Call registers pcc) settled stops = record { registers = settled.0; pcc = settled.1; content = refl }
plan-left s region (ends (Fault cause) registers pcc) settled stops = record { registers = settled.0; pcc = settled.1.0; content = refl }
plan-left s region (asks d) settled stops =
    asked-left s d.registers (passed (tests_of_access d.authority d.address d.op)) (accessed s.content region d.address d.op) (accessed-refused s.content region d.address d.op) stops

-- what follows the fetch
then-left : (s : State) (region : ℕ) (after : Content) (answer : Result (ℕ × Note) Cause) → (fetch_then s region after answer).end ≢ Next → IsLeftWith s after (fetch_then s region after answer).after
then-left s region after (Ok f) stops =
    let t : State = state s.registers s.pcc after in
    let k = plan-left t region (plan_of t (decoded f.0)) (plan-settled t (decoded f.0)) stops in
    record { registers = k.registers; pcc = k.pcc; content = k.content }
then-left s region after (Err cause) stops = record { registers = refl; pcc = refl; content = refl }

-- An effect that doesn't go on leaves registers and PCC, and what the fetch left.
pub effect-settled : (s : State) (region : ℕ) → (effect s region).end ≢ Next → IsLeftWith s (code_of s.content region s.pcc).after (effect s region).after
unfolding effect
effect-settled s region = then-left s region (code_of s.content region s.pcc).after (code_of s.content region s.pcc).answer

-- So it leaves every store.
pub effect-left : (s : State) (region : ℕ) → (effect s region).end ≢ Next → IsLeft s (effect s region).after
effect-left s region stops =
    let k = effect-settled s region stops in
    let fetched = code-holds AllStay region (all-touches region) s.content s.pcc in
    record { registers = k.registers; pcc = k.pcc; stores = λ r. ap (λ (c : Content). c.stores r) k.content ∙ ap (λ (stores : ℕ → Option Store). stores r) fetched }

-- Where a word was fetched, its bytes lie in the bounds of PCC.
pub word-bound : (s : State) (region word : ℕ) → (effect s region).word ≡ Some word → IsTrue (holds s.pcc.bits (address_of s.pcc.bits) 4)
unfolding effect
word-bound s region word =
    by-code (λ (o : CallOutcome (Result (ℕ × Note) Cause)). (fetch_then s region o.after o.answer).word ≡ Some word → IsTrue (holds s.pcc.bits (address_of s.pcc.bits) 4)) s.content region s.pcc
    (λ outside e. absurd (cc)) (λ within e. within)

-- The bytes of a call lie in the bounds of PCC.
pub call-bound : (s : State) (region : ℕ) → (effect s region).end ≡ Call → IsTrue (holds s.pcc.bits (address_of s.pcc.bits) 4)
unfolding effect
call-bound s region =
    by-code (λ (o : CallOutcome (Result (ℕ × Note) Cause)). (fetch_then s region o.after o.answer).end ≡ Call → IsTrue (holds s.pcc.bits (address_of s.pcc.bits) 4)) s.content region s.pcc
    (λ outside e. absurd (cc)) (λ within e. within)
