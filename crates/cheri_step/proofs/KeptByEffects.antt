-- What each effect keeps: a relation between contents that holds of touches, and of each access or of changes of the region's
-- store.
use Rattle.std.proofs.Common.{ℕ, Ok, Err, Result, List}
use Rattle.cap_format.specs.declared.cap.Cap.{Cap}
use Rattle.cap_format.specs.Pattern.{address_of}
use Rattle.machine_types.specs.declared.cause.Cause.{Cause}
use Rattle.machine_types.specs.declared.touches.Note.{Note}
use Rattle.riscv_decode.specs.Decoded.{decoded}
use Rattle.contents.specs.declared.refusal.Refusal.{Refusal}
use Rattle.contents.specs.Content.{Content, CallOutcome}
use Rattle.contents.proofs.CallShapes.{HoldsOfTouches, HoldsOfStores, fetch-holds}
use Rattle.cheri_step.specs.declared.memory.MemoryOp.{MemoryOp}
use Rattle.cheri_step.specs.Tests.{tests_of_access, passed}
use Rattle.cheri_step.specs.Access.{place_in, accessed, tested, code_of}
use Rattle.cheri_step.specs.Plans.{Plan, ends, asks}
use Rattle.cheri_step.specs.Effect.{State, state, performed, carried_out, plan_of, fetch_then, effect}
use Rattle.cheri_step.proofs.Accessed.{accessed-holds}
use Rattle.cheri_step.proofs.Fetched.{by-code}

-- it holds of the fetch, which only touches
pub code-holds : (R : Content → Content → Type 0) (region : ℕ) → HoldsOfTouches region R → (c : Content) (pcc : Cap) → R c (code_of c region pcc).after
code-holds R region h c pcc =
    by-code (λ (o : CallOutcome (Result (ℕ × Note) Cause)). R c o.after) c region pcc (λ outside. h.stays c) (λ within. fetch-holds R region h c (place_in region (address_of pcc.bits)))

-- a relation that holds of touches, and of each access
module _ (R : Content → Content → Type 0) (region : ℕ) (touches : HoldsOfTouches region R) (accesses : (c : Content) (address : ℕ) (op : MemoryOp) → R c (accessed c region address op).after) where
  -- of an access after its tests
  tested-holds : (c : Content) (tests : Result (Unit {0}) Cause) (o : CallOutcome (Result (Cap × Note) Refusal)) → R c o.after → R c (tested c tests o).after
  tested-holds c (Ok passes) o k = k
  tested-holds c (Err cause) o k = touches.stays c

  -- of what is left after an access
  performed-holds : (c : Content) (s : State) (registers : Cap → List Cap) (after : Content) (answer : Result (Cap × Note) Cause) → R c after → R c (performed s registers after answer).after.content
  performed-holds c s registers after (Ok a) k = k
  performed-holds c s registers after (Err cause) k = k

  -- of each plan
  plan-holds : (s : State) (plan : Plan) → R s.content (carried_out s region plan).after.content
  plan-holds s (ends end registers pcc) = touches.stays s.content
  plan-holds s (asks d) =
      performed-holds s.content s d.registers _ _
      (tested-holds s.content (passed (tests_of_access d.authority d.address d.op)) (accessed s.content region d.address d.op) (accesses s.content d.address d.op))

  -- of what follows the fetch
  then-holds : (s : State) (after : Content) (answer : Result (ℕ × Note) Cause) → R s.content after → R s.content (fetch_then s region after answer).after.content
  then-holds s after (Ok f) k =
      touches.joins s.content after _ k (plan-holds (state s.registers s.pcc after) (plan_of (state s.registers s.pcc after) (decoded f.0)))
  then-holds s after (Err cause) k = k

  -- and of the effect
  pub effect-kept : (s : State) → R s.content (effect s region).after.content
  unfolding effect
  effect-kept s = then-holds s _ _ (code-holds R region touches s.content s.pcc)

-- So does one that holds of touches and of changes of the region's store.
pub effect-holds : (R : Content → Content → Type 0) (region : ℕ) → HoldsOfStores region R → (s : State) → R s.content (effect s region).after.content
effect-holds R region h = effect-kept R region h.touches (accessed-holds R region h)
