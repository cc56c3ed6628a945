-- An effect with two contents of the same stores, whatever their rules, accounts and numbers of frames.
use Rattle.std.proofs.Common.{◌≡◌, ◌≢◌, ℕ, refl, ap, Bool, true, false, cond, Some, Ok, Err, Result, List}
use Rattle.cap_format.specs.declared.cap.Cap.{Cap}
use Rattle.cap_format.specs.Pattern.{address_of}
use Rattle.cap_format.specs.Rights.{holds}
use Rattle.machine_types.specs.declared.cause.Cause.{Cause}
use Rattle.machine_types.specs.declared.cause.Cause.TheVariants as cause
use Rattle.machine_types.specs.declared.touches.Note.{Note}
use Rattle.riscv_decode.specs.Decoded.{decoded}
use Rattle.contents.specs.declared.refusal.Refusal.{Refusal}
use Rattle.contents.specs.declared.refusal.Refusal.TheVariants.{NoFrame}
use Rattle.contents.specs.Content.{Content, CallOutcome}
use Rattle.contents.specs.Agreeing.{HaveSameStores, value_of}
use Rattle.contents.proofs.SameStores.{fetch-same}
use Rattle.cheri_step.specs.declared.step.StepEnd.TheVariants.{Fault}
use Rattle.cheri_step.specs.Tests.{tests_of_access, passed}
use Rattle.cheri_step.specs.Access.{place_in, accessed, access_cause, fetch_cause, caused, tested, access_of, code_of}
use Rattle.cheri_step.specs.Plans.{Plan, ends, asks}
use Rattle.cheri_step.specs.Effect.{state, Work, performed, carried_out, plan_of, fetch_then, effect}
use Rattle.cheri_step.specs.Laws.{IsLeft, AreSameEffects}
use Rattle.cheri_step.proofs.Accessed.{AccessesAgree, accessed-agree}
use Rattle.cheri_step.proofs.Fetched.{fetched_at}
use Rattle.cheri_step.proofs.AlikeEffects.{plan-same}

-- the same value or the same cause, whatever the notes
abbrev HaveSameValue : {A : Type 0} → Result (A × Note) Cause → Result (A × Note) Cause → Type 0
HaveSameValue (Ok a) (Ok b) = b.0 ≡ a.0
HaveSameValue (Err cause) (Err other) = other ≡ cause
HaveSameValue _ _ = ⊥

-- the same value or cause, and the same stores
record GiveSame {A : Type 0} (o p : CallOutcome (Result (A × Note) Cause)) : Type 0 where
  pub answer : HaveSameValue o.answer p.answer
  pub after : HaveSameStores o.after p.after

-- refusals of the same cause stay the same with it
caused-same : {A : Type 0} (cause : Refusal → Cause) (x y : Result (A × Note) Refusal) → value_of y ≡ value_of x → HaveSameValue (caused cause x) (caused cause y)
caused-same cause (Ok a) (Ok b) e = cc
caused-same cause (Ok a) (Err refusal) e = absurd (cc)
caused-same cause (Err refusal) (Ok b) e = absurd (cc)
caused-same cause (Err refusal) (Err other) e = let same : other ≡ refusal = cc in ap cause same

-- the fetch
code-same : (c d : Content) (region : ℕ) (pcc : Cap) → HaveSameStores c d → (code_of c region pcc).answer ≢ Err cause.NoFrame → (code_of d region pcc).answer ≢ Err cause.NoFrame
    → GiveSame (code_of c region pcc) (code_of d region pcc)
code-same c d region pcc h = by (holds pcc.bits (address_of pcc.bits) 4)
  where
    code : Content → Bool → CallOutcome (Result (ℕ × Note) Cause)
    code e held = cond held (record { answer = caused fetch_cause (fetched_at e region pcc).answer; after = (fetched_at e region pcc).after }) (record { answer = Err cause.CodeBounds; after = e })

    by : (held : Bool) → (code c held).answer ≢ Err cause.NoFrame → (code d held).answer ≢ Err cause.NoFrame → GiveSame (code c held) (code d held)
    by true some more =
        let k = fetch-same c d region (place_in region (address_of pcc.bits)) h (λ e. some (ap (caused fetch_cause) e)) (λ e. more (ap (caused fetch_cause) e)) in
        record { answer = caused-same fetch_cause (fetched_at c region pcc).answer (fetched_at d region pcc).answer k.0; after = k.1 }
    by false some more = record { answer = refl; after = h }

-- an access after its tests
tested-same : (c d : Content) (tests : Result (Unit {0}) Cause) (o p : CallOutcome (Result (Cap × Note) Refusal)) → HaveSameStores c d → (o.answer ≢ Err NoFrame → p.answer ≢ Err NoFrame → AccessesAgree o p)
    → (tested c tests o).answer ≢ Err cause.NoFrame → (tested d tests p).answer ≢ Err cause.NoFrame → GiveSame (tested c tests o) (tested d tests p)
tested-same c d (Ok passes) o p h agree some more =
    let k = agree (λ e. some (ap (caused access_cause) e)) (λ e. more (ap (caused access_cause) e)) in
    record { answer = caused-same access_cause o.answer p.answer k.value; after = k.stores }
tested-same c d (Err cause) o p h agree some more = record { answer = refl; after = h }

-- Two works that agree on all but touches and accounts.
record AreSameWorks (w v : Work) : Type 0 where
  pub end : v.end ≡ w.end
  pub left : IsLeft w.after v.after

module _ (registers : List Cap) (pcc : Cap) (c d : Content) (region : ℕ) where
  -- what an access came to
  performed-same : (loaded : Cap → List Cap) (after other : Content) (x y : Result (Cap × Note) Cause) → HaveSameValue x y → HaveSameStores after other
      → AreSameWorks (performed (state registers pcc c) loaded after x) (performed (state registers pcc d) loaded other y)
  performed-same loaded after other (Ok a) (Ok b) e h = record { end = refl; left = record { registers = ap loaded e; pcc = refl; stores = h } }
  performed-same loaded after other (Ok a) (Err cause) e h = absurd e
  performed-same loaded after other (Err cause) (Ok b) e h = absurd e
  performed-same loaded after other (Err cause) (Err second) e h = record { end = ap Fault e; left = record { registers = refl; pcc = refl; stores = h } }

  -- what a plan came to
  plan-works-same : HaveSameStores c d → (plan : Plan) → (carried_out (state registers pcc c) region plan).end ≢ Fault cause.NoFrame → (carried_out (state registers pcc d) region plan).end ≢ Fault cause.NoFrame
      → AreSameWorks (carried_out (state registers pcc c) region plan) (carried_out (state registers pcc d) region plan)
  plan-works-same h (ends end r p) some more = record { end = refl; left = record { registers = refl; pcc = refl; stores = h } }
  plan-works-same h (asks a) some more =
      let o : CallOutcome (Result (Cap × Note) Cause) = access_of c region a.authority a.address a.op in
      let p : CallOutcome (Result (Cap × Note) Cause) = access_of d region a.authority a.address a.op in
      let k : GiveSame o p =
      tested-same c d (passed (tests_of_access a.authority a.address a.op)) (accessed c region a.address a.op) (accessed d region a.address a.op) h (accessed-agree c d region a.address a.op h)
      (λ e. some (ap (λ (x : Result (Cap × Note) Cause). (performed (state registers pcc c) a.registers o.after x).end) e))
      (λ e. more (ap (λ (x : Result (Cap × Note) Cause). (performed (state registers pcc d) a.registers p.after x).end) e)) in
      performed-same a.registers o.after p.after o.answer p.answer k.answer k.after

-- what follows the fetch
then-same : (registers : List Cap) (pcc : Cap) (c d : Content) (region : ℕ) (after other : Content) (x y : Result (ℕ × Note) Cause) → HaveSameValue x y → HaveSameStores after other
    → (fetch_then (state registers pcc c) region after x).end ≢ Fault cause.NoFrame → (fetch_then (state registers pcc d) region other y).end ≢ Fault cause.NoFrame
    → AreSameEffects (fetch_then (state registers pcc c) region after x) (fetch_then (state registers pcc d) region other y)
then-same registers pcc c d region after other (Ok f) (Ok g) e h some more = by g.0 e more
  where
    plan : Plan
    plan = plan_of (state registers pcc after) (decoded f.0)

    works : (second : Plan) → second ≡ plan → (carried_out (state registers pcc other) region second).end ≢ Fault cause.NoFrame
        → AreSameWorks (carried_out (state registers pcc after) region plan) (carried_out (state registers pcc other) region second)
    works second same = rw same (plan-works-same registers pcc after other region h plan some)

    by : (word : ℕ) → word ≡ f.0 → (fetch_then (state registers pcc d) region other (Ok (word, g.1))).end ≢ Fault cause.NoFrame
        → AreSameEffects (fetch_then (state registers pcc c) region after (Ok f)) (fetch_then (state registers pcc d) region other (Ok (word, g.1)))
    by word same lacks =
        let k = works (plan_of (state registers pcc other) (decoded word)) (rw same (plan-same registers pcc after other (decoded f.0))) lacks in
        record { end = k.end; word = ap Some same; left = k.left }
then-same registers pcc c d region after other (Ok f) (Err cause) e h some more = absurd e
then-same registers pcc c d region after other (Err cause) (Ok g) e h some more = absurd e
then-same registers pcc c d region after other (Err cause) (Err second) e h some more = record { end = ap Fault e; word = refl; left = record { registers = refl; pcc = refl; stores = h } }

-- the effect
pub effect-same : (registers : List Cap) (pcc : Cap) (c d : Content) (region : ℕ) → HaveSameStores c d
    → (effect (state registers pcc c) region).end ≢ Fault cause.NoFrame → (effect (state registers pcc d) region).end ≢ Fault cause.NoFrame
    → AreSameEffects (effect (state registers pcc c) region) (effect (state registers pcc d) region)
unfolding effect
effect-same registers pcc c d region h some more =
    let o : CallOutcome (Result (ℕ × Note) Cause) = code_of c region pcc in
    let p : CallOutcome (Result (ℕ × Note) Cause) = code_of d region pcc in
    let k : GiveSame o p =
    code-same c d region pcc h (λ e. some (ap (λ (x : Result (ℕ × Note) Cause). (fetch_then (state registers pcc c) region o.after x).end) e))
    (λ e. more (ap (λ (x : Result (ℕ × Note) Cause). (fetch_then (state registers pcc d) region p.after x).end) e)) in
    then-same registers pcc c d region o.after p.after o.answer p.answer k.answer k.after some more
