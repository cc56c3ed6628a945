-- An instruction keeps a content sound.
use Rattle.std.proofs.Common.{◌≡◌, ℕ, Bool, true, false, cond, ◌⊎◌, inl, inr, ◌%◌, ◌<◌, ◌≤◌, List, [], ◌∷◌, length, Option, Some, None, Result, Ok, Err, IsTrue, refl, arith}
use Rattle.std.specs.Prelude.{ℤ}
use Rattle.std.proofs.lemmas.Bool.{cases_lt, eqb-true}
use Rattle.std.proofs.lemmas.List.{get_or_past}
use Rattle.cap_format.specs.declared.cap.Cap.{Cap}
use Rattle.cap_format.specs.Pattern.{address_of}
use Rattle.cap_format.specs.Made.{null}
use Rattle.cap_format.specs.Rights.{holds}
use Rattle.machine_types.specs.declared.cause.Cause.{Cause}
use Rattle.machine_types.specs.declared.cause.Cause.TheVariants.{CodeBounds}
use Rattle.machine_types.specs.declared.touches.Note.{Note}
use Rattle.machine_types.specs.Granules.{IsSize}
use Rattle.machine_types.specs.Held.{IsHeld}
use Rattle.machine_types.specs.Registers.{register}
use Rattle.riscv_decode.specs.declared.instr.LoadOp.TheVariants as load
use Rattle.riscv_decode.specs.declared.instr.StoreOp.TheVariants as store
use Rattle.riscv_decode.specs.declared.instr.Instr.{Instr}
use Rattle.riscv_decode.specs.declared.instr.Instr.TheVariants as instr
use Rattle.riscv_decode.specs.Decoded.{decoded}
use Rattle.contents.specs.declared.refusal.Refusal.{Refusal}
use Rattle.contents.specs.Content.{Content, CallOutcome}
use Rattle.contents.specs.Accesses.{fetch_of}
use Rattle.cheri_step.specs.declared.memory.MemoryOp.{MemoryOp}
use Rattle.cheri_step.specs.declared.memory.MemoryOp.TheVariants.{Load, Store}
use Rattle.cheri_step.specs.Results.{integer_of}
use Rattle.cheri_step.specs.Tests.{load_size, size_of, Test, tests_of_target, tests_of_jump, tests_of_access, passed}
use Rattle.cheri_step.specs.Access.{place_in, accessed, caused, fetch_cause, tested, access_of, code_of}
use Rattle.cheri_step.specs.Plans.{Plan, ends, asks, displaced, even_below, unsealed, goes_on, jumps, jumps_by, planned}
use Rattle.cheri_step.specs.Effect.{State, state, performed, carried_out, plan_of, fetch_then, effect}
use Rattle.cheri_step.specs.Laws.{MayRun}
use Rattle.machine.specs.Steady.{ContentIsSound}
use Rattle.machine.specs.Contents.{CallsKeepContents}

-- Tests.

-- each of the tests passes
abbrev pub AllPass : List Test → Type 0
AllPass [] = Unit {0}
AllPass (test ∷ tests) = IsTrue test.passes × AllPass tests

-- where one test and those after it pass
one-passes : (test : Test) (tests : List Test) → (passed tests ≡ Ok tt → AllPass tests) → passed (test ∷ tests) ≡ Ok tt → AllPass (test ∷ tests)
one-passes test tests others = by test.passes refl
  where
    by : (passes : Bool) → test.passes ≡ passes → cond passes (passed tests) (Err test.cause) ≡ Ok tt → AllPass (test ∷ tests)
    by true e h = (e, others h)
    by false e h = absurd (cc)

-- where the tests pass, each of them does
all-pass : (tests : List Test) → passed tests ≡ Ok tt → AllPass tests
all-pass [] h = tt
all-pass (test ∷ tests) h = one-passes test tests (all-pass tests) h

-- an address that passes the tests is a multiple of the size
access-aligned : (authority : Cap) (address : ℕ) (op : MemoryOp) → passed (tests_of_access authority address op) ≡ Ok tt → address % size_of op ≡ 0
access-aligned authority address op h =
    let tests = all-pass (tests_of_access authority address op) h in
    eqb-true (address % size_of op) 0 tests.1.1.1.1.0

-- a region begins at a multiple of each size
place-aligned : (region address size : ℕ) → IsSize size → address % size ≡ 0 → place_in region address % size ≡ 0
place-aligned region address size (inl e) aligned = rw e (omega arith)
place-aligned region address size (inr (inl e)) aligned = let even : address % 2 ≡ 0 = rw e at aligned in rw e (omega arith)
place-aligned region address size (inr (inr (inl e))) aligned = let fourth : address % 4 ≡ 0 = rw e at aligned in rw e (omega arith)
place-aligned region address size (inr (inr (inr e))) aligned = let eighth : address % 8 ≡ 0 = rw e at aligned in rw e (omega arith)

-- What is stored.

-- what is stored is what the region may have
abbrev pub StoresHeld : ℕ → MemoryOp → Type 0
StoresHeld region (Load op) = Unit {0}
StoresHeld region (Store op value) = IsHeld region value

-- a plan stores nothing else
abbrev pub IsHeldPlan : ℕ → Plan → Type 0
IsHeldPlan region (ends end registers pcc) = Unit {0}
IsHeldPlan region (asks d) = StoresHeld region d.op

-- each register of a process that may run is such
register-held : (s : State) (region t : ℕ) → MayRun region s → IsHeld region (register s.registers t)
register-held s region t may = by (cases_lt t 32)
  where
    by : (t < 32) ⊎ (32 ≤ t) → IsHeld region (register s.registers t)
    by (inl small) =
        let long = may.steps.file.length_is in
        record { pattern = may.steps.file.patterns t null (omega arith); inside = may.steps.registers_held t small }
    by (inr past) =
        let long = may.steps.file.length_is in
        let beyond : length s.registers ≤ t = omega arith in
        rw (get_or_past s.registers t null beyond) (record { pattern = omega arith; inside = λ tagged. absurd (cc) })

module _ (region : ℕ) (registers : List Cap) (pcc : Cap) (held : (t : ℕ) → IsHeld region (register registers t)) where
  -- a jump stores nothing
  jumps-held : (n : ℕ) (cap : Cap) (target : ℕ) (tests : Result (Unit {0}) Cause) → IsHeldPlan region (jumps registers pcc n cap target tests)
  jumps-held n cap target (Ok passes) = tt
  jumps-held n cap target (Err cause) = tt

  -- nor does a branch
  branch-held : (is_taken : Bool) (imm : ℤ) → IsHeldPlan region (cond is_taken (jumps_by registers pcc 0 imm) (goes_on registers pcc))
  branch-held true imm = jumps-held 0 pcc (displaced pcc imm) (passed (tests_of_target pcc (displaced pcc imm)))
  branch-held false imm = tt

  -- each row
  planned-held : (i : Instr) → IsHeldPlan region (planned registers pcc i)
  planned-held (instr.Reg op d s t) = tt
  planned-held (instr.Imm op d s imm) = tt
  planned-held (instr.Upper op d imm) = tt
  planned-held (instr.One op d s) = tt
  planned-held (instr.Load op d s imm) = tt
  planned-held (instr.Store op s t imm) = held t
  planned-held (instr.Branch op s t imm) = branch-held _ imm
  planned-held (instr.Jal d imm) = jumps-held d pcc (displaced pcc imm) (passed (tests_of_target pcc (displaced pcc imm)))
  planned-held (instr.Jalr d s imm) =
      let cap = register registers s in
      let target = even_below (displaced cap imm) in
      jumps-held d (unsealed cap) target (passed (tests_of_jump cap imm target))
  planned-held instr.Ecall = tt
  planned-held instr.Ebreak = tt
  planned-held instr.Fence = tt

  -- the plan of a word, of which some have no row
  plan-held : (c : Content) (o : Option Instr) → IsHeldPlan region (plan_of (state registers pcc c) o)
  plan-held c (Some i) = planned-held i
  plan-held c None = tt

module _ (n region : ℕ) (below : region < n) (keep : CallsKeepContents n) where
  -- a load, or a store of what the region may have, at an aligned address
  accessed-sound : (c : Content) (address : ℕ) (op : MemoryOp) → ContentIsSound n c → StoresHeld region op → address % size_of op ≡ 0 → ContentIsSound n (accessed c region address op).after
  unfolding accessed
  accessed-sound c address (Load load.Clc) sound held aligned = keep.read_cap c region (place_in region address) below sound
  accessed-sound c address (Load op) sound held aligned = keep.read c region (place_in region address) (load_size op) below sound
  accessed-sound c address (Store store.Csc value) sound held aligned = keep.write_cap c region (place_in region address) value below sound held.pattern held.inside
  accessed-sound c address (Store store.Sb value) sound held aligned = let is : IsSize 1 = inl refl in keep.write c region (place_in region address) 1 (integer_of value) below sound is (place-aligned region address 1 is aligned)
  accessed-sound c address (Store store.Sh value) sound held aligned = let is : IsSize 2 = inr (inl refl) in keep.write c region (place_in region address) 2 (integer_of value) below sound is (place-aligned region address 2 is aligned)
  accessed-sound c address (Store store.Sw value) sound held aligned = let is : IsSize 4 = inr (inr (inl refl)) in keep.write c region (place_in region address) 4 (integer_of value) below sound is (place-aligned region address 4 is aligned)
  accessed-sound c address (Store store.Sd value) sound held aligned = let is : IsSize 8 = inr (inr (inr refl)) in keep.write c region (place_in region address) 8 (integer_of value) below sound is (place-aligned region address 8 is aligned)

  -- an access by an authority, whatever its tests come to
  access-sound : (c : Content) (authority : Cap) (address : ℕ) (op : MemoryOp) → ContentIsSound n c → StoresHeld region op → ContentIsSound n (access_of c region authority address op).after
  access-sound c authority address op sound held = by (passed (tests_of_access authority address op)) refl
    where
      by : (r : Result (Unit {0}) Cause) → passed (tests_of_access authority address op) ≡ r → ContentIsSound n (tested c r (accessed c region address op)).after
      by (Ok passes) e = accessed-sound c address op sound held (access-aligned authority address op e)
      by (Err cause) e = sound

  -- what is left after it
  performed-sound : (s : State) (registers : Cap → List Cap) (after : Content) (answer : Result (Cap × Note) Cause) → ContentIsSound n after → ContentIsSound n (performed s registers after answer).after.content
  performed-sound s registers after (Ok a) sound = sound
  performed-sound s registers after (Err cause) sound = sound

  -- what a plan comes to
  carried-sound : (s : State) (plan : Plan) → ContentIsSound n s.content → IsHeldPlan region plan → ContentIsSound n (carried_out s region plan).after.content
  carried-sound s (ends end registers pcc) sound held = sound
  carried-sound s (asks d) sound held =
      let o = access_of s.content region d.authority d.address d.op in
      performed-sound s d.registers o.after o.answer (access-sound s.content d.authority d.address d.op sound held)

  -- the fetch
  code-sound : (c : Content) (pcc : Cap) → ContentIsSound n c → ContentIsSound n (code_of c region pcc).after
  code-sound c pcc sound = by (holds pcc.bits (address_of pcc.bits) 4)
    where
      o : CallOutcome (Result (ℕ × Note) Refusal)
      o = fetch_of c region (place_in region (address_of pcc.bits))

      by : (bound : Bool) → ContentIsSound n (cond {A = CallOutcome (Result (ℕ × Note) Cause)} bound (record { answer = caused fetch_cause o.answer; after = o.after }) (record { answer = Err CodeBounds; after = c })).after
      by true = keep.fetch c region (place_in region (address_of pcc.bits)) below sound
      by false = sound

  -- what follows it
  then-sound : (s : State) (after : Content) (answer : Result (ℕ × Note) Cause) → ((t : ℕ) → IsHeld region (register s.registers t)) → ContentIsSound n after → ContentIsSound n (fetch_then s region after answer).after.content
  then-sound s after (Ok f) held sound =
      carried-sound (state s.registers s.pcc after) (plan_of (state s.registers s.pcc after) (decoded f.0)) sound (plan-held region s.registers s.pcc held after (decoded f.0))
  then-sound s after (Err cause) held sound = sound

  -- An instruction of a process that may run keeps the content sound.
  pub effect-sound : (s : State) → MayRun region s → ContentIsSound n s.content → ContentIsSound n (effect s region).after.content
  unfolding effect
  effect-sound s may sound =
      let o = code_of s.content region s.pcc in
      then-sound s o.after o.answer (λ t. register-held s region t may) (code-sound s.content s.pcc sound)
