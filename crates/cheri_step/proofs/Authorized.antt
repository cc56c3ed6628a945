-- By which authority an access is made.
use Rattle.std.proofs.Common.{◌≡◌, ◌%◌, ℕ, refl, Ok, Err, Result}
use Rattle.std.proofs.lemmas.Bool.{eqb-true}
use Rattle.cap_format.specs.declared.cap.Cap.{Cap}
use Rattle.cap_format.specs.Pattern.{kind_of}
use Rattle.machine_types.specs.declared.cause.Cause.{Cause}
use Rattle.machine_types.specs.declared.touches.Note.{Note}
use Rattle.contents.specs.declared.refusal.Refusal.{Refusal}
use Rattle.contents.specs.Content.{Content, CallOutcome}
use Rattle.cheri_step.specs.declared.memory.MemoryOp.{MemoryOp}
use Rattle.cheri_step.specs.Tests.{size_of, tests_of_access, passed}
use Rattle.cheri_step.specs.Access.{accessed, access_cause, caused, tested, access_of}
use Rattle.cheri_step.specs.Laws.{IsAuthorized}
use Rattle.cheri_step.proofs.Accessed.{accessed-refused}
use Rattle.cheri_step.proofs.PassedTests.{all-pass}

-- an access is made only where its tests pass
tested-passes : (c : Content) (tests : Result (Unit {0}) Cause) (o : CallOutcome (Result (Cap × Note) Refusal)) (a : Cap × Note) → (tested c tests o).answer ≡ Ok a → tests ≡ Ok tt
tested-passes c (Ok tt) o a e = refl
tested-passes c (Err cause) o a e = absurd (cc)

-- An access is made only by an authority that may.
pub access-authorized : (c : Content) (region : ℕ) (authority : Cap) (address : ℕ) (op : MemoryOp) (a : Cap × Note) → (access_of c region authority address op).answer ≡ Ok a → IsAuthorized authority address op
access-authorized c region authority address op a e =
    let passes = tested-passes c (passed (tests_of_access authority address op)) (accessed c region address op) a e in
    let tests = all-pass (tests_of_access authority address op) passes in
    record {
      tagged = tests.0;
      plain = eqb-true (kind_of authority.bits) 0 tests.1.0;
      permits = tests.1.1.0;
      holds = tests.1.1.1.0;
      aligned = eqb-true (address % size_of op) 0 tests.1.1.1.1.0;
    }

-- an access that isn't made changes nothing, where a refusal changes nothing
tested-unmade : (c : Content) (tests : Result (Unit {0}) Cause) (o : CallOutcome (Result (Cap × Note) Refusal)) → ((refused : Refusal) → o.answer ≡ Err refused → o.after ≡ c)
    → (cause : Cause) → (tested c tests o).answer ≡ Err cause → (tested c tests o).after ≡ c
tested-unmade c (Err failed) o refused cause e = refl
tested-unmade c (Ok passes) o refused cause e = by o.answer refl e
  where
    by : (answer : Result (Cap × Note) Refusal) → o.answer ≡ answer → caused access_cause answer ≡ Err cause → o.after ≡ c
    by (Ok a) is e = absurd (cc)
    by (Err refusal) is e = refused refusal is

-- An access that isn't made changes nothing.
pub access-unmade : (c : Content) (region : ℕ) (authority : Cap) (address : ℕ) (op : MemoryOp) (cause : Cause) → (access_of c region authority address op).answer ≡ Err cause → (access_of c region authority address op).after ≡ c
access-unmade c region authority address op =
    tested-unmade c (passed (tests_of_access authority address op)) (accessed c region address op) (accessed-refused c region address op)
