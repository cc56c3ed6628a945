-- Tests that pass, one by one, and the first that fails.
use Rattle.std.proofs.Common.{◌≡◌, Bool, true, false, cond, List, [], ◌∷◌, ◌++◌, Ok, Err, IsTrue, refl, ap}
use Rattle.std.specs.List.{All}
use Rattle.std.proofs.lemmas.List.Elements.{All-nil, All-cons, All-head, All-tail}
use Rattle.machine_types.specs.declared.cause.Cause.{Cause}
use Rattle.cheri_step.specs.Tests.{Test, passed}
use Rattle.cheri_step.specs.Laws.{Passes, FailsFirst}

-- each of the tests passes
abbrev pub AllPass : List Test → Type 0
AllPass [] = Unit {0}
AllPass (test ∷ tests) = IsTrue test.passes × AllPass tests

-- where one test and those after it pass
one-passes : (test : Test) (tests : List Test) → (passed tests ≡ Ok tt → AllPass tests) → passed (test ∷ tests) ≡ Ok tt → AllPass (test ∷ tests)
one-passes test tests others = by test.passes refl
  where
    by : (passes : Bool) → test.passes ≡ passes → cond passes (passed tests) (Err test.cause) ≡ Ok tt → AllPass (test ∷ tests)
    by true e h = (e, others h)
    by false e h = absurd (cc)

-- where the tests pass, each of them does
pub all-pass : (tests : List Test) → passed tests ≡ Ok tt → AllPass tests
all-pass [] h = tt
all-pass (test ∷ tests) h = one-passes test tests (all-pass tests) h

-- each of them does, by its place in the list
pub passing-all : (tests : List Test) → passed tests ≡ Ok tt → All Passes tests
passing-all tests h = by tests (all-pass tests h)
  where
    by : (tests : List Test) → AllPass tests → All Passes tests
    by [] pass = All-nil Passes
    by (test ∷ tests) pass = All-cons Passes test tests pass.0 (by tests pass.1)

-- tests that pass, before others, leave the answer to those
passed-rest : (before rest : List Test) → All Passes before → passed (before ++ rest) ≡ passed rest
passed-rest [] rest pass = refl
passed-rest (test ∷ before) rest pass = rw (All-head Passes test before pass) (passed-rest before rest (All-tail Passes test before pass))

-- where each of them passes, the tests pass
pub all-passing : (tests : List Test) → All Passes tests → passed tests ≡ Ok tt
all-passing [] pass = refl
all-passing (test ∷ tests) pass = rw (All-head Passes test tests pass) (all-passing tests (All-tail Passes test tests pass))

-- the first that fails is so after one that passes
fails-later : (test : Test) (tests : List Test) (cause : Cause) → test.passes ≡ true → FailsFirst tests cause → FailsFirst (test ∷ tests) cause
fails-later test tests cause e first = record {
  before = test ∷ first.before;
  test = first.test;
  after = first.after;
  split = ap (λ (rest : List Test). test ∷ rest) first.split;
  pass = All-cons Passes test first.before e first.pass;
  fails = first.fails;
  gives = first.gives;
}

-- where one test and those after it fail
one-fails : (test : Test) (tests : List Test) (cause : Cause) → (passed tests ≡ Err cause → FailsFirst tests cause) → passed (test ∷ tests) ≡ Err cause → FailsFirst (test ∷ tests) cause
one-fails test tests cause others = by test.passes refl
  where
    by : (passes : Bool) → test.passes ≡ passes → cond passes (passed tests) (Err test.cause) ≡ Err cause → FailsFirst (test ∷ tests) cause
    by true e h = fails-later test tests cause e (others h)
    by false e h = record { before = []; test = test; after = tests; split = refl; pass = All-nil Passes; fails = e; gives = cc }

-- a cause is that of the first that fails
pub first-fails : (tests : List Test) (cause : Cause) → passed tests ≡ Err cause → FailsFirst tests cause
first-fails [] cause h = absurd (cc)
first-fails (test ∷ tests) cause h = one-fails test tests cause (first-fails tests cause) h

-- and that is the cause
pub fails-first : (tests : List Test) (cause : Cause) → FailsFirst tests cause → passed tests ≡ Err cause
fails-first tests cause first = rw (first.split, passed-rest first.before (first.test ∷ first.after) first.pass, first.fails, first.gives) refl
