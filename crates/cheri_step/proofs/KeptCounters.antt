-- PCC stays code that a process may have.
use Rattle.std.proofs.Common.{◌≡◌, ◌∙◌, ℕ, Bool, true, false, ◌==◌, ◌&&◌, ◌||◌, cond, ◌+◌, ◌%◌, ◌^◌, ◌<◌, Ok, IsTrue, bit_and, refl, ap, arith}
use Rattle.std.specs.Prelude.{ℤ, pos, ◌≤ℤ◌}
use Rattle.std.specs.Ordering.{int_eq}
use Rattle.std.proofs.lemmas.Int.{ints}
use Rattle.std.proofs.lemmas.Bool.{eqb-true}
use Rattle.std.proofs.Math.Nat.{mod-eq_of_lt}
use Rattle.cap_format.specs.Numbers.{most_regions, permit_execute}
use Rattle.cap_format.specs.declared.cap.Cap.{Cap}
use Rattle.cap_format.specs.Pattern.{address_of, kind_of, base_of, top_of}
use Rattle.cap_format.specs.Made.{with_address}
use Rattle.cap_format.specs.Rights.{allows, holds}
use Rattle.cap_format.specs.Code.{IsCode}
use Rattle.cap_format.specs.Sealing.{with_kind_bits, unseal_entry}
use Rattle.cap_format.proofs.Sealed.{kind-base, kind-top}
use Rattle.cap_format.proofs.Within.{held-when}
use Rattle.cap_format.proofs.CodeRules.{there-fits, code-there, inside-there, next-fits, code-next, inside-next}
use Rattle.machine_types.specs.Held.{IsHeld}
use Rattle.cheri_step.specs.Results.{next_pcc}
use Rattle.cheri_step.specs.Tests.{passed, is_plain, is_entry, tests_of_target, tests_of_jump}
use Rattle.cheri_step.specs.Plans.{unsealed}
use Rattle.cheri_step.proofs.Derivations.{kind-perms}
use Rattle.cheri_step.proofs.ResultBits.{address-pattern, next-pattern}
use Rattle.cheri_step.proofs.PassedTests.{AllPass, all-pass}

-- code that a process of the region may have
pub record IsCounter (region : ℕ) (pcc : Cap) : Type 0 where
  pub code : IsCode pcc
  pub held : IsHeld region pcc

-- PCC at the next instruction.

-- below 2^64 the sum doesn't wrap
pub next-is : (pcc : Cap) → address_of pcc.bits + 4 < 2 ^ 64 → next_pcc pcc ≡ with_address pcc (address_of pcc.bits + 4)
next-is pcc fits = ap (with_address pcc) (mod-eq_of_lt fits)

-- where its four bytes lie in its bounds PCC goes on
pub counter-next : (region : ℕ) (pcc : Cap) → region < most_regions → IsCounter region pcc → IsTrue (holds pcc.bits (address_of pcc.bits) 4) → IsCounter region (next_pcc pcc)
counter-next region pcc some counter bytes =
    let inside = counter.held.inside counter.code.tagged in
    let same = next-is pcc (next-fits pcc region some counter.code inside bytes) in
    record {
      code = rw same (code-next pcc region some counter.code inside bytes);
      held = record { pattern = next-pattern pcc counter.held.pattern; inside = λ tagged. rw same (inside-next pcc region some counter.code inside bytes) };
    }

-- Targets.

-- the target of a jump that passes its tests
pub record IsTarget (cap : Cap) (target : ℕ) : Type 0 where
  pub aligned : target % 4 ≡ 0
  pub from : base_of cap.bits ≤ℤ pos target
  pub to : pos target ≤ℤ top_of cap.bits

-- it is one, where they pass
pub target-passes : (cap : Cap) (target : ℕ) → AllPass (tests_of_target cap target) → IsTarget cap target
target-passes cap target tests =
    let bytes = held-when cap.bits target 4 tests.1.0 in
    let high = bytes.to in
    record { aligned = eqb-true (target % 4) 0 tests.0; from = bytes.from; to = omega (arith, ints, high) }

-- Jumps.

-- a plain capability that may execute, with such a target as its address
pub counter-there : (region : ℕ) (cap : Cap) (target : ℕ) → region < most_regions → IsHeld region cap → IsTrue cap.tag → kind_of cap.bits ≡ 0 → IsTrue (allows cap.bits permit_execute) → IsTarget cap target → IsCounter region (with_address cap target)
counter-there region cap target some held tagged plain executes goal =
    let inside = held.inside tagged in
    record {
      code = code-there cap region target some inside goal.from goal.to tagged plain executes goal.aligned;
      held = record {
        pattern = address-pattern cap target held.pattern (there-fits cap region target some inside goal.from goal.to);
        inside = λ _. inside-there cap region target some inside goal.from goal.to;
      };
    }

-- a jump within PCC
pub counter-by : (region : ℕ) (pcc : Cap) (target : ℕ) → region < most_regions → IsCounter region pcc → passed (tests_of_target pcc target) ≡ Ok tt → IsCounter region (with_address pcc target)
counter-by region pcc target some counter h =
    counter-there region pcc target some counter.held counter.code.tagged counter.code.plain counter.code.executes (target-passes pcc target (all-pass (tests_of_target pcc target) h))

-- another kind stands where it is put
pub kind-put : (bits kind : ℕ) → kind < 2 ^ 18 → kind_of (with_kind_bits bits kind) ≡ kind
kind-put bits kind small = omega arith

-- what isn't an entry is plain, where one or the other is wanted
plain-else : (plain entry still : Bool) → (plain || (entry && still)) ≡ true → entry ≡ false → plain ≡ true
plain-else true entry still h e = refl
plain-else false true still h e = absurd (cc)
plain-else false false still h e = absurd (cc)

-- a jump by a capability of a register
pub counter-to : (region : ℕ) (cap : Cap) (imm : ℤ) (target : ℕ) → region < most_regions → IsHeld region cap → IsHeld region (unsealed cap) → passed (tests_of_jump cap imm target) ≡ Ok tt → IsCounter region (with_address (unsealed cap) target)
unfolding unseal_entry
counter-to region cap imm target some held freed h =
    let tests = all-pass (tests_of_jump cap imm target) h in
    let goal = target-passes cap target tests.1.1.1 in
    by (is_entry cap) refl tests.0 tests.1.0 tests.1.1.0 goal freed
  where
    by : (entry : Bool) → is_entry cap ≡ entry → IsTrue cap.tag → IsTrue (is_plain cap || (is_entry cap && int_eq imm (pos 0))) → IsTrue (allows cap.bits permit_execute) → IsTarget cap target
        → IsHeld region (cond entry (unseal_entry cap) cap) → IsCounter region (with_address (cond entry (unseal_entry cap) cap) target)
    by true e tagged kind executes goal freed =
        counter-there region (unseal_entry cap) target some freed tagged (kind-put cap.bits 0 (omega arith))
        (ap (λ x. bit_and x permit_execute == permit_execute) (kind-perms cap.bits 0 (omega arith)) ∙ executes)
        (record { aligned = goal.aligned; from = rw (kind-base cap.bits 0) goal.from; to = rw (kind-top cap.bits 0) goal.to })
    by false e tagged kind executes goal freed =
        counter-there region cap target some freed tagged (eqb-true (kind_of cap.bits) 0 (plain-else (is_plain cap) (is_entry cap) (int_eq imm (pos 0)) kind e)) executes goal
