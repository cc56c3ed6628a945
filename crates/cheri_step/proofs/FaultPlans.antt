-- The plans that end by a fault or a call.
use Rattle.std.proofs.Common.{◌≡◌, ◌≢◌, ℕ, ℤ, refl, Bool, true, false, cond, Option, Some, None, Ok, Err, Result, List, [], ◌∷◌}
use Rattle.cap_format.specs.declared.cap.Cap.{Cap}
use Rattle.machine_types.specs.declared.cause.Cause.{Cause}
use Rattle.machine_types.specs.declared.cause.Cause.TheVariants.{NoFrame}
use Rattle.machine_types.specs.Registers.{register}
use Rattle.riscv_decode.specs.declared.instr.Instr.{Instr}
use Rattle.riscv_decode.specs.declared.instr.Instr.TheVariants as instr
use Rattle.int_step.specs.Values.{taken}
use Rattle.cheri_step.specs.declared.memory.MemoryOp.{MemoryOp}
use Rattle.cheri_step.specs.declared.step.StepEnd.TheVariants.{Next, Call, Fault}
use Rattle.cheri_step.specs.Results.{integer_of}
use Rattle.cheri_step.specs.Tests.{Test, passed, tests_of_access, tests_of_target, tests_of_jump}
use Rattle.cheri_step.specs.Plans.{Plan, ends, asks, goes_on, displaced, jumps, jumps_by, jumps_to, even_below, unsealed, planned}
use Rattle.cheri_step.specs.Effect.{State, plan_of}

-- no test has the want of a frame as its cause
abbrev pub AreOwnTests : List Test → Type 0
AreOwnTests [] = Unit {0}
AreOwnTests (test ∷ tests) = (test.cause ≢ NoFrame) × AreOwnTests tests

-- nor has what tests came to
abbrev pub IsOwn : Result (Unit {0}) Cause → Type 0
IsOwn (Ok passes) = Unit {0}
IsOwn (Err cause) = cause ≢ NoFrame

-- nor has one test before others
test-own : (passes : Bool) (cause : Cause) (rest : Result (Unit {0}) Cause) → cause ≢ NoFrame → IsOwn rest → IsOwn (cond passes rest (Err cause))
test-own true cause rest own later = later
test-own false cause rest own later = own

-- tests give their own causes
passed-own : (tests : List Test) → AreOwnTests tests → IsOwn (passed tests)
passed-own [] own = tt
passed-own (test ∷ tests) own = test-own test.passes test.cause (passed tests) own.0 (passed-own tests own.1)

-- those of a load or a store too
pub access-own : (authority : Cap) (address : ℕ) (op : MemoryOp) → IsOwn (passed (tests_of_access authority address op))
access-own authority address op = passed-own (tests_of_access authority address op) (λ e. cc, (λ e. cc, (λ e. cc, (λ e. cc, (λ e. cc, tt)))))

-- A plan that ends by a call or a fault leaves registers and PCC, and none ends for want of a frame.
abbrev pub IsSettled : List Cap → Cap → Plan → Type 0
IsSettled r pcc (ends Next registers p) = Unit {0}
IsSettled r pcc (ends Call registers p) = (registers ≡ r) × (p ≡ pcc)
IsSettled r pcc (ends (Fault cause) registers p) = (registers ≡ r) × ((p ≡ pcc) × (cause ≢ NoFrame))
IsSettled r pcc (asks d) = Unit {0}

module _ (r : List Cap) (pcc : Cap) where
  -- a jump, by its tests
  jumps-settled : (n : ℕ) (cap : Cap) (target : ℕ) (answer : Result (Unit {0}) Cause) → IsOwn answer → IsSettled r pcc (jumps r pcc n cap target answer)
  jumps-settled n cap target (Ok passes) own = tt
  jumps-settled n cap target (Err cause) own = (refl, (refl, own))

  -- a jump in the bounds of PCC
  jumps_by-settled : (n : ℕ) (imm : ℤ) → IsSettled r pcc (jumps_by r pcc n imm)
  jumps_by-settled n imm =
      let target : ℕ = displaced pcc imm in
      jumps-settled n pcc target (passed (tests_of_target pcc target)) (passed-own (tests_of_target pcc target) (λ e. cc, (λ e. cc, tt)))

  -- a jump by a register
  jumps_to-settled : (n : ℕ) (cap : Cap) (imm : ℤ) → IsSettled r pcc (jumps_to r pcc n cap imm)
  jumps_to-settled n cap imm =
      let target : ℕ = even_below (displaced cap imm) in
      jumps-settled n (unsealed cap) target (passed (tests_of_jump cap imm target))
      (passed-own (tests_of_jump cap imm target) (λ e. cc, (λ e. cc, (λ e. cc, (λ e. cc, (λ e. cc, tt))))))

  -- a branch that is taken or not
  branch-settled : (imm : ℤ) (taken : Bool) → IsSettled r pcc (cond taken (jumps_by r pcc 0 imm) (goes_on r pcc))
  branch-settled imm true = jumps_by-settled 0 imm
  branch-settled imm false = tt

  -- each row
  planned-settled : (i : Instr) → IsSettled r pcc (planned r pcc i)
  planned-settled (instr.Reg op d s t) = tt
  planned-settled (instr.Imm op d s imm) = tt
  planned-settled (instr.Upper op d imm) = tt
  planned-settled (instr.One op d s) = tt
  planned-settled (instr.Load op d s imm) = tt
  planned-settled (instr.Store op s t imm) = tt
  planned-settled (instr.Branch op s t imm) = branch-settled imm (taken op (integer_of (register r s)) (integer_of (register r t)))
  planned-settled (instr.Jal d imm) = jumps_by-settled d imm
  planned-settled (instr.Jalr d s imm) = jumps_to-settled d (register r s) imm
  planned-settled instr.Ecall = (refl, refl)
  planned-settled instr.Ebreak = (refl, (refl, λ e. cc))
  planned-settled instr.Fence = tt

-- each word
pub plan-settled : (s : State) (o : Option Instr) → IsSettled s.registers s.pcc (plan_of s o)
plan-settled s (Some i) = planned-settled s.registers s.pcc i
plan-settled s None = (refl, (refl, λ e. cc))
