-- The word of a call.
use Rattle.std.proofs.Common.{◌≡◌, ℕ, ℤ, refl, ap, sym, Bool, true, false, cond, Option, Some, None, Ok, Err, Result, List}
use Rattle.cap_format.specs.declared.cap.Cap.{Cap}
use Rattle.machine_types.specs.declared.cause.Cause.{Cause}
use Rattle.machine_types.specs.declared.touches.Note.{Note}
use Rattle.machine_types.specs.Registers.{register}
use Rattle.riscv_decode.specs.declared.instr.Instr.{Instr}
use Rattle.riscv_decode.specs.declared.instr.Instr.TheVariants as instr
use Rattle.riscv_decode.specs.Decoded.{decoded}
use Rattle.riscv_decode.specs.RoundTrips.{WordsGoRound}
use Rattle.int_step.specs.Values.{taken}
use Rattle.cheri_step.specs.declared.step.StepEnd.TheVariants.{Next, Call, Fault}
use Rattle.cheri_step.specs.Results.{integer_of}
use Rattle.cheri_step.specs.Tests.{passed, tests_of_target, tests_of_jump}
use Rattle.cheri_step.specs.Access.{access_of, code_of}
use Rattle.cheri_step.specs.Plans.{Plan, ends, asks, goes_on, displaced, jumps, jumps_by, even_below, unsealed, planned}
use Rattle.cheri_step.specs.Effect.{State, state, performed, carried_out, plan_of, fetch_then, effect}
use Rattle.cheri_step.proofs.Fetched.{code-below}

-- The plan doesn't end by a call.
abbrev IsNoCall : Plan → Type 0
IsNoCall (ends Call registers pcc) = ⊥
IsNoCall _ = Unit {0}

module _ (r : List Cap) (pcc : Cap) where
  -- a jump, by its tests
  jumps-no-call : (n : ℕ) (cap : Cap) (target : ℕ) (answer : Result (Unit {0}) Cause) → IsNoCall (jumps r pcc n cap target answer)
  jumps-no-call n cap target (Ok passes) = tt
  jumps-no-call n cap target (Err cause) = tt

  -- a branch that is taken or not
  branch-no-call : (imm : ℤ) (taken : Bool) → IsNoCall (cond taken (jumps_by r pcc 0 imm) (goes_on r pcc))
  branch-no-call imm true = let target : ℕ = displaced pcc imm in jumps-no-call 0 pcc target (passed (tests_of_target pcc target))
  branch-no-call imm false = tt

-- a plan that ends by a call is no such plan
no-call : (s : State) (region : ℕ) (plan : Plan) → IsNoCall plan → (carried_out s region plan).end ≡ Call → ⊥
no-call s region (ends Next registers pcc) none e = absurd (cc)
no-call s region (ends Call registers pcc) none e = none
no-call s region (ends (Fault cause) registers pcc) none e = absurd (cc)
no-call s region (asks d) none e = by (access_of s.content region d.authority d.address d.op).answer e
  where
    by : (answer : Result (Cap × Note) Cause) → (performed s d.registers (access_of s.content region d.authority d.address d.op).after answer).end ≡ Call → ⊥
    by (Ok a) e = absurd (cc)
    by (Err cause) e = absurd (cc)

-- the row whose plan ends by a call is ecall
row-called : (s : State) (region : ℕ) (i : Instr) → (carried_out s region (planned s.registers s.pcc i)).end ≡ Call → i ≡ instr.Ecall
row-called s region (instr.Reg op d a b) e = absurd (cc)
row-called s region (instr.Imm op d a imm) e = absurd (cc)
row-called s region (instr.Upper op d imm) e = absurd (cc)
row-called s region (instr.One op d a) e = absurd (cc)
row-called s region (instr.Load op d a imm) e = absurd (no-call s region (planned s.registers s.pcc (instr.Load op d a imm)) tt e)
row-called s region (instr.Store op a b imm) e = absurd (no-call s region (planned s.registers s.pcc (instr.Store op a b imm)) tt e)
row-called s region (instr.Branch op a b imm) e =
    absurd (no-call s region _ (branch-no-call s.registers s.pcc imm (taken op (integer_of (register s.registers a)) (integer_of (register s.registers b)))) e)
row-called s region (instr.Jal d imm) e =
    let target : ℕ = displaced s.pcc imm in absurd (no-call s region _ (jumps-no-call s.registers s.pcc d s.pcc target (passed (tests_of_target s.pcc target))) e)
row-called s region (instr.Jalr d a imm) e =
    let cap : Cap = register s.registers a in
    let target : ℕ = even_below (displaced cap imm) in
    absurd (no-call s region _ (jumps-no-call s.registers s.pcc d (unsealed cap) target (passed (tests_of_jump cap imm target))) e)
row-called s region instr.Ecall e = refl
row-called s region instr.Ebreak e = absurd (cc)
row-called s region instr.Fence e = absurd (cc)

-- so the word is decoded as ecall
plan-called : (s : State) (region : ℕ) (o : Option Instr) → (carried_out s region (plan_of s o)).end ≡ Call → o ≡ Some instr.Ecall
plan-called s region (Some i) e = ap Some (row-called s region i e)
plan-called s region None e = absurd (cc)

-- The word of a call is ecall.
pub call-word : WordsGoRound → (s : State) (region : ℕ) → (effect s region).end ≡ Call → (effect s region).word ≡ Some 115
unfolding effect
call-word round s region = by (code_of s.content region s.pcc).answer refl
  where
    by : (answer : Result (ℕ × Note) Cause) → (code_of s.content region s.pcc).answer ≡ answer
        → (fetch_then s region (code_of s.content region s.pcc).after answer).end ≡ Call → (fetch_then s region (code_of s.content region s.pcc).after answer).word ≡ Some 115
    by (Err cause) is e = absurd (cc)
    by (Ok f) is e =
        let row = plan-called (state s.registers s.pcc (code_of s.content region s.pcc).after) region (decoded f.0) e in
        ap Some (sym (round.decoded f.0 instr.Ecall (code-below s.content region s.pcc f is) row).1)
