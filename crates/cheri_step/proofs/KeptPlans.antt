-- The plan of each row keeps registers and PCC.
use Rattle.std.proofs.Common.{◌≡◌, ℕ, Bool, true, false, cond, ◌<◌, List, Result, Ok, Err, IsTrue, refl}
use Rattle.std.specs.Prelude.{ℤ}
use Rattle.cap_format.specs.Numbers.{most_regions}
use Rattle.cap_format.specs.declared.cap.Cap.{Cap}
use Rattle.cap_format.specs.Pattern.{address_of}
use Rattle.cap_format.specs.Made.{with_address}
use Rattle.cap_format.specs.Rights.{holds}
use Rattle.machine_types.specs.declared.cause.Cause.{Cause}
use Rattle.machine_types.specs.Held.{IsHeld}
use Rattle.machine_types.specs.Registers.{register, with_register}
use Rattle.riscv_decode.specs.declared.instr.LoadOp.{LoadOp}
use Rattle.riscv_decode.specs.declared.instr.StoreOp.{StoreOp}
use Rattle.riscv_decode.specs.declared.instr.Instr.{Instr}
use Rattle.riscv_decode.specs.declared.instr.Instr.TheVariants as instr
use Rattle.int_step.specs.Values.{taken}
use Rattle.cheri_step.specs.declared.memory.MemoryOp.TheVariants.{Store}
use Rattle.cheri_step.specs.Results.{integer_of, reg_result, imm_result, upper_result, one_result}
use Rattle.cheri_step.specs.Tests.{tests_of_target, tests_of_jump, passed}
use Rattle.cheri_step.specs.Plans.{Demand, Plan, ends, asks, goes_on, gives, loads, stores, loaded, link, jumps, jumps_by, jumps_to, displaced, even_below, unsealed, planned}
use Rattle.cheri_step.proofs.KeptRegisters.{AreKept, kept-register, kept-with, held-reg, held-imm, held-upper, held-one, held-link, held-loaded, held-unsealed}
use Rattle.cheri_step.proofs.KeptCounters.{IsCounter, counter-next, counter-by, counter-to}
use Rattle.cheri_step.proofs.KeptContents.{StoresHeld}

-- registers and PCC that a process of the region may have
pub record IsKept (region : ℕ) (registers : List Cap) (pcc : Cap) : Type 0 where
  pub registers_kept : AreKept region registers
  pub counter : IsCounter region pcc

-- a load or a store of what the region may have, with registers that are kept, whatever of this is loaded
pub record IsKeptDemand (region : ℕ) (d : Demand) : Type 0 where
  pub op : StoresHeld region d.op
  pub registers : (value : Cap) → IsHeld region value → AreKept region (d.registers value)

-- a plan that keeps them
abbrev pub IsKeptPlan : ℕ → Plan → Type 0
IsKeptPlan region (ends end registers pcc) = IsKept region registers pcc
IsKeptPlan region (asks d) = IsKeptDemand region d

-- one of two such plans
chosen-plan : (region : ℕ) (first : Bool) (p q : Plan) → IsKeptPlan region p → IsKeptPlan region q → IsKeptPlan region (cond first p q)
chosen-plan region true p q kept other = kept
chosen-plan region false p q kept other = other

module _ (region : ℕ) (registers : List Cap) (pcc : Cap) (some : region < most_regions) (kept : IsKept region registers pcc) (bytes : IsTrue (holds pcc.bits (address_of pcc.bits) 4)) where
  -- the next instruction follows
  goes-on-kept : (after : List Cap) → AreKept region after → IsKeptPlan region (goes_on after pcc)
  goes-on-kept after are = record { registers_kept = are; counter = counter-next region pcc some kept.counter bytes }

  -- a result is put
  gives-kept : (n : ℕ) (result : Cap) → IsHeld region result → IsKeptPlan region (gives registers pcc n result)
  gives-kept n result held = goes-on-kept (with_register registers n result) (kept-with region registers n result kept.registers_kept held)

  -- a register
  source : (n : ℕ) → IsHeld region (register registers n)
  source n = kept-register region registers n kept.registers_kept

  -- a jump, whatever its tests come to
  jumps-kept : (n : ℕ) (cap : Cap) (target : ℕ) (tests : Result (Unit {0}) Cause) → (tests ≡ Ok tt → IsCounter region (with_address cap target)) → IsKeptPlan region (jumps registers pcc n cap target tests)
  jumps-kept n cap target (Ok passes) there = record { registers_kept = kept-with region registers n (link pcc) kept.registers_kept (held-link region pcc kept.counter.held); counter = there refl }
  jumps-kept n cap target (Err cause) there = kept

  -- one within PCC
  jumps_by-kept : (n : ℕ) (imm : ℤ) → IsKeptPlan region (jumps_by registers pcc n imm)
  jumps_by-kept n imm =
      let target = displaced pcc imm in
      jumps-kept n pcc target (passed (tests_of_target pcc target)) (counter-by region pcc target some kept.counter)

  -- one by a capability
  jumps_to-kept : (n : ℕ) (cap : Cap) (imm : ℤ) → IsHeld region cap → IsKeptPlan region (jumps_to registers pcc n cap imm)
  jumps_to-kept n cap imm held =
      let target = even_below (displaced cap imm) in
      jumps-kept n (unsealed cap) target (passed (tests_of_jump cap imm target)) (counter-to region cap imm target some held (held-unsealed region cap held))

  -- a load
  loads-kept : (op : LoadOp) (n : ℕ) (authority : Cap) (imm : ℤ) → IsKeptPlan region (loads registers op n authority imm)
  loads-kept op n authority imm = record { op = tt; registers = λ value held. kept-with region registers n (loaded op authority value) kept.registers_kept (held-loaded region op authority value held) }

  -- a store
  stores-kept : (op : StoreOp) (value authority : Cap) (imm : ℤ) → IsHeld region value → IsKeptPlan region (stores registers (Store op value) authority imm)
  stores-kept op value authority imm held = record { op = held; registers = λ _ _. kept.registers_kept }

  -- each row
  pub planned-kept : (i : Instr) → IsKeptPlan region (planned registers pcc i)
  planned-kept (instr.Reg op d s t) = gives-kept d (reg_result op (register registers s) (register registers t)) (held-reg region op (register registers s) (register registers t) (source s))
  planned-kept (instr.Imm op d s imm) = gives-kept d (imm_result op (register registers s) imm) (held-imm region op (register registers s) imm (source s))
  planned-kept (instr.Upper op d imm) = gives-kept d (upper_result op pcc imm) (held-upper region op pcc imm kept.counter.held)
  planned-kept (instr.One op d s) = gives-kept d (one_result op (register registers s)) (held-one region op (register registers s) (source s))
  planned-kept (instr.Load op d s imm) = loads-kept op d (register registers s) imm
  planned-kept (instr.Store op s t imm) = stores-kept op (register registers t) (register registers s) imm (source t)
  planned-kept (instr.Branch op s t imm) = chosen-plan region (taken op (integer_of (register registers s)) (integer_of (register registers t))) _ _ (jumps_by-kept 0 imm) (goes-on-kept registers kept.registers_kept)
  planned-kept (instr.Jal d imm) = jumps_by-kept d imm
  planned-kept (instr.Jalr d s imm) = jumps_to-kept d (register registers s) imm (source s)
  planned-kept instr.Ecall = kept
  planned-kept instr.Ebreak = kept
  planned-kept instr.Fence = goes-on-kept registers kept.registers_kept
