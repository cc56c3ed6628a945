-- What the row of an instruction says: by registers and PCC alone it ends, or it asks for a load or a store.
-- Integers and jumps after the RISC-V unprivileged ISA, capabilities after the CHERI ISA v9.
use Rattle.std.specs.Prelude.{ℕ, ◌-◌, ◌%◌, Bool, if◌then◌else◌, false, ℤ, Result, Ok, Err, List}
use Rattle.cap_format.specs.Numbers.{permit_load_capability}
use Rattle.cap_format.specs.declared.cap.Cap.{Cap}
use Rattle.cap_format.specs.Rights.{allows}
use Rattle.cap_format.specs.Made.{from_int, with_address}
use Rattle.cap_format.specs.Sealing.{seal_entry, unseal_entry}
use Rattle.machine_types.specs.declared.cause.Cause.{Cause}
use Rattle.machine_types.specs.declared.cause.Cause.TheVariants.{Breakpoint}
use Rattle.machine_types.specs.Registers.{register, with_register}
use Rattle.riscv_decode.specs.Words.{signed}
use Rattle.riscv_decode.specs.declared.instr.LoadOp.{LoadOp}
use Rattle.riscv_decode.specs.declared.instr.LoadOp.TheVariants as load
use Rattle.riscv_decode.specs.declared.instr.Instr.{Instr}
use Rattle.riscv_decode.specs.declared.instr.Instr.TheVariants as instr
use Rattle.int_step.specs.Values.{wrapped, sum, operand, taken}
use Rattle.cheri_step.specs.declared.memory.MemoryOp.{MemoryOp}
use Rattle.cheri_step.specs.declared.memory.MemoryOp.TheVariants.{Load, Store}
use Rattle.cheri_step.specs.declared.step.StepEnd.{StepEnd}
use Rattle.cheri_step.specs.declared.step.StepEnd.TheVariants.{Next, Call, Fault}
use Rattle.cheri_step.specs.Results.{integer_of, reg_result, imm_result, upper_result, one_result, next_pcc}
use Rattle.cheri_step.specs.Tests.{is_entry, tests_of_target, tests_of_jump, passed}

-- A load or a store: by which authority, at which address, and the registers after it, by what it loads.
pub record Demand : Type 0 where
  pub authority : Cap
  pub address : ℕ
  pub op : MemoryOp
  pub registers : Cap → List Cap

-- An instruction ends so, with these registers and this PCC; or it asks for an access.
pub data Plan : Type 0 where
  ends : StepEnd → List Cap → Cap → Plan
  asks : Demand → Plan

-- the next instruction follows
abbrev pub goes_on : List Cap → Cap → Plan
goes_on registers pcc = ends Next registers (next_pcc pcc)

-- a result is put into a register, and the next instruction follows
abbrev pub gives : List Cap → Cap → ℕ → Cap → Plan
gives registers pcc n result = goes_on (with_register registers n result) pcc

-- the process is killed; registers and PCC stay
abbrev pub faults : List Cap → Cap → Cause → Plan
faults registers pcc cause = ends (Fault cause) registers pcc

-- a capability's address and an immediate, whose sum wraps
abbrev pub displaced : Cap → ℤ → ℕ
displaced cap imm = sum 64 (integer_of cap) (operand imm)

-- the number in so many low bits, with its sign
abbrev pub extended_from : ℕ → Cap → Cap
extended_from width value = from_int (wrapped 64 (signed width (integer_of value)))

-- What a load puts into its register: lb, lh and lw extend the sign, and clc by an authority that may not load capabilities gives
-- no tag.
abbrev pub loaded : LoadOp → Cap → Cap → Cap
loaded load.Lb authority value = extended_from 8 value
loaded load.Lh authority value = extended_from 16 value
loaded load.Lw authority value = extended_from 32 value
loaded load.Clc authority value = if allows authority.bits permit_load_capability then value else record value { tag = false }
loaded _ authority value = value

abbrev pub loads : List Cap → LoadOp → ℕ → Cap → ℤ → Plan
loads registers op n authority imm = asks (record {
  authority = authority;
  address = displaced authority imm;
  op = Load op;
  registers = λ value. with_register registers n (loaded op authority value);
})

-- a store of a capability, or of the low bytes of its integer
abbrev pub stores : List Cap → MemoryOp → Cap → ℤ → Plan
stores registers op authority imm = asks (record {
  authority = authority;
  address = displaced authority imm;
  op = op;
  registers = λ value. registers;
})

-- the way back from a jump: PCC at the next instruction, as a sealed entry
abbrev pub link : Cap → Cap
link pcc = seal_entry (next_pcc pcc)

-- A jump whose tests came to this: the way back is put into a register, and PCC is the capability with the target as its address.
abbrev pub jumps : List Cap → Cap → ℕ → Cap → ℕ → Result (Unit {0}) Cause → Plan
jumps registers pcc n cap target (Ok passes) = ends Next (with_register registers n (link pcc)) (with_address cap target)
jumps registers pcc n cap target (Err cause) = faults registers pcc cause

-- a jump in the bounds of PCC
abbrev pub jumps_by : List Cap → Cap → ℕ → ℤ → Plan
jumps_by registers pcc n imm =
    let target = displaced pcc imm in
    jumps registers pcc n pcc target (passed (tests_of_target pcc target))

-- a branch, which leaves no way back
abbrev pub branches : List Cap → Cap → Bool → ℤ → Plan
branches registers pcc is_taken imm = if is_taken then jumps_by registers pcc 0 imm else goes_on registers pcc

-- a number without its bit 0
abbrev pub even_below : ℕ → ℕ
even_below n = n - n % 2

-- a sealed entry as a plain capability
abbrev pub unsealed : Cap → Cap
unsealed cap = if is_entry cap then unseal_entry cap else cap

-- a jump by a capability of a register
abbrev pub jumps_to : List Cap → Cap → ℕ → Cap → ℤ → Plan
jumps_to registers pcc n cap imm =
    let target = even_below (displaced cap imm) in
    jumps registers pcc n (unsealed cap) target (passed (tests_of_jump cap imm target))

-- The plan of an instruction by its row.
abbrev pub planned : List Cap → Cap → Instr → Plan
planned r pcc (instr.Reg op d s t) = gives r pcc d (reg_result op (register r s) (register r t))
planned r pcc (instr.Imm op d s imm) = gives r pcc d (imm_result op (register r s) imm)
planned r pcc (instr.Upper op d imm) = gives r pcc d (upper_result op pcc imm)
planned r pcc (instr.One op d s) = gives r pcc d (one_result op (register r s))
planned r pcc (instr.Load op d s imm) = loads r op d (register r s) imm
planned r pcc (instr.Store op s t imm) = stores r (Store op (register r t)) (register r s) imm
planned r pcc (instr.Branch op s t imm) = branches r pcc (taken op (integer_of (register r s)) (integer_of (register r t))) imm
planned r pcc (instr.Jal d imm) = jumps_by r pcc d imm
planned r pcc (instr.Jalr d s imm) = jumps_to r pcc d (register r s) imm
planned r pcc instr.Ecall = ends Call r pcc
planned r pcc instr.Ebreak = faults r pcc Breakpoint
planned r pcc instr.Fence = goes_on r pcc
