-- What the code of an access asks and promises.
use Rattle.std.specs.Prelude.{ℕ, ◌≡◌, ◌≤◌, ◌<◌, ◌+◌, ◌%◌, ◌^◌, Bool, true, false, IsTrue, pos, ◌≤ℤ◌, Result, Ok, Err, List, [], ◌∷◌}
use Rattle.cap_format.specs.Numbers.{region_bytes}
use Rattle.cap_format.specs.declared.cap.Cap.{Cap}
use Rattle.cap_format.specs.Pattern.{address_of, kind_of, base_of, top_of}
use Rattle.cap_format.specs.Region.{region_start}
use Rattle.cap_format.specs.Rights.{holds}
use Rattle.cap_format.specs.Code.{IsCode}
use Rattle.machine_types.specs.Held.{MayHold}
use Rattle.machine_types.specs.declared.cause.Cause.{Cause}
use Rattle.machine_types.specs.declared.touches.Note.{Note}
use Rattle.cheri_step.specs.declared.memory.MemoryOp.{MemoryOp}
use Rattle.cheri_step.specs.declared.memory.MemoryOp.TheVariants.{Load, Store}
use Rattle.riscv_decode.specs.declared.instr.Instr.{Instr}
use Rattle.riscv_decode.specs.declared.instr.Instr.TheVariants as instr
use Rattle.cheri_step.specs.Tests.{size_of}

-- what is stored is inside the region where it is tagged
abbrev pub MayStore : ℕ → MemoryOp → Type 0
MayStore region (Load op) = Unit {0}
MayStore region (Store op value) = MayHold region value

-- the bytes lie in the region, at a multiple of their number
pub record IsPlaceFor (region address : ℕ) (op : MemoryOp) : Type 0 where
  pub from : region_start region ≤ address
  pub to : address + size_of op ≤ region_start region + region_bytes
  pub aligned : address % size_of op ≡ 0

-- the notes of an access
abbrev pub notes_of_access : {A : Type 0} → Result (A × Note) Cause → List Note
notes_of_access (Ok a) = a.1 ∷ []
notes_of_access (Err cause) = []

-- it is a load or a store
abbrev pub is_access : Instr → Bool
is_access (instr.Load op d s imm) = true
is_access (instr.Store op s t imm) = true
is_access _ = false

-- A tagged plain capability whose bounds hold an address, or end there: with this address it has its tag and its bounds.
pub record MayStandAt (cap : Cap) (address : ℕ) : Type 0 where
  pub tagged : IsTrue cap.tag
  pub plain : kind_of cap.bits ≡ 0
  pub from : base_of cap.bits ≤ℤ pos address
  pub to : pos address ≤ℤ top_of cap.bits

-- PCC may go on: it is code, its four bytes lie in its bounds, and the address of the next instruction doesn't wrap.
pub record MayGoOn (pcc : Cap) : Type 0 where
  pub code : IsCode pcc
  pub held : IsTrue (holds pcc.bits (address_of pcc.bits) 4)
  pub fits : address_of pcc.bits + 4 < 2 ^ 64
