-- The effect of the instruction at PCC.
use Rattle.std.specs.Prelude.{ℕ, ◌≡◌, Result, Ok, Err, Some, None, Option, List}
use Rattle.cap_format.specs.declared.cap.Cap.{Cap}
use Rattle.cap_format.specs.Code.{IsCode}
use Rattle.machine_types.specs.declared.cause.Cause.{Cause}
use Rattle.machine_types.specs.declared.cause.Cause.TheVariants.{BadInstruction}
use Rattle.machine_types.specs.declared.touches.Note.{Note}
use Rattle.machine_types.specs.Registers.{IsRegisterFile}
use Rattle.riscv_decode.specs.declared.instr.Instr.{Instr}
use Rattle.riscv_decode.specs.Decoded.{decoded}
use Rattle.contents.specs.Content.{Content}
use Rattle.contents.specs.Accesses.{untouched}
use Rattle.contents.specs.Conditions.{HasStore}
use Rattle.contents.specs.Having.{MayHave, RegistersMayHave}
use Rattle.cheri_step.specs.declared.step.StepEnd.{StepEnd}
use Rattle.cheri_step.specs.declared.step.StepEnd.TheVariants.{Next, Fault}
use Rattle.cheri_step.specs.declared.step.Stepped.{Stepped}
use Rattle.cheri_step.specs.declared.step.Worked.{Worked}
use Rattle.cheri_step.specs.Results.{next_pcc}
use Rattle.cheri_step.specs.Access.{access_of, code_of}
use Rattle.cheri_step.specs.Plans.{Plan, ends, asks, faults, planned}

-- what an instruction reads and changes: the registers, PCC, and the content of the space
pub record State : Type 0 where
  pub registers : List Cap
  pub pcc : Cap
  pub content : Content

abbrev pub state : List Cap → Cap → Content → State
state registers pcc content = record { registers = registers; pcc = pcc; content = content }

-- how an instruction ended, what it left, and the touch of its load or store
pub record Work : Type 0 where
  pub end : StepEnd
  pub after : State
  pub touched : Note

-- a load or a store was made, or not
abbrev pub performed : State → (Cap → List Cap) → Content → Result (Cap × Note) Cause → Work
performed s registers after (Ok a) = record { end = Next; after = state (registers a.0) (next_pcc s.pcc) after; touched = a.1 }
performed s registers after (Err cause) = record { end = Fault cause; after = state s.registers s.pcc after; touched = untouched }

-- what a plan comes to
abbrev pub carried_out : State → ℕ → Plan → Work
carried_out s region (ends end registers pcc) = record { end = end; after = state registers pcc s.content; touched = untouched }
carried_out s region (asks d) =
    let o = access_of s.content region d.authority d.address d.op in
    performed s d.registers o.after o.answer

-- a word without a row is no instruction
abbrev pub plan_of : State → Option Instr → Plan
plan_of s (Some instr) = planned s.registers s.pcc instr
plan_of s None = faults s.registers s.pcc BadInstruction

abbrev pub work_of : State → ℕ → ℕ → Work
work_of s region word = carried_out s region (plan_of s (decoded word))

-- How the instruction at PCC ended, its word where one was fetched, what it left, and the touches of the fetch and of its load or
-- store.
pub record Effect : Type 0 where
  pub end : StepEnd
  pub word : Option ℕ
  pub after : State
  pub fetched : Note
  pub touched : Note

-- The word is executed in what the fetch left.
abbrev pub executed : ℕ × Note → Work → Effect
executed f w = record { end = w.end; word = Some f.0; after = w.after; fetched = f.1; touched = w.touched }

abbrev pub fetch_then : State → ℕ → Content → Result (ℕ × Note) Cause → Effect
fetch_then s region after (Ok f) = executed f (work_of (state s.registers s.pcc after) region f.0)
fetch_then s region after (Err cause) = record { end = Fault cause; word = None; after = state s.registers s.pcc after; fetched = untouched; touched = untouched }

-- What the instruction at PCC does, for a process of this region.
unfoldable pub effect : State → ℕ → Effect
effect s region =
    let o = code_of s.content region s.pcc in
    fetch_then s region o.after o.answer

-- The registers are a register file, PCC is code, and PCC and each register are what a process of the region may have, which has a
-- store.
pub record CanStep (region : ℕ) (registers : List Cap) (pcc : Cap) (c : Content) : Type 0 where
  pub store : HasStore region c
  pub code : IsCode pcc
  pub file : IsRegisterFile registers
  pub counter : MayHave c region pcc
  pub registers_held : RegistersMayHave c region registers

-- the work came about, over a space that stands for the content after it
pub record HasWork (w : Work) (result : Worked) (registers : List Cap) (pcc : Cap) (stands : Content → Type 0) : Type 0 where
  pub worked : result ≡ record { end = w.end; touched = w.touched }
  pub registers_are : registers ≡ w.after.registers
  pub pcc_is : pcc ≡ w.after.pcc
  pub content : stands w.after.content

-- the effect came about, over such a space
pub record HasEffect (e : Effect) (result : Stepped) (registers : List Cap) (pcc : Cap) (stands : Content → Type 0) : Type 0 where
  pub stepped : result ≡ record { end = e.end; word = e.word; fetched = e.fetched; touched = e.touched }
  pub registers_are : registers ≡ e.after.registers
  pub pcc_is : pcc ≡ e.after.pcc
  pub content : stands e.after.content
