-- What one work of a process comes to: an instruction, which may be a call, or a call that is underway.
use Rattle.std.specs.Prelude.{ℕ, ◌==◌, Bool, Option, [], ◌∷◌}
use Rattle.cap_format.specs.Pattern.{address_of}
use Rattle.machine_types.specs.declared.cause.Cause.{Cause}
use Rattle.machine_types.specs.declared.cause.Cause.TheVariants as cause
use Rattle.machine_types.specs.Causes.{cause_number}
use Rattle.contents.specs.Content.{Content}
use Rattle.cheri_step.specs.declared.step.StepEnd.{StepEnd}
use Rattle.cheri_step.specs.declared.step.StepEnd.TheVariants.{Next, Call, Fault}
use Rattle.cheri_step.specs.Effect.{state, effect}
use Rattle.cheri_step.specs.Effect as instruction
use Rattle.machine.specs.declared.process.Process.{Process}
use Rattle.machine.specs.declared.process.State.{State}
use Rattle.machine.specs.declared.process.State.TheVariants.{Ready, InRead, InWrite, InWait, Zombie}
use Rattle.machine.specs.declared.report.WorkEnd.TheVariants.{Plain}
use Rattle.machine.specs.declared.report.Work.{Work}
use Rattle.machine.specs.declared.report.Work.TheVariants.{Instr, Resume}
use Rattle.machine.specs.Machines.{View}
use Rattle.machine.specs.Effects.{Effect, works, killed}
use Rattle.machine.specs.Calls.{called}

-- the instruction at PCC of a process
abbrev pub instruction_of : Process → Content → instruction.Effect
instruction_of p c = effect (state p.regs p.pcc c) p.region

-- a touch found no frame
abbrev pub is_lack : Cause → Bool
is_lack c = cause_number c == cause_number cause.NoFrame

-- An instruction that is done goes on; an ecall is a call, after the touch that its fetch made; and a fault kills the process.
abbrev pub instructed : View → instruction.Effect → StepEnd → Effect
instructed v i Next = works (record v.process { regs = i.after.registers; pcc = i.after.pcc }) i.after.content (i.fetched ∷ i.touched ∷ []) Plain
instructed v i Call = let e = called v i.after.content in record e { touches = i.fetched ∷ e.touches }
instructed v i (Fault c) = killed v i.after.content (i.fetched ∷ i.touched ∷ []) c (is_lack c)

-- A process in the state of being ready makes an instruction; one in another state goes on with its call, without a fetch.
abbrev pub effect_as : View → Content → State → Effect
effect_as v c Ready = let i = instruction_of v.process c in instructed v i i.end
effect_as v c InRead = called v c
effect_as v c (InWrite done) = called v c
effect_as v c InWait = called v c
effect_as v c (Zombie status) = called v c

unfoldable pub effect_of : View → Content → Effect
effect_of v c = effect_as v c v.process.state

-- what a step says that it worked on
abbrev pub work_as : Process → Option ℕ → State → Work
work_as p word Ready = Instr (address_of p.pcc.bits) word
work_as p word InRead = Resume (address_of p.pcc.bits)
work_as p word (InWrite done) = Resume (address_of p.pcc.bits)
work_as p word InWait = Resume (address_of p.pcc.bits)
work_as p word (Zombie status) = Resume (address_of p.pcc.bits)

abbrev pub work_of : Process → Content → Work
work_of p c = work_as p (instruction_of p c).word p.state
