-- One step: a dispatch where no slot is current, then one work of the current process, and then the clock settles.
use Rattle.std.specs.Prelude.{ℕ, zero, suc, false, Bool, Option, Some, None, List, [], ◌∷◌, length}
use Rattle.machine_types.specs.declared.touches.Note.{Note}
use Rattle.machine_types.specs.declared.touches.Touched.{Touched}
use Rattle.machine_types.specs.declared.touches.Touched.TheVariants.{No, Copied, Moved}
use Rattle.contents.specs.Accesses.{untouched}
use Rattle.machine.specs.declared.process.Process.{Process}
use Rattle.machine.specs.declared.report.Quantum.{Quantum}
use Rattle.machine.specs.declared.report.Work.TheVariants.{Resume}
use Rattle.machine.specs.declared.report.WorkEnd.TheVariants.{Plain}
use Rattle.machine.specs.declared.report.StepReport.{StepReport}
use Rattle.machine.specs.Processes.{process_at}
use Rattle.machine.specs.Machines.{Machine, view_of}
use Rattle.machine.specs.Readiness.{next_ready}
use Rattle.machine.specs.Effects.{Effect}
use Rattle.machine.specs.Applying.{applied, head_of, dispatched, quantum_of, settled}
use Rattle.machine_steps.specs.Works.{effect_of, work_of}

-- the touches that were made, in their order
abbrev pub made_before : Note → Touched → List Note → List Note
made_before note No notes = notes
made_before note Copied notes = note ∷ notes
made_before note Moved notes = note ∷ notes

abbrev pub made : List Note → List Note
made [] = []
made (note ∷ notes) = made_before note note.touched (made notes)

-- and then none, in three places: the fetch makes one at most, and a transfer two
abbrev pub three_notes : List Note → List Note
three_notes [] = untouched ∷ untouched ∷ untouched ∷ []
three_notes (a ∷ []) = a ∷ untouched ∷ untouched ∷ []
three_notes (a ∷ b ∷ []) = a ∷ b ∷ untouched ∷ []
three_notes (a ∷ b ∷ c ∷ rest) = a ∷ b ∷ c ∷ []

-- The machine after a step, its report, the piece that it printed, and whether it lacked a frame: a touch found none, or a fork was refused for
-- them.
pub record Step : Type 0 where
  pub next : Machine
  pub report : StepReport
  pub printed : List ℕ
  pub lacks : Bool

abbrev pub report_of : Machine → Option Quantum → ℕ → Process → Effect → StepReport
report_of m dispatch slot p e = record {
  id = p.id;
  slot = slot;
  dispatch = dispatch;
  work = work_of p m.content;
  touches = three_notes (made e.touches);
  printed = length e.printed;
  end = e.end;
}

-- an effect is applied, and the clock settles
abbrev pub stepped : Machine → Option Quantum → ℕ → Process → Effect → Step
stepped m dispatch slot p e = record { next = settled (applied m slot p e) slot e.end; report = report_of m dispatch slot p e; printed = e.printed; lacks = e.lacks }

-- where no process can work, nothing is done
abbrev pub idle : Machine → Step
idle m = record {
  next = m;
  report = record { id = 0; slot = 0; dispatch = None; work = Resume 0; touches = three_notes []; printed = 0; end = Plain };
  printed = [];
  lacks = false;
}

-- a step of the process at a slot
abbrev pub step_at : Machine → Option Quantum → ℕ → Option Process → Step
step_at m dispatch slot None = idle m
step_at m dispatch slot (Some p) = stepped m dispatch slot p (effect_of (view_of m slot p) m.content)

unfoldable pub step_in : Machine → Option Quantum → ℕ → Step
step_in m dispatch slot = step_at m dispatch slot (process_at m.processes slot)

-- after a dispatch of the next slot, and from the current slot
abbrev pub step_next : Machine → Option ℕ → Step
step_next m None = idle m
step_next m (Some slot) = step_in (dispatched m slot) (Some (quantum_of (head_of m.clock.rest))) slot

abbrev pub step_from : Machine → Option ℕ → Step
step_from m None = step_next m (next_ready m)
step_from m (Some slot) = step_in m None slot

unfoldable pub step_of : Machine → Step
step_of m = step_from m m.clock.current

-- the machine after so many steps
unfoldable pub state : Machine → ℕ → Machine
state m zero = m
state m (suc k) = (step_of (state m k)).next
