-- The work of a step, over a world and a space.
use Rattle.std.specs.Prelude.{ℕ, ◌≡◌, Bool, true, false, Some, length, take}
use Rattle.cap_format.specs.Pattern.{address_of}
use Rattle.machine_types.specs.declared.touches.Note.{Note}
use Rattle.machine_types.specs.declared.touches.Touched.{Touched}
use Rattle.machine_types.specs.declared.touches.Touched.TheVariants.{No, Copied, Moved}
use Rattle.contents.specs.Content.{Content}
use Rattle.cheri_step.specs.declared.step.Stepped.{Stepped}
use Rattle.cheri_step.specs.Effect as instruction
use Rattle.machine.specs.declared.process.Process.{Process}
use Rattle.machine.specs.declared.process.State.{State}
use Rattle.machine.specs.declared.process.State.TheVariants.{Ready, InRead, InWrite, InWait, Zombie}
use Rattle.machine.specs.Machines.{Machine}
use Rattle.machine.specs.Effects.{Effect}
use Rattle.machine.specs.Applying.{applied}
use Rattle.machine_steps.specs.Works.{work_of}
use Rattle.machine_steps.specs.Steps.{made, three_notes}
use Rattle.process_table.specs.Tables.{Table, with_slot}
use Rattle.trap_syscalls.specs.declared.world.World.{World}
use Rattle.trap_syscalls.specs.Worlds.{IsWorldOf, IsLiveAt}
use Rattle.kernel_loop.specs.declared.work.Seen.{Seen}
use Rattle.kernel_loop.specs.declared.work.Worked.{Worked}

-- it makes instructions, and does not go on with a call
abbrev pub is_making : State → Bool
is_making Ready = true
is_making InRead = false
is_making (InWrite done) = false
is_making InWait = false
is_making (Zombie status) = false

-- what a step sees of its process
abbrev pub seen_of : Process → Seen
seen_of p = record { id = p.id; pc = address_of p.pcc.bits; ready = is_making p.state }

-- a touch was made
abbrev pub is_made_as : Touched → Bool
is_made_as No = false
is_made_as Copied = true
is_made_as Moved = true

abbrev pub is_touch : Note → Bool
is_touch note = is_made_as note.touched

-- the process of the slot may work: it is live
abbrev pub MayWork : ℕ → Machine → Type 0
MayWork slot m = IsLiveAt slot m

-- The instruction of the process of a slot came about, over a space that stands for the content after it.
pub record HasStepped (old : Table) (slot : ℕ) (p : Process) (i : instruction.Effect) (result : Stepped) (new : Table) (stands : Content → Type 0) : Type 0 where
  pub stepped : result ≡ record { end = i.end; word = i.word; fetched = i.fetched; touched = i.touched }
  pub process : new ≡ with_slot old slot (Some (record p { regs = i.after.registers; pcc = i.after.pcc }))
  pub content : stands i.after.content

-- The effect of a work came about: the world is that of the machine to which it was applied, and what the work came to is said of it.
pub record HasWorked (m : Machine) (slot : ℕ) (p : Process) (e : Effect) (result : Worked) (w : World) : Type 0 where
  pub world : IsWorldOf (applied m slot p e) w
  pub id : result.id ≡ p.id
  pub work : result.work ≡ work_of p m.content
  pub touches : result.touches ≡ three_notes (made e.touches)
  pub printed : result.printed ≡ length e.printed
  pub piece : take result.printed w.buffer.items ≡ e.printed
  pub end : result.end ≡ e.end
