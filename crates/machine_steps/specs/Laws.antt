-- Laws of steps.
use Rattle.std.specs.Prelude.{ℕ, ◌≡◌, ◌≢◌, ◌≤◌, ◌<◌, ◌+◌, ◌-◌, ◌^◌, ◌⊎◌, true, false, Some, None, All, length}
use Rattle.cap_format.specs.Image.{IsImage}
use Rattle.machine_types.specs.MemoryLaws.{AreBytes}
use Rattle.machine_types.specs.declared.config.Rule.TheVariants.{Full}
use Rattle.machine_types.specs.declared.config.Outcome.TheVariants.{Running}
use Rattle.contents.specs.Content.{free_frames}
use Rattle.contents.specs.Regions.{numbers_in}
use Rattle.contents.specs.Agreeing.{HaveSameStores}
use Rattle.elf_loader.specs.Loaded.{image_of}
use Rattle.machine.specs.declared.process.Process.{Process}
use Rattle.machine.specs.declared.report.WorkEnd.TheVariants.{Ended}
use Rattle.machine.specs.Numbers.{fork_call, number_register}
use Rattle.machine.specs.Processes.{process_at, is_live, integer}
use Rattle.machine.specs.Pipes.{table_at}
use Rattle.machine.specs.Machines.{Machine, view_of}
use Rattle.machine.specs.Readiness.{next_ready, outcome_of}
use Rattle.machine.specs.Applying.{head_of, tail_of, quantum_of}
use Rattle.machine.specs.Shape.{IsConfig, IsMachine}
use Rattle.machine.specs.Sound.{CapabilitiesAreInside, AccountIsExact, IdsAreExact, NumbersAreInRange, FullIsAlone, ClockIsRight, CallsAreUnderway, Sound, IsQuantum}
use Rattle.machine.specs.Steady.{IsGood}
use Rattle.machine.specs.Shapes.{CanWork, IsEffect}
use Rattle.machine.specs.Isolation.{IsUntouched}
use Rattle.contents.specs.Laws.{AreAlike}
use Rattle.machine_steps.specs.Numbers.{step_limit}
use Rattle.machine_steps.specs.Works.{effect_of}
use Rattle.machine_steps.specs.Steps.{Step, step_of, state}
use Rattle.machine_steps.specs.Runs.{Setup, start, quanta_of, EndsAfter}

-- A sound machine that has made fewer steps than the limit, so that ids stay in range.
pub record MayStep (m : Machine) : Type 0 where
  pub machine : IsMachine m
  pub sound : Sound m
  pub steps : m.clock.steps < step_limit

-- The work of a live process in a sound machine, an instruction or a call, has an effect of one of the shapes.
abbrev pub WorksAreEffects : Type 0
WorksAreEffects = (m : Machine) (slot : ℕ) (p : Process) → CanWork m slot p → IsEffect m slot p (effect_of (view_of m slot p) m.content)

-- Each step keeps all that makes a machine sound, in the cut by which it is proved.
abbrev pub StepsStayGood : Type 0
StepsStayGood = (m : Machine) → m.clock.steps < step_limit → IsGood m → IsGood (step_of m).next

-- Each part of soundness is kept by every step, from all of them before it.
abbrev pub CapabilitiesStayInside : Type 0
CapabilitiesStayInside = (m : Machine) → MayStep m → let n = (step_of m).next in CapabilitiesAreInside (process_at n.processes) n.content

abbrev pub AccountsStayExact : Type 0
AccountsStayExact = (m : Machine) → MayStep m → AccountIsExact (step_of m).next.content

abbrev pub IdsStayExact : Type 0
IdsStayExact = (m : Machine) → MayStep m → let n = (step_of m).next in IdsAreExact (process_at n.processes) n.forks

abbrev pub NumbersStayInRange : Type 0
NumbersStayInRange = (m : Machine) → MayStep m → let n = (step_of m).next in NumbersAreInRange (process_at n.processes) n.content n.config.regions n.forks n.clock.steps

abbrev pub FullStaysAlone : Type 0
FullStaysAlone = (m : Machine) → MayStep m → FullIsAlone (step_of m).next.content

abbrev pub ClocksStayRight : Type 0
ClocksStayRight = (m : Machine) → MayStep m → ClockIsRight (step_of m).next

abbrev pub CallsStayUnderway : Type 0
CallsStayUnderway = (m : Machine) → MayStep m → let n = (step_of m).next in CallsAreUnderway (process_at n.processes) n.tables n.content

-- What a step leaves is a machine.
abbrev pub MachinesStayMachines : Type 0
MachinesStayMachines = (m : Machine) → MayStep m → IsMachine (step_of m).next

-- A setup whose image may be started: its configuration is within the limits, the file is an image with no more pages than frames, its quanta are
-- in range, and its input are bytes.
pub record MayBoot (setup : Setup) : Type 0 where
  pub config : IsConfig setup.config
  pub image : IsImage setup.file
  pub bytes : AreBytes setup.file
  pub room : (image_of setup.file).pages ≤ setup.config.frames
  pub schedule : All IsQuantum (quanta_of setup.schedule)
  pub input : AreBytes setup.input

-- The starting machine is a sound one, and so is the machine after each step of a run.
pub record RunsAreSound : Type 0 where
  pub start_machine : (setup : Setup) → MayBoot setup → IsMachine (start setup)
  pub start_sound : (setup : Setup) → MayBoot setup → Sound (start setup)
  pub machine : (setup : Setup) (k : ℕ) → MayBoot setup → k < step_limit → IsMachine (state (start setup) k)
  pub sound : (setup : Setup) (k : ℕ) → MayBoot setup → k < step_limit → Sound (state (start setup) k)

-- the slot at which a step works: the current one, or the next ready one
abbrev pub WorksAt : Machine → ℕ → Type 0
WorksAt m slot = (m.clock.current ≡ Some slot) ⊎ ((m.clock.current ≡ None) × (next_ready m ≡ Some slot))

-- Where a machine runs, some slot works, and it is one of a live process: the current slot, or the ready one that comes next. A dispatch takes the next
-- number of the schedule, and is reported; else none is. The slot dispatched last is the one that works, one step more is made, and the report
-- names the process.
pub record IsDispatched (m : Machine) (slot : ℕ) (p : Process) (s : Step) : Type 0 where
  pub there : process_at m.processes slot ≡ Some p
  pub live : is_live p.state ≡ true
  pub id : s.report.id ≡ p.id
  pub slot_is : s.report.slot ≡ slot
  pub last : s.next.clock.last ≡ slot
  pub steps : s.next.clock.steps ≡ m.clock.steps + 1
  pub taken : m.clock.current ≡ None → (s.report.dispatch ≡ Some (quantum_of (head_of m.clock.rest))) × (s.next.clock.rest ≡ tail_of m.clock.rest)
  pub kept : m.clock.current ≢ None → (s.report.dispatch ≡ None) × (s.next.clock.rest ≡ m.clock.rest)

pub record DispatchesAreNext : Type 0 where
  pub works : (m : Machine) → MayStep m → outcome_of m ≡ Running → (slot : ℕ) × WorksAt m slot
  pub dispatched : (m : Machine) (slot : ℕ) → MayStep m → WorksAt m slot → (p : Process) × IsDispatched m slot p (step_of m)

-- the process of a step ended in it, and was the parent of the other one
abbrev pub Parts : Step → Process → Type 0
Parts s q = (q.parent ≡ s.report.id) × ((status : ℕ) × (s.report.end ≡ Ended status))

-- A step leaves the store, registers, PCC, descriptors and state of every other process that was live. Its parent is 0 then where the step
-- ended that parent, and stays else.
pub record OthersStayUntouched : Type 0 where
  pub parted : (m : Machine) (slot k : ℕ) (q : Process) → MayStep m → WorksAt m slot → k ≢ slot → process_at m.processes k ≡ Some q → is_live q.state ≡ true
      → Parts (step_of m) q → IsUntouched m (step_of m).next k q true
  pub kept : (m : Machine) (slot k : ℕ) (q : Process) → MayStep m → WorksAt m slot → k ≢ slot → process_at m.processes k ≡ Some q → is_live q.state ≡ true
      → (Parts (step_of m) q → ⊥) → IsUntouched m (step_of m).next k q false

-- Two sound machines with one configuration whose process at a slot sees the same: its view, its store and the account.
pub record SeeAlike (m n : Machine) (slot : ℕ) (p : Process) : Type 0 where
  pub config : n.config ≡ m.config
  pub first : process_at m.processes slot ≡ Some p
  pub second : process_at n.processes slot ≡ Some p
  pub view : view_of n slot p ≡ view_of m slot p
  pub content : AreAlike p.region m.content n.content

-- what a step made of its own process: the slot, its descriptors, the store of its region, the account, the input, the forks, the piece printed and
-- how its work ended
pub record MakeAlike (s t : Step) (slot region : ℕ) : Type 0 where
  pub process : process_at t.next.processes slot ≡ process_at s.next.processes slot
  pub table : table_at t.next.tables slot ≡ table_at s.next.tables slot
  pub content : AreAlike region s.next.content t.next.content
  pub input : t.next.input ≡ s.next.input
  pub forks : t.next.forks ≡ s.next.forks
  pub printed : t.printed ≡ s.printed
  pub work : t.report.work ≡ s.report.work
  pub touches : t.report.touches ≡ s.report.touches
  pub end : t.report.end ≡ s.report.end

-- What a step makes of its own process is a function of its view, its store, the configuration and the account.
abbrev pub OwnViewDecides : Type 0
OwnViewDecides = (m n : Machine) (slot : ℕ) (p : Process) → MayStep m → MayStep n → WorksAt m slot → WorksAt n slot → SeeAlike m n slot p → MakeAlike (step_of m) (step_of n) slot p.region

-- Two machines that differ in the copy rule, and in the account of their contents, alone; their stores are the same.
pub record MachinesAgree (m n : Machine) : Type 0 where
  pub rest : n ≡ record m { config = n.config; content = n.content }
  pub config : n.config ≡ record m.config { rule = n.config.rule }
  pub stores : HaveSameStores m.content n.content

-- Their steps: the pieces are one, the reports differ in touches alone, and the machines again in rule and account alone.
pub record StepsAgree (s t : Step) : Type 0 where
  pub next : MachinesAgree s.next t.next
  pub report : t.report ≡ record s.report { touches = t.report.touches }
  pub printed : t.printed ≡ s.printed

-- Machines that differ in rule and account alone make steps that agree, where neither lacks a frame.
abbrev pub RulesAgreeOnSteps : Type 0
RulesAgreeOnSteps = (m n : Machine) → MachinesAgree m n → (step_of m).lacks ≡ false → (step_of n).lacks ≡ false → StepsAgree (step_of m) (step_of n)

-- Under `full` a step lacks a frame only where it is a fork for which fewer frames are free than the caller has pages, and no process ends for want
-- of one.
pub record FullNeverLacks : Type 0 where
  pub forks : (m : Machine) (slot : ℕ) (p : Process) → MayStep m → WorksAt m slot → process_at m.processes slot ≡ Some p → m.config.rule ≡ Full → (step_of m).lacks ≡ true
      → (integer p number_register ≡ fork_call) × (free_frames m.content < length (numbers_in (m.content.stores p.region)))
  pub lives : (m : Machine) → MayStep m → m.config.rule ≡ Full → (step_of m).report.end ≢ Ended 268

-- Each run has an end, and one alone, after no more steps than the limit leaves.
pub record RunsEnd : Type 0 where
  pub some : (m : Machine) (limit : ℕ) → MayStep m → limit < step_limit → (k : ℕ) × (EndsAfter limit m k × (k ≤ limit - m.clock.steps))
  pub one : (m : Machine) (limit j k : ℕ) → EndsAfter limit m j → EndsAfter limit m k → j ≡ k
