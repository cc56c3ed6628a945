-- A step at which a slot works: the effect of the work is applied, and all else changes in the clock alone.
use Rattle.std.proofs.Common.{◌≡◌, sym, refl, inl, inr, ℕ, ◌≤◌, ◌<◌, ◌^◌, Option, Some, None, true, false, Bool, subst, arith}
use Rattle.machine.specs.declared.process.Process.{Process}
use Rattle.machine.specs.declared.report.Quantum.{Quantum}
use Rattle.machine.specs.declared.report.WorkEnd.{WorkEnd}
use Rattle.machine.specs.declared.report.WorkEnd.TheVariants.{Plain}
use Rattle.machine.specs.Processes.{process_at, is_live}
use Rattle.machine.specs.Machines.{Clock, Machine, view_of}
use Rattle.machine.specs.Readiness.{next_ready}
use Rattle.machine.specs.Effects.{Deed, Goes, Adds, Removes, Ends, Effect}
use Rattle.machine.specs.Applying.{with_own, done_by, applied, head_of, quantum_of, dispatched, stops, settled_as, settled}
use Rattle.machine.specs.Scanning.{NextIsFirst, OutcomesAreExact}
use Rattle.machine.specs.Shapes.{CanWork, IsEffect}
use Rattle.machine.specs.Steady.{CutsAgree}
use Rattle.machine_steps.specs.Works.{effect_of, work_of}
use Rattle.machine_steps.specs.Steps.{made, three_notes, Step, step_at, step_in, step_next, step_from, step_of}
use Rattle.machine_steps.specs.Laws.{MayStep, WorksAt}

-- two machines with the same processes, descriptors, content, input and forks
pub record HaveSame (m n : Machine) : Type 0 where
  pub processes : n.processes ≡ m.processes
  pub tables : n.tables ≡ m.tables
  pub content : n.content ≡ m.content
  pub input : n.input ≡ m.input
  pub forks : n.forks ≡ m.forks

-- What a step came to in which the process at a slot worked, with this effect.
pub record IsWorked (m : Machine) (slot : ℕ) (p : Process) (e : Effect) (s : Step) : Type 0 where
  pub next : HaveSame (applied m slot p e) s.next
  pub id : s.report.id ≡ p.id
  pub work : s.report.work ≡ work_of p m.content
  pub touches : s.report.touches ≡ three_notes (made e.touches)
  pub end : s.report.end ≡ e.end
  pub printed : s.printed ≡ e.printed
  pub lacks : s.lacks ≡ e.lacks

-- the effect of the work of the process at a slot
abbrev pub effect_at : Machine → ℕ → Process → Effect
effect_at m slot p = effect_of (view_of m slot p) m.content

-- the effects of works are of the shapes
abbrev pub EffectsAreShaped : Type 0
EffectsAreShaped = (m : Machine) (slot : ℕ) (p : Process) → CanWork m slot p → IsEffect m slot p (effect_at m slot p)

-- no deed reads the clock
applied-clock : (m : Machine) (k : Clock) (slot : ℕ) (p : Process) (e : Effect) → applied (record m { clock = k }) slot p e ≡ record (applied m slot p e) { clock = k }
unfolding applied
applied-clock m k slot p e = by e.deed
  where
    by : (deed : Deed) → done_by (with_own (record m { clock = k }) slot e) slot p deed ≡ record (done_by (with_own m slot e) slot p deed) { clock = k }
    by Goes = refl
    by (Adds at child table) = refl
    by (Removes id) = refl
    by (Ends status) = refl

-- the clock settles, and all else stays
settled-same : (m : Machine) (k : Clock) (slot : ℕ) (end : WorkEnd) → HaveSame m (settled (record m { clock = k }) slot end)
unfolding settled
settled-same m k slot end = by (stops (record m { clock = k }) slot end)
  where
    by : (b : Bool) → HaveSame m (settled_as (record m { clock = k }) b)
    by true = record { processes = refl; tables = refl; content = refl; input = refl; forks = refl }
    by false = record { processes = refl; tables = refl; content = refl; input = refl; forks = refl }

-- with any clock, and any dispatch
in-worked : (m : Machine) (k : Clock) (dispatch : Option Quantum) (slot : ℕ) (p : Process) → process_at m.processes slot ≡ Some p → IsWorked m slot p (effect_at m slot p) (step_in (record m { clock = k }) dispatch slot)
unfolding step_in
in-worked m k dispatch slot p there = by (process_at m.processes slot) there
  where
    e : Effect
    e = effect_at m slot p

    same : HaveSame (applied m slot p e) (settled (applied (record m { clock = k }) slot p e) slot e.end)
    same = subst (λ (n : Machine). HaveSame (applied m slot p e) (settled n slot e.end)) (sym (applied-clock m k slot p e)) (settled-same (applied m slot p e) k slot e.end)

    by : (o : Option Process) → o ≡ Some p → IsWorked m slot p e (step_at (record m { clock = k }) dispatch slot o)
    by o is = rw is (record { next = same; id = refl; work = refl; touches = refl; end = refl; printed = refl; lacks = refl })

-- the step of a machine
pub step-worked : (m : Machine) (slot : ℕ) (p : Process) → WorksAt m slot → process_at m.processes slot ≡ Some p → IsWorked m slot p (effect_at m slot p) (step_of m)
unfolding step_of
step-worked m slot p (inl current) there =
    subst (λ (o : Option ℕ). IsWorked m slot p (effect_at m slot p) (step_from m o)) (sym current) (in-worked m m.clock None slot p there)
step-worked m slot p (inr none) there =
    subst (λ (o : Option ℕ). IsWorked m slot p (effect_at m slot p) (step_from m o)) (sym none.0)
    (subst (λ (o : Option ℕ). IsWorked m slot p (effect_at m slot p) (step_next m o)) (sym none.1)
    (in-worked m (dispatched m slot).clock (Some (quantum_of (head_of m.clock.rest))) slot p there))

-- What holds of the ends of all works, and of an idle step, holds of the end that is reported.
pub reported-end : (P : WorkEnd → Type 0) (m : Machine) → P Plain → ((slot : ℕ) (p : Process) → P (effect_at m slot p).end) → P (step_of m).report.end
unfolding step_of step_in
reported-end P m plain all = by m.clock.current
  where
    at : (k : Clock) (dispatch : Option Quantum) (slot : ℕ) (o : Option Process) → P (step_at (record m { clock = k }) dispatch slot o).report.end
    at k dispatch slot None = plain
    at k dispatch slot (Some p) = all slot p

    next : (o : Option ℕ) → P (step_next m o).report.end
    next None = plain
    next (Some slot) = at (dispatched m slot).clock (Some (quantum_of (head_of m.clock.rest))) slot (process_at m.processes slot)

    by : (o : Option ℕ) → P (step_from m o).report.end
    by None = next (next_ready m)
    by (Some slot) = at m.clock None slot (process_at m.processes slot)

-- The slot that works has a live process, in a steady machine.
pub worker : CutsAgree → NextIsFirst → OutcomesAreExact → (m : Machine) (slot : ℕ) → MayStep m → WorksAt m slot → (p : Process) × CanWork m slot p
worker cuts first outcomes m slot may = by
  where
    can : (p : Process) → process_at m.processes slot ≡ Some p → is_live p.state ≡ true → CanWork m slot p
    can p there live =
        let good = cuts.good m may.machine may.sound in
        let few : m.forks ≤ m.clock.steps = good.made in
        let steps : m.clock.steps < 2 ^ 62 = may.steps in
        record { there = there; live = live; steady = good.steady; forks = omega arith }

    by : WorksAt m slot → (p : Process) × CanWork m slot p
    by (inl current) = let is = may.sound.clock.current slot current in (is.process, can is.process is.there is.live)
    by (inr none) = let is = outcomes.live m slot (first.ready m slot none.1) in (is.process, can is.process is.there is.live)

-- and it is the process that stands there
pub can-work : CutsAgree → NextIsFirst → OutcomesAreExact → (m : Machine) (slot : ℕ) (p : Process) → MayStep m → WorksAt m slot → process_at m.processes slot ≡ Some p → CanWork m slot p
can-work cuts first outcomes m slot p may works there =
    let w = worker cuts first outcomes m slot may works in
    let here : process_at m.processes slot ≡ Some w.0 = w.1.there in
    let same : w.0 ≡ p = cc in
    subst (CanWork m slot) same w.1
