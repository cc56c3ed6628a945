-- Each step keeps what makes a machine sound.
use Rattle.std.proofs.Common.{◌≡◌, ◌∙◌, sym, ap, refl, ℕ, ◌+◌, ◌^◌, ◌≤◌, ◌<◌, Option, Some, None, length, true, subst, arith}
use Rattle.machine_types.specs.declared.config.Config.{Config}
use Rattle.machine.specs.declared.process.Process.{Process}
use Rattle.machine.specs.declared.report.Quantum.{Quantum}
use Rattle.machine.specs.Processes.{process_at, is_live}
use Rattle.machine.specs.Machines.{Clock, Machine, view_of}
use Rattle.machine.specs.Readiness.{next_ready}
use Rattle.machine.specs.Effects.{Effect}
use Rattle.machine.specs.Applying.{applied, head_of, quantum_of, dispatched}
use Rattle.machine.specs.Shape.{IsMachine}
use Rattle.machine.specs.Shapes.{CanWork, EffectsStaySteady}
use Rattle.machine.specs.Sound.{Sound}
use Rattle.machine.specs.Scanning.{LivesAt, NextIsFirst, OutcomesAreExact}
use Rattle.machine.specs.Steady.{IsSteady, IsGood, CutsAgree}
use Rattle.machine_steps.specs.Works.{effect_of}
use Rattle.machine_steps.specs.Steps.{Step, stepped, step_at, step_in, step_next, step_from, step_of, idle}
use Rattle.machine_steps.specs.Laws.{MayStep, WorksAreEffects}
use Rattle.machine_steps.proofs.Clocks.{IsTimed, slot-within, first-quantum, later-quanta, IsApplied, applied-shape, steady-clock, settled-good}

-- the laws that a step goes by
pub record StepLaws : Type 0 where
  pub works : WorksAreEffects
  pub steady : EffectsStaySteady
  pub next : NextIsFirst
  pub outcomes : OutcomesAreExact
  pub cuts : CutsAgree

-- What a step is.

-- one of the process at a slot
pub step-in-at : (m : Machine) (dispatch : Option Quantum) (slot : ℕ) (p : Process) → process_at m.processes slot ≡ Some p
    → step_in m dispatch slot ≡ stepped m dispatch slot p (effect_of (view_of m slot p) m.content)
unfolding step_in
step-in-at m dispatch slot p there = ap (step_at m dispatch slot) there

-- of the current slot
pub step-current : (m : Machine) (slot : ℕ) → m.clock.current ≡ Some slot → step_of m ≡ step_in m None slot
unfolding step_of
step-current m slot e = ap (step_from m) e

-- of the next one
pub step-dispatched : (m : Machine) (slot : ℕ) → m.clock.current ≡ None → next_ready m ≡ Some slot → step_of m ≡ step_in (dispatched m slot) (Some (quantum_of (head_of m.clock.rest))) slot
unfolding step_of
step-dispatched m slot none e = ap (step_from m) none ∙ ap (step_next m) e

-- or none
pub step-idle : (m : Machine) → m.clock.current ≡ None → next_ready m ≡ None → step_of m ≡ idle m
unfolding step_of
step-idle m none e = ap (step_from m) none ∙ ap (step_next m) e

module _ (laws : StepLaws) where
  -- the work of a live process at the slot that was dispatched
  worked-good : (m : Machine) (dispatch : Option Quantum) (slot : ℕ) (p : Process) → IsSteady m → IsTimed m.clock slot → m.forks ≤ m.clock.steps → m.clock.steps < 2 ^ 62 → process_at m.processes slot ≡ Some p → is_live p.state ≡ true
      → IsGood (stepped m dispatch slot p (effect_of (view_of m slot p) m.content)).next
  worked-good m dispatch slot p steady timed made few there live = settled-good laws.outcomes n slot e.end after (subst (λ (c : Clock). IsTimed c slot) (sym shape.clock) timed) within forks
    where
      e : Effect
      e = effect_of (view_of m slot p) m.content

      n : Machine
      n = applied m slot p e

      can : CanWork m slot p
      can = record { there = there; live = live; steady = steady; forks = omega arith }

      after : IsSteady n
      after = laws.steady m slot p e can (laws.works m slot p can)

      shape : IsApplied m n
      shape = applied-shape m slot p e

      within : slot < length n.processes
      within =
          let low = slot-within m.processes slot p there in
          let before : length m.processes ≡ m.config.slots = steady.configured.processes in
          let long : length n.processes ≡ n.config.slots = after.configured.processes in
          let same : n.config.slots ≡ m.config.slots = ap (λ (k : Config). k.slots) shape.config in
          omega (arith, low, before, long, same)

      forks : n.forks ≤ n.clock.steps + 1
      forks =
          let more = shape.forks in
          let same : n.clock.steps ≡ m.clock.steps = ap (λ (c : Clock). c.steps) shape.clock in
          omega (arith, more, same)

  -- a step at such a slot
  step-in-good : (m : Machine) (dispatch : Option Quantum) (slot : ℕ) → IsSteady m → IsTimed m.clock slot → m.forks ≤ m.clock.steps → m.clock.steps < 2 ^ 62 → LivesAt m.processes slot → IsGood (step_in m dispatch slot).next
  step-in-good m dispatch slot steady timed made few lives =
      subst (λ (s : Step). IsGood s.next) (sym (step-in-at m dispatch slot lives.process lives.there)) (worked-good m dispatch slot lives.process steady timed made few lives.there lives.live)

  -- Each step keeps what makes a machine sound.
  pub step-good : (m : Machine) → m.clock.steps < 2 ^ 62 → IsGood m → IsGood (step_of m).next
  step-good m few good = by m.clock.current refl
    where
      by-next : m.clock.current ≡ None → (o : Option ℕ) → next_ready m ≡ o → IsGood (step_of m).next
      by-next none None e = subst (λ (s : Step). IsGood s.next) (sym (step-idle m none e)) good
      by-next none (Some slot) e =
          let lives = laws.outcomes.live m slot (laws.next.ready m slot e) in
          let timed : IsTimed (dispatched m slot).clock slot = record { current = refl; last = refl; quantum = first-quantum m.clock.rest good.clock.rest; rest = later-quanta m.clock.rest good.clock.rest } in
          subst (λ (s : Step). IsGood s.next) (sym (step-dispatched m slot none e))
          (step-in-good (dispatched m slot) (Some (quantum_of (head_of m.clock.rest))) slot (steady-clock m (dispatched m slot).clock good.steady) timed good.made few lives)

      by : (o : Option ℕ) → m.clock.current ≡ o → IsGood (step_of m).next
      by None e = by-next e (next_ready m) refl
      by (Some slot) e =
          let current = good.clock.current slot e in
          subst (λ (s : Step). IsGood s.next) (sym (step-current m slot e))
          (step-in-good m None slot good.steady (record { current = e; last = current.last; quantum = good.clock.quantum; rest = good.clock.rest }) good.made few
          (record { process = current.process; there = current.there; live = current.live }))

  -- A machine that may step is good,
  pub good-now : (m : Machine) → MayStep m → IsGood m
  good-now m may = laws.cuts.good m may.machine may.sound

  -- and so is the one after the step.
  pub good-next : (m : Machine) → MayStep m → IsGood (step_of m).next
  good-next m may = step-good m may.steps (good-now m may)

  -- So a step leaves a machine,
  pub machine-next : (m : Machine) → MayStep m → IsMachine (step_of m).next
  machine-next m may = laws.cuts.machine (step_of m).next (good-next m may)

  -- and a sound one.
  pub sound-next : (m : Machine) → MayStep m → Sound (step_of m).next
  sound-next m may = laws.cuts.sound (step_of m).next (good-next m may)
