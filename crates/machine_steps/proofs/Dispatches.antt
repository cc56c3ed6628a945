-- Where a step works.
use Rattle.std.proofs.Common.{◌≡◌, ◌∙◌, sym, refl, ℕ, inl, inr, Option, Some, None, subst}
use Rattle.machine_types.specs.declared.config.Outcome.TheVariants.{Running}
use Rattle.machine.specs.declared.process.Process.{Process}
use Rattle.machine.specs.declared.report.Quantum.{Quantum}
use Rattle.machine.specs.Machines.{Clock, Machine, view_of}
use Rattle.machine.specs.Readiness.{next_ready, outcome_of}
use Rattle.machine.specs.Effects.{Effect}
use Rattle.machine.specs.Applying.{applied, head_of, quantum_of, dispatched}
use Rattle.machine.specs.Steady.{IsGood}
use Rattle.machine_steps.specs.Works.{effect_of}
use Rattle.machine_steps.specs.Steps.{stepped, step_of}
use Rattle.machine_steps.specs.Laws.{WorksAt, IsDispatched}
use Rattle.machine_steps.proofs.Clocks.{applied-shape, IsSettled, settled-clock}
use Rattle.machine_steps.proofs.GoodSteps.{StepLaws, step-in-at, step-current, step-dispatched}

-- the clock after the work of a slot
worked-clock : (m : Machine) (dispatch : Option Quantum) (slot : ℕ) (p : Process) (e : Effect) → IsSettled m.clock (stepped m dispatch slot p e).next.clock
worked-clock m dispatch slot p e =
    subst (λ (c : Clock). IsSettled c (stepped m dispatch slot p e).next.clock) (applied-shape m slot p e).clock (settled-clock (applied m slot p e) slot e.end)

module _ (laws : StepLaws) where
  -- Where a machine runs, some slot works.
  pub slot-works : (m : Machine) → IsGood m → outcome_of m ≡ Running → (slot : ℕ) × WorksAt m slot
  slot-works m good runs = by m.clock.current refl
    where
      by-next : m.clock.current ≡ None → (o : Option ℕ) → next_ready m ≡ o → (slot : ℕ) × WorksAt m slot
      by-next none None e =
          let some = (laws.outcomes.running m good.clock.last).0 runs in
          let idle = (laws.next.none m good.clock.last).0 e some.0 in
          let ready = some.1 in
          absurd (cc)
      by-next none (Some slot) e = (slot, inr (none, e))

      by : (o : Option ℕ) → m.clock.current ≡ o → (slot : ℕ) × WorksAt m slot
      by None e = by-next e (next_ready m) refl
      by (Some slot) e = (slot, inl e)

  -- a step of the current slot
  works-current : (m : Machine) (slot : ℕ) → IsGood m → m.clock.current ≡ Some slot → (p : Process) × IsDispatched m slot p (step_of m)
  works-current m slot good e =
      let current = good.clock.current slot e in
      let p = current.process in
      let s = stepped m None slot p (effect_of (view_of m slot p) m.content) in
      let clock = worked-clock m None slot p (effect_of (view_of m slot p) m.content) in
      let is : step_of m ≡ s = step-current m slot e ∙ step-in-at m None slot p current.there in (
        p,
        subst (IsDispatched m slot p) (sym is) (record {
          there = current.there;
          live = current.live;
          id = refl;
          slot_is = refl;
          last = clock.last ∙ current.last;
          steps = clock.steps;
          taken = λ none. absurd (cc);
          kept = λ some. (refl, clock.rest);
        }),
      )

  -- a step of the next one
  works-next : (m : Machine) (slot : ℕ) → m.clock.current ≡ None → next_ready m ≡ Some slot → (p : Process) × IsDispatched m slot p (step_of m)
  works-next m slot none e =
      let lives = laws.outcomes.live m slot (laws.next.ready m slot e) in
      let p = lives.process in
      let n = dispatched m slot in
      let dispatch = Some (quantum_of (head_of m.clock.rest)) in
      let s = stepped n dispatch slot p (effect_of (view_of n slot p) n.content) in
      let clock = worked-clock n dispatch slot p (effect_of (view_of n slot p) n.content) in
      let is : step_of m ≡ s = step-dispatched m slot none e ∙ step-in-at n dispatch slot p lives.there in (
        p,
        subst (IsDispatched m slot p) (sym is) (record {
          there = lives.there;
          live = lives.live;
          id = refl;
          slot_is = refl;
          last = clock.last;
          steps = clock.steps;
          taken = λ first. (refl, clock.rest);
          kept = λ some. absurd (some none);
        }),
      )

  -- A step works at the current slot, or at the ready one that comes next.
  pub works-dispatched : (m : Machine) (slot : ℕ) → IsGood m → WorksAt m slot → (p : Process) × IsDispatched m slot p (step_of m)
  works-dispatched m slot good (inl current) = works-current m slot good current
  works-dispatched m slot good (inr next) = works-next m slot next.0 next.1
