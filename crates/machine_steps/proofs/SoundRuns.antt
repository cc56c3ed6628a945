-- Each machine of a run is sound.
use Rattle.std.proofs.Common.{◌≡◌, sym, refl, ℕ, zero, suc, ◌+◌, ◌^◌, ◌≤◌, ◌<◌, inl, inr, Option, Some, None, subst, arith}
use Rattle.machine.specs.Machines.{Machine}
use Rattle.machine.specs.Readiness.{next_ready}
use Rattle.machine.specs.Shape.{IsMachine}
use Rattle.machine.specs.Sound.{Sound}
use Rattle.machine.specs.Steady.{IsGood}
use Rattle.machine_steps.specs.Steps.{Step, step_of, state}
use Rattle.machine_steps.specs.Laws.{WorksAt}
use Rattle.machine_steps.proofs.GoodSteps.{StepLaws, step-idle, step-good}
use Rattle.machine_steps.proofs.Dispatches.{works-dispatched}

-- a good machine after at most so many steps
pub record IsGoodAfter (k : ℕ) (m n : Machine) : Type 0 where
  pub good : IsGood n
  pub steps : n.clock.steps ≤ m.clock.steps + k

module _ (laws : StepLaws) where
  -- A step counts as one at most.
  step-counts : (m : Machine) → IsGood m → (step_of m).next.clock.steps ≤ m.clock.steps + 1
  step-counts m good = by m.clock.current refl
    where
      counted : (slot : ℕ) → WorksAt m slot → (step_of m).next.clock.steps ≤ m.clock.steps + 1
      counted slot works = let one = (works-dispatched laws m slot good works).1.steps in omega (arith, one)

      by-next : m.clock.current ≡ None → (o : Option ℕ) → next_ready m ≡ o → (step_of m).next.clock.steps ≤ m.clock.steps + 1
      by-next none None e = subst (λ (s : Step). s.next.clock.steps ≤ m.clock.steps + 1) (sym (step-idle m none e)) (omega arith)
      by-next none (Some slot) e = counted slot (inr (none, e))

      by : (o : Option ℕ) → m.clock.current ≡ o → (step_of m).next.clock.steps ≤ m.clock.steps + 1
      by None e = by-next e (next_ready m) refl
      by (Some slot) e = counted slot (inl e)

  -- The machines of a run are good while ids stay in range.
  pub state-good : (m : Machine) (k : ℕ) → IsGood m → m.clock.steps + k < 2 ^ 62 → IsGoodAfter k m (state m k)
  unfolding state
  state-good m zero good few = record { good = good; steps = omega arith }
  state-good m (suc k) good few =
      let before = state-good m k good (omega arith) in
      let least = before.steps in
      let more = step-counts (state m k) before.good in
      record { good = step-good laws (state m k) (omega (arith, least, few)) before.good; steps = omega (arith, least, more) }

  -- So those of a run from no step are machines,
  pub state-machine : (m : Machine) (k : ℕ) → IsMachine m → Sound m → m.clock.steps ≡ 0 → k < 2 ^ 62 → IsMachine (state m k)
  state-machine m k machine sound none few = laws.cuts.machine (state m k) (state-good m k (laws.cuts.good m machine sound) (omega (arith, none, few))).good

  -- and sound ones.
  pub state-sound : (m : Machine) (k : ℕ) → IsMachine m → Sound m → m.clock.steps ≡ 0 → k < 2 ^ 62 → Sound (state m k)
  state-sound m k machine sound none few = laws.cuts.sound (state m k) (state-good m k (laws.cuts.good m machine sound) (omega (arith, none, few))).good
