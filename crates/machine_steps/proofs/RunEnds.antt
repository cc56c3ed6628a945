-- Each run has one end.
use Rattle.std.proofs.Common.{◌≡◌, ap, refl, ℕ, zero, suc, ◌+◌, ◌-◌, ◌^◌, ◌≤◌, ◌<◌, ◌⊎◌, inl, inr, ◌||◌, not, nat_le, Bool, true, false, arith}
use Rattle.std.proofs.lemmas.Bool.{or_parts, leb-false, le-leb, cases_order}
use Rattle.machine_types.specs.declared.config.Outcome.{Outcome}
use Rattle.machine_types.specs.declared.config.Outcome.TheVariants.{Running, Done, Stuck}
use Rattle.machine.specs.Machines.{Machine}
use Rattle.machine.specs.Readiness.{outcome_of}
use Rattle.machine.specs.Steady.{IsGood}
use Rattle.machine_steps.specs.Steps.{step_of, state}
use Rattle.machine_steps.specs.Runs.{is_running, is_over, EndsAfter}
use Rattle.machine_steps.proofs.GoodSteps.{StepLaws, step-good}
use Rattle.machine_steps.proofs.Dispatches.{slot-works, works-dispatched}

-- a run begins at its machine
state-first : (m : Machine) → state m 0 ≡ m
unfolding state
state-first m = refl

-- and goes on after a step as that of the machine after it
state-later : (m : Machine) (k : ℕ) → state m (suc k) ≡ state (step_of m).next k
unfolding state
state-later m zero = refl
state-later m (suc k) = ap (λ (n : Machine). (step_of n).next) (state-later m k)

-- Whether a run is over.

-- It is where as many steps are made as the limit says.
over-at : (limit : ℕ) (m : Machine) → limit ≤ m.clock.steps → is_over limit m ≡ true
over-at limit m enough = rw (le-leb limit m.clock.steps enough) (by (not (is_running (outcome_of m))))
  where
    by : (b : Bool) → (b || true) ≡ true
    by true = refl
    by false = refl

-- a machine that runs and has made fewer steps than the limit says
pub record IsUnderLimit (limit : ℕ) (m : Machine) : Type 0 where
  pub runs : outcome_of m ≡ Running
  pub below : m.clock.steps < limit

-- one that isn't over runs
runs-on : (o : Outcome) → not (is_running o) ≡ false → o ≡ Running
runs-on Running h = refl
runs-on Done h = absurd (cc)
runs-on Stuck h = absurd (cc)

-- and it is below the limit
under-limit : (limit : ℕ) (m : Machine) → is_over limit m ≡ false → IsUnderLimit limit m
under-limit limit m e =
    let parts = or_parts (not (is_running (outcome_of m))) (nat_le limit m.clock.steps) e in
    record { runs = runs-on (outcome_of m) parts.0; below = leb-false limit m.clock.steps parts.1 }

-- Ends.

-- a run that is over at its machine
ends-now : (limit : ℕ) (m : Machine) → is_over limit m ≡ true → EndsAfter limit m 0
ends-now limit m e = record { over = rw (state-first m) e; before = λ j less. absurd (omega arith) }

-- one that isn't, and ends after its first step
ends-later : (limit : ℕ) (m : Machine) (k : ℕ) → is_over limit m ≡ false → EndsAfter limit (step_of m).next k → EndsAfter limit m (suc k)
ends-later limit m k e ends = record { over = rw (state-later m k) ends.over; before = before }
  where
    before : (j : ℕ) → j < suc k → is_over limit (state m j) ≡ false
    before zero less = rw (state-first m) e
    before (suc j) less = let earlier : j < k = omega arith in rw (state-later m j) (ends.before j earlier)

-- Two ends are one.
pub one-end : (m : Machine) (limit j k : ℕ) → EndsAfter limit m j → EndsAfter limit m k → j ≡ k
one-end m limit j k first second = by (cases_order j k)
  where
    by : (j ≡ k) ⊎ ((j < k) ⊎ (k < j)) → j ≡ k
    by (inl same) = same
    by (inr (inl less)) = let over = first.over in let before = second.before j less in absurd (cc)
    by (inr (inr less)) = let over = second.over in let before = first.before k less in absurd (cc)

module _ (laws : StepLaws) where
  -- a step of a run that isn't over counts as one
  step-counted : (limit : ℕ) (m : Machine) → IsGood m → IsUnderLimit limit m → (step_of m).next.clock.steps ≡ m.clock.steps + 1
  step-counted limit m good under =
      let works = slot-works laws m good under.runs in
      (works-dispatched laws m works.0 good works.1).1.steps

  -- the end of a run, where that of the run after its step is known
  ends-after : (n limit : ℕ) (m : Machine) → IsGood m → limit < 2 ^ 62 → limit ≤ m.clock.steps + suc n
      → (IsGood (step_of m).next → limit ≤ (step_of m).next.clock.steps + n → (k : ℕ) × (EndsAfter limit (step_of m).next k × (k ≤ n))) → (k : ℕ) × (EndsAfter limit m k × (k ≤ suc n))
  ends-after n limit m good small enough rest = by (is_over limit m) refl
    where
      later : is_over limit m ≡ false → (k : ℕ) × (EndsAfter limit (step_of m).next k × (k ≤ n))
      later e =
          let under = under-limit limit m e in
          let below = under.below in
          let counted = step-counted limit m good under in
          rest (step-good laws m (omega (arith, below, small)) good) (omega (arith, counted, enough))

      by : (b : Bool) → is_over limit m ≡ b → (k : ℕ) × (EndsAfter limit m k × (k ≤ suc n))
      by true e = (0, (ends-now limit m e, omega arith))
      by false e = let found = later e in let less = found.1.1 in (suc found.0, (ends-later limit m found.0 e found.1.0, omega (arith, less)))

  -- a run that may make so many steps has an end
  ends-within : (n limit : ℕ) (m : Machine) → IsGood m → limit < 2 ^ 62 → limit ≤ m.clock.steps + n → (k : ℕ) × (EndsAfter limit m k × (k ≤ n))
  ends-within zero limit m good small enough = let all : limit ≤ m.clock.steps = omega arith in (0, (ends-now limit m (over-at limit m all), omega arith))
  ends-within (suc n) limit m good small enough = ends-after n limit m good small enough (λ next more. ends-within n limit (step_of m).next next small more)

  -- Each run has an end, after as many steps at most as the limit leaves.
  pub some-end : (m : Machine) (limit : ℕ) → IsGood m → limit < 2 ^ 62 → (k : ℕ) × (EndsAfter limit m k × (k ≤ limit - m.clock.steps))
  some-end m limit good small = ends-within (limit - m.clock.steps) limit m good small (omega arith)
