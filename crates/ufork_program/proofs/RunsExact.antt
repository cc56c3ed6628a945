-- Runs of what may be set up make as many steps as the machine counts.
use Rattle.std.proofs.Common.{◌≡◌, ℕ, zero, suc, ◌+◌, ◌<◌, ◌≤◌, ◌⊎◌, inl, inr, ◌||◌, not, Bool, true, false, Some, [], ◌∷◌, ◌++◌, refl, ap, ◌∙◌, subst, arith}
use Rattle.std.proofs.lemmas.Bool.{le-leb, lt-leb}
use Rattle.outside_io.specs.Parts.{err_part}
use Rattle.machine_types.specs.declared.config.Outcome.TheVariants.{Running}
use Rattle.machine.specs.Machines.{Machine}
use Rattle.machine.specs.Readiness.{outcome_of}
use Rattle.machine_steps.specs.Numbers.{step_limit}
use Rattle.machine_steps.specs.Steps.{step_of, state}
use Rattle.machine_steps.specs.Runs.{Setup, start, is_running, is_over, RunsFor, status_of}
use Rattle.machine_steps.specs.Laws.{MayStep, MayBoot, RunsAreSound, DispatchesAreNext, RunsEnd}
use Rattle.run_texts.specs.Endings as endings
use Rattle.ufork_program.specs.declared.run.Show.TheVariants.{Console}
use Rattle.ufork_program.specs.Run.{run_course, run_moments, run_end, moments_of, EndsAtTheLeast, RunsEndAtTheLeast}
use Rattle.ufork_program.specs.Runs.{IsRunFor, RunsAreExact}

-- a run is over where the limit is reached
over-at : (limit : ℕ) (m : Machine) → limit ≤ m.clock.steps → is_over limit m ≡ true
over-at limit m enough = rw (le-leb limit m.clock.steps enough) (by (not (is_running (outcome_of m))))
  where
    by : (b : Bool) → (b || true) ≡ true
    by true = refl
    by false = refl

-- and where the machine doesn't run
over-ended : (limit : ℕ) (m : Machine) → is_running (outcome_of m) ≡ false → is_over limit m ≡ true
over-ended limit m ended = rw ended refl

-- it isn't before that
not-over : (limit : ℕ) (m : Machine) → outcome_of m ≡ Running → m.clock.steps < limit → is_over limit m ≡ false
not-over limit m runs less = rw (runs, lt-leb limit m.clock.steps less) refl

-- one step more
state-more : (m : Machine) (k : ℕ) → state m (suc k) ≡ (step_of (state m k)).next
unfolding state
state-more m k = refl

start-counted : (setup : Setup) → (state (start setup) 0).clock.steps ≡ 0
unfolding state
start-counted setup = refl

-- a run's course, by where it ends and its moments
course-at : (setup : Setup) (m : Machine) (k : ℕ) → run_end (start setup) setup.config.steps ≡ m → run_moments Console (start setup) setup.config.steps ≡ moments_of Console (start setup) k
    → m.clock.steps ≡ k
    → run_course setup ≡ record { status = status_of (outcome_of m); moments = moments_of Console (start setup) k ++ (err_part (endings.last_line (outcome_of m) k), Some m) ∷ []; end = Some m }
course-at setup m k end moments counted = rw (end, moments, counted) refl

module _ (sound : RunsAreSound) (next : DispatchesAreNext) (ends : RunsEnd) (least : RunsEndAtTheLeast) where
  -- a machine of a run that has counted its steps may step
  may-step : (setup : Setup) (k : ℕ) → MayBoot setup → k < step_limit → (state (start setup) k).clock.steps ≡ k → MayStep (state (start setup) k)
  may-step setup k boot less counted = record { machine = sound.machine setup k boot less; sound = sound.sound setup k boot less; steps = omega (arith, counted, less) }

  -- A step of a machine that runs counts as one.
  one-more : (m : Machine) → MayStep m → outcome_of m ≡ Running → (step_of m).next.clock.steps ≡ m.clock.steps + 1
  one-more m may runs = let works = next.works m may runs in (next.dispatched m works.0 may works.1).1.steps

  -- So the machine counts the steps of a run.
  counted : (setup : Setup) → MayBoot setup → (k : ℕ) → k ≤ setup.config.steps → ((j : ℕ) → j < k → outcome_of (state (start setup) j) ≡ Running) → (state (start setup) k).clock.steps ≡ k
  counted setup boot zero within runs = start-counted setup
  counted setup boot (suc k) within runs =
      let m = state (start setup) k in
      let before : m.clock.steps ≡ k = counted setup boot k (omega (arith, within)) (λ j less. runs j (omega (arith, less))) in
      let small : k < step_limit = omega (arith, within, boot.config.steps) in
      let one = one-more m (may-step setup k boot small before) (runs k (omega arith)) in
      ap (λ (n : Machine). n.clock.steps) (state-more (start setup) k) ∙ one ∙ omega (arith, before)

  -- The run ends, by the definition of runs, where its parts do.
  ends-there : (setup : Setup) → MayBoot setup → (e : EndsAtTheLeast Console (start setup) setup.config.steps) → RunsFor setup e.steps
  ends-there setup boot e = record { over = over e.over; before = before }
    where
      over : (e.steps ≡ setup.config.steps) ⊎ (is_running (outcome_of (state (start setup) e.steps)) ≡ false) → is_over setup.config.steps (state (start setup) e.steps) ≡ true
      over (inl all) = over-at setup.config.steps (state (start setup) e.steps) (let steps = counted setup boot e.steps e.within e.running in omega (arith, all, steps))
      over (inr ended) = over-ended setup.config.steps (state (start setup) e.steps) ended

      before : (j : ℕ) → j < e.steps → is_over setup.config.steps (state (start setup) j) ≡ false
      before j less =
          let steps = counted setup boot j (omega (arith, less, e.within)) (λ i fewer. e.running i (omega (arith, less, fewer))) in
          not-over setup.config.steps (state (start setup) j) (e.running j less) (omega (arith, steps, less, e.within))

  -- A run is that for the number of its steps.
  run-at : (setup : Setup) → MayBoot setup → (e : EndsAtTheLeast Console (start setup) setup.config.steps) → (k : ℕ) → e.steps ≡ k → IsRunFor setup k
  run-at setup boot e k same = subst (IsRunFor setup) same (record {
    counted = counted setup boot e.steps e.within e.running;
    is = course-at setup (state (start setup) e.steps) e.steps e.end e.moments (counted setup boot e.steps e.within e.running);
  })

  pub runs-exact : RunsAreExact
  runs-exact = record {
    some = λ setup boot. let e = least Console (start setup) setup.config.steps in (e.steps, ends-there setup boot e);
    exact = λ setup k boot run.
        let e = least Console (start setup) setup.config.steps in
        run-at setup boot e k (ends.one (start setup) setup.config.steps e.steps k (ends-there setup boot e) run);
  }
