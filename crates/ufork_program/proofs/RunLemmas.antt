-- Runs, step by step.
use Rattle.std.proofs.Common.{◌≡◌, ◌≢◌, ℕ, zero, suc, ◌-◌, ◌<◌, [], ◌∷◌, ◌++◌, ◌⊎◌, inl, inr, Bool, true, false, Option, Some, List, refl, sym, ap, ◌∙◌, arith, append_assoc, append-nil, Result, Ok, Err, IsErrAnd, OnErr}
use Rattle.std.proofs.lemmas.Result.{err_from_is_err_and}
use Rattle.contents.specs.Content.{Content}
use Rattle.stores.specs.declared.space.Stores.{Ghosts}
use Rattle.machine_types.specs.declared.config.Outcome.{Outcome}
use Rattle.machine_types.specs.declared.config.Outcome.TheVariants.{Running, Done, Stuck}
use Rattle.machine.specs.Machines.{Machine}
use Rattle.machine.specs.Readiness.{outcome_of}
use Rattle.machine_steps.specs.Steps.{step_of, state}
use Rattle.machine_steps.specs.Runs.{is_running, status_of}
use Rattle.outside_io.specs.States.{SinkState, PrintsText}
use Rattle.outside_io.specs.Parts.{Console, console, err_part, Prints}
use Rattle.outside_io.specs.Moments.{Moment, while_stands, Leaves, MomentsUnderway, Goes}
use Rattle.outside_io.proofs.PartLemmas.{Prints-err}
use Rattle.outside_io.proofs.MomentLemmas.{MomentsUnderway-start, MomentsUnderway-more, MomentsUnderway-stop, MomentsUnderway-end, Leaves-while, Leaves-then, Leaves-stop, Leaves-gives, Goes-failed}
use Rattle.kernel_loop.specs.declared.kernel.Kernel.{Kernel}
use Rattle.kernel_loop.specs.Kernels.{KernelStands, steps_of}
use Rattle.run_texts.specs.Endings as endings
use Rattle.ufork_program.specs.declared.run.Show.{Show}
use Rattle.ufork_program.specs.declared.run.Show.TheVariants as show
use Rattle.ufork_program.specs.Run.{step_parts, run_moments, run_end, last_line, course_from, moments_of, EndsAtTheLeast, RunsEndAtTheLeast, IsLeftIn}

-- no step is made where none is left
pub run_moments-none : (what : Show) (m : Machine) → run_moments what m 0 ≡ []
unfolding run_moments
run_moments-none what m = refl

pub run_end-none : (m : Machine) → run_end m 0 ≡ m
unfolding run_end
run_end-none m = refl

-- no step is made where the machine doesn't run
pub run_moments-ended : (what : Show) (m : Machine) (left : ℕ) → is_running (outcome_of m) ≡ false → run_moments what m left ≡ []
unfolding run_moments
run_moments-ended what m zero h = refl
run_moments-ended what m (suc left) h = rw h refl

pub run_end-ended : (m : Machine) (left : ℕ) → is_running (outcome_of m) ≡ false → run_end m left ≡ m
unfolding run_end
run_end-ended m zero h = refl
run_end-ended m (suc left) h = rw h refl

-- a step is made, and the run goes on from there
pub run_moments-more : (what : Show) (m : Machine) (left : ℕ) → 0 < left → is_running (outcome_of m) ≡ true
    → run_moments what m left ≡ while_stands (Some (step_of m).next) (step_parts what m) ++ run_moments what (step_of m).next (left - 1)
unfolding run_moments
run_moments-more what m zero lt h = absurd (omega arith)
run_moments-more what m (suc left) lt h = rw h (let e : suc left - 1 ≡ left = omega arith in rw e refl)

pub run_end-more : (m : Machine) (left : ℕ) → 0 < left → is_running (outcome_of m) ≡ true → run_end m left ≡ run_end (step_of m).next (left - 1)
unfolding run_end
run_end-more m zero lt h = absurd (omega arith)
run_end-more m (suc left) lt h = rw h (let e : suc left - 1 ≡ left = omega arith in rw e refl)

-- so many steps after the first are the first and so many more
state-first : (m : Machine) (steps : ℕ) → state (step_of m).next steps ≡ state m (suc steps)
unfolding state
state-first m zero = refl
state-first m (suc steps) = ap (λ n. (step_of n).next) (state-first m steps)

-- the moments of a step, and those after the ones of other steps
moments_at : Show → Machine → List (Moment (Option Machine))
moments_at what m = while_stands (Some (step_of m).next) (step_parts what m)

moments_of-more : (what : Show) (m : Machine) (steps : ℕ) → moments_of what m (suc steps) ≡ moments_of what m steps ++ moments_at what (state m steps)
unfolding moments_of state moments_at
moments_of-more what m steps = refl

moments_of-none : (what : Show) (m : Machine) → moments_of what m 0 ≡ []
unfolding moments_of
moments_of-none what m = refl

state-none : (m : Machine) → state m 0 ≡ m
unfolding state
state-none m = refl

moments-first : (what : Show) (m : Machine) (steps : ℕ) → moments_of what m (suc steps) ≡ moments_at what m ++ moments_of what (step_of m).next steps
moments-first what m zero =
    moments_of-more what m 0 ∙ ap (λ (l : List (Moment (Option Machine))). l ++ moments_at what (state m 0)) (moments_of-none what m)
    ∙ ap (moments_at what) (state-none m) ∙ sym (append-nil (moments_at what m)) ∙ ap (λ (l : List (Moment (Option Machine))). moments_at what m ++ l) (sym (moments_of-none what (step_of m).next))
moments-first what m (suc steps) =
    moments_of-more what m (suc steps)
    ∙ ap (λ (l : List (Moment (Option Machine))). l ++ moments_at what (state m (suc steps))) (moments-first what m steps)
    ∙ append_assoc (moments_at what m) (moments_of what (step_of m).next steps) (moments_at what (state m (suc steps)))
    ∙ ap (λ (n : Machine). moments_at what m ++ (moments_of what (step_of m).next steps ++ moments_at what n)) (sym (state-first m steps))
    ∙ ap (λ (l : List (Moment (Option Machine))). moments_at what m ++ l) (sym (moments_of-more what (step_of m).next steps))

moments_of-first : (what : Show) (m : Machine) (steps : ℕ)
    → moments_of what m (suc steps) ≡ while_stands (Some (step_of m).next) (step_parts what m) ++ moments_of what (step_of m).next steps
unfolding moments_at
moments_of-first what m steps = moments-first what m steps

-- a machine that stands so runs, or doesn't
pub runs-running : (o : Outcome) → is_running o ≡ true → o ≡ Running
runs-running Running h = refl
runs-running Done h = absurd (cc)
runs-running Stuck h = absurd (cc)

-- a run that makes no step
ends-at-once : (what : Show) (m : Machine) (left : ℕ) → (left ≡ 0) ⊎ (is_running (outcome_of m) ≡ false) → run_end m left ≡ m → run_moments what m left ≡ [] → EndsAtTheLeast what m left
unfolding state moments_of
ends-at-once what m left over end moments = record {
  steps = 0;
  within = omega arith;
  running = λ made lt. absurd (omega (arith, lt));
  over = elim over [
    | inl none ↦ inl (sym none)
    | inr ended ↦ inr ended
  ];
  end = end;
  moments = moments;
}

-- The machine runs before each step, if it does before the first and before each after it.
running_before : (m : Machine) → outcome_of m ≡ Running → (steps : ℕ) → ((made : ℕ) → made < steps → outcome_of (state (step_of m).next made) ≡ Running)
    → (made : ℕ) → made < suc steps → outcome_of (state m made) ≡ Running
unfolding state
running_before m runs steps h zero lt = runs
running_before m runs steps h (suc made) lt = ap outcome_of (sym (state-first m made)) ∙ h made (omega (arith, lt))

-- a run that makes a first step
ends-after-one : (what : Show) (m : Machine) (left : ℕ) → is_running (outcome_of m) ≡ true → EndsAtTheLeast what (step_of m).next left → EndsAtTheLeast what m (suc left)
ends-after-one what m left runs h =
    let first = state-first m h.steps in
    record {
      steps = suc h.steps;
      within = omega (arith, h.within);
      running = running_before m (runs-running (outcome_of m) runs) h.steps h.running;
      over = elim h.over [
        | inl all ↦ inl (ap suc all)
        | inr ended ↦ inr (ap (λ n. is_running (outcome_of n)) (sym first) ∙ ended)
      ];
      end = run_end-more m (suc left) (omega arith) runs ∙ ap (run_end (step_of m).next) (omega arith) ∙ h.end ∙ first;
      moments = run_moments-more what m (suc left) (omega arith) runs
          ∙ ap (λ l. while_stands (Some (step_of m).next) (step_parts what m) ++ l) (ap (run_moments what (step_of m).next) (omega arith) ∙ h.moments)
          ∙ sym (moments_of-first what m h.steps);
    }

ends-by : (what : Show) (m : Machine) (left : ℕ) → EndsAtTheLeast what (step_of m).next left → (runs : Bool) → is_running (outcome_of m) ≡ runs → EndsAtTheLeast what m (suc left)
ends-by what m left h true runs = ends-after-one what m left runs h
ends-by what m left h false ended = ends-at-once what m (suc left) (inr ended) (run_end-ended m (suc left) ended) (run_moments-ended what m (suc left) ended)

pub runs-end : RunsEndAtTheLeast
runs-end what m zero = ends-at-once what m 0 (inl refl) (run_end-none m) (run_moments-none what m)
runs-end what m (suc left) = ends-by what m left (runs-end what (step_of m).next left) (is_running (outcome_of m)) refl

-- A kernel on its way: the machine for which it stands now makes the rest of the run.
pub record IsOnItsWay {S : Type 0} {g : Ghosts S} (stands_for : S → Content → Type 0) (what : Show) (k : Kernel S g) (m : Machine) (limit left : ℕ) (old now : Console) : Type 0 where
  pub machine : Machine
  pub stands : KernelStands stands_for k machine
  pub underway : MomentsUnderway (run_moments what m limit) (run_moments what machine left) old now
  pub same_end : run_end m limit ≡ run_end machine left

-- the last line has bytes
last_line-some : (o : Outcome) (steps : ℕ) → endings.last_line o steps ≢ []
last_line-some Running steps = λ e. cc
last_line-some Done steps = λ e. cc
last_line-some Stuck steps = λ e. cc

-- what stands anyway stands at a failure
on-failure : {T E : Type 0} {P : Type 0} (r : Result T E) → P → OnErr r P
on-failure (Ok x) p = tt
on-failure (Err e) p = p

module _ {S : Type 0} {g : Ghosts S} (stands_for : S → Content → Type 0) where
  -- a machine for which a kernel stands has made as many steps
  pub stands-steps : (k : Kernel S g) (m : Machine) → KernelStands stands_for k m → m.clock.steps ≡ steps_of k
  stands-steps k m h = ap (λ (n : Machine). n.clock.steps) h.is

  -- A kernel answers how each machine stands for which it does, and by that whether each of them runs.
  pub still : (k : Kernel S g) (outcome : Outcome) (answer truth : Bool) → ((n : Machine) → KernelStands stands_for k n → outcome ≡ outcome_of n)
      → answer ≡ is_running outcome → answer ≡ truth → (n : Machine) → KernelStands stands_for k n → is_running (outcome_of n) ≡ truth
  still k outcome answer truth outcome_is answer_is is n stands = ap is_running (sym (outcome_is n stands)) ∙ sym answer_is ∙ is

  -- a kernel before its first step
  pub way-start : (what : Show) (k : Kernel S g) (m : Machine) (limit : ℕ) (a : Console) → KernelStands stands_for k m → IsOnItsWay stands_for what k m limit limit a a
  way-start what k m limit a stands = record { machine = m; stands = stands; underway = MomentsUnderway-start (run_moments what m limit) a; same_end = refl }

  -- one more step is made, and its parts are written whole
  pub way-more : {T E : Type 0} (what : Show) (k j : Kernel S g) (m : Machine) (limit left fewer : ℕ) (a b c : Console) (x : T) → 0 < left → fewer ≡ left - 1
      → ((n : Machine) → KernelStands stands_for k n → is_running (outcome_of n) ≡ true)
      → IsOnItsWay stands_for what k m limit left a b
      → ((n : Machine) → KernelStands stands_for k n → KernelStands stands_for j (step_of n).next)
      → ((n : Machine) → KernelStands stands_for k n → Prints {T = T} {E = E} (step_parts what n) b c (Ok x))
      → IsOnItsWay stands_for what j m limit fewer a c
  way-more what k j m limit left fewer a b c x some one runs way next prints =
      let now = way.machine in
      let on = runs now way.stands in
      rw one (record {
        machine = (step_of now).next;
        stands = next now way.stands;
        underway = MomentsUnderway-more (run_moments what m limit) _ (step_parts what now) (Some (step_of now).next) a b c x
            (rw (run_moments-more what now left some on) at way.underway) (prints now way.stands);
        same_end = way.same_end ∙ run_end-more now left some on;
      })

  -- one more step is made, and one of its parts is cut
  pub way-stop : {T E U F : Type 0} (what : Show) (k j : Kernel S g) (m : Machine) (limit left : ℕ) (a b c : Console) (e : E) (r : Result U F) (Q : F → Type 0)
      → IsErrAnd r Q → 0 < left
      → ((n : Machine) → KernelStands stands_for k n → is_running (outcome_of n) ≡ true)
      → IsOnItsWay stands_for what k m limit left a b
      → ((n : Machine) → KernelStands stands_for k n → KernelStands stands_for j (step_of n).next)
      → ((n : Machine) → KernelStands stands_for k n → Prints {T = T} {E = E} (step_parts what n) b c (Err e))
      → Leaves (run_moments what m limit) (Some (run_end m limit)) (IsLeftIn stands_for j) a c r
  way-stop what k j m limit left a b c e r Q q some runs way next prints =
      let now = way.machine in
      let on = runs now way.stands in
      MomentsUnderway-stop (run_moments what m limit) _ (step_parts what now) (Some (step_of now).next) _ (IsLeftIn stands_for j) a b c e r Q q (next now way.stands)
      (rw (run_moments-more what now left some on) at way.underway) (prints now way.stands)

  -- all of the run is made
  way-over : {T E : Type 0} (what : Show) (k : Kernel S g) (m : Machine) (limit left : ℕ) (a b : Console) (x : T) (way : IsOnItsWay stands_for what k m limit left a b)
      → run_end way.machine left ≡ way.machine → run_moments what way.machine left ≡ []
      → Leaves {T = T} {E = E} (run_moments what m limit) (Some (run_end m limit)) (IsLeftIn stands_for k) a b (Ok x)
  way-over what k m limit left a b x way end none = rw (way.same_end ∙ end)
      (MomentsUnderway-end (run_moments what m limit) (Some way.machine) (IsLeftIn stands_for k) a b x way.stands (rw none at way.underway))

  pub way-none : {T E : Type 0} (what : Show) (k : Kernel S g) (m : Machine) (limit left : ℕ) (a b : Console) (x : T) → left ≡ 0 → IsOnItsWay stands_for what k m limit left a b
      → Leaves {T = T} {E = E} (run_moments what m limit) (Some (run_end m limit)) (IsLeftIn stands_for k) a b (Ok x)
  way-none what k m limit left a b x none way = way-over what k m limit left a b x way
      (ap (run_end way.machine) none ∙ run_end-none way.machine) (ap (run_moments what way.machine) none ∙ run_moments-none what way.machine)

  pub way-ended : {T E : Type 0} (what : Show) (k : Kernel S g) (m : Machine) (limit left : ℕ) (a b : Console) (x : T)
      → ((n : Machine) → KernelStands stands_for k n → is_running (outcome_of n) ≡ false) → IsOnItsWay stands_for what k m limit left a b
      → Leaves {T = T} {E = E} (run_moments what m limit) (Some (run_end m limit)) (IsLeftIn stands_for k) a b (Ok x)
  way-ended what k m limit left a b x ended way =
      let over = ended way.machine way.stands in
      way-over what k m limit left a b x way (run_end-ended way.machine left over) (run_moments-ended what way.machine left over)

  -- The last line is written after the run, whole or cut. The kernel tells how each machine stands for which it does.
  line-last : {T E U F : Type 0} (k : Kernel S g) (m : Machine) (limit : ℕ) (outcome : Outcome) (steps : ℕ) (a : Console) (o e f : SinkState) (x : T) (r : Result U F)
      → Leaves {T = T} {E = E} (run_moments show.Console m limit) (Some (run_end m limit)) (IsLeftIn stands_for k) a (console o e) (Ok x)
      → ((n : Machine) → KernelStands stands_for k n → outcome ≡ outcome_of n) → steps ≡ steps_of k
      → PrintsText (endings.last_line outcome steps) e f r
      → Leaves (course_from show.Console m limit).moments (Some (run_end m limit)) (IsLeftIn stands_for k) a (console o f) r
  line-last k m limit outcome steps a o e f x r run outcome_is steps_are printed =
      let end = run_end m limit in
      let line : last_line end ≡ endings.last_line outcome steps =
      ap (λ (n : Outcome). endings.last_line n end.clock.steps) (sym (outcome_is end run.left))
      ∙ ap (endings.last_line outcome) (stands-steps k end run.left ∙ sym steps_are) in
      Leaves-then (run_moments show.Console m limit) ((err_part (last_line end), Some end) ∷ []) (Some end) (Some end) (IsLeftIn stands_for k) (IsLeftIn stands_for k)
      a (console o e) (console o f) x r run
      (Leaves-while (Some end) (IsLeftIn stands_for k) (err_part (last_line end) ∷ []) (console o e) (console o f) r run.left
      (rw line (Prints-err (endings.last_line outcome steps) o e f r (on-failure r (last_line-some outcome steps)) printed)))

  -- the run goes its course where the last line is written whole
  pub goes-over : {T E U F G : Type 0} (k : Kernel S g) (m : Machine) (limit : ℕ) (outcome : Outcome) (steps status : ℕ) (a : Console) (o e f : SinkState) (x : T) (y : U)
      → Leaves {T = T} {E = E} (run_moments show.Console m limit) (Some (run_end m limit)) (IsLeftIn stands_for k) a (console o e) (Ok x)
      → ((n : Machine) → KernelStands stands_for k n → outcome ≡ outcome_of n) → steps ≡ steps_of k
      → PrintsText {T = U} {E = F} (endings.last_line outcome steps) e f (Ok y) → status ≡ status_of outcome
      → Goes {E = G} (course_from show.Console m limit) (IsLeftIn stands_for k) a (console o f) (Ok status)
  goes-over k m limit outcome steps status a o e f x y run outcome_is steps_are printed status_is = record {
    leaves = Leaves-gives (course_from show.Console m limit).moments (Some (run_end m limit)) (IsLeftIn stands_for k) a (console o f) y status
        (line-last k m limit outcome steps a o e f x (Ok y) run outcome_is steps_are printed);
    status = status_is ∙ ap status_of (outcome_is (run_end m limit) run.left);
  }

  -- the last line is cut, and the failure is handed on
  pub goes-cut : {T E U F G : Type 0} (k : Kernel S g) (m : Machine) (limit : ℕ) (outcome : Outcome) (steps : ℕ) (a : Console) (o e f : SinkState) (x : T) (d : F)
      (r : Result ℕ G) (Q : G → Type 0) → IsErrAnd r Q
      → Leaves {T = T} {E = E} (run_moments show.Console m limit) (Some (run_end m limit)) (IsLeftIn stands_for k) a (console o e) (Ok x)
      → ((n : Machine) → KernelStands stands_for k n → outcome ≡ outcome_of n) → steps ≡ steps_of k
      → PrintsText {T = U} {E = F} (endings.last_line outcome steps) e f (Err d)
      → Goes (course_from show.Console m limit) (IsLeftIn stands_for k) a (console o f) r
  goes-cut k m limit outcome steps a o e f x d r Q q run outcome_is steps_are printed =
      let p = err_from_is_err_and r q in
      let cut = line-last k m limit outcome steps a o e f x (Err d) run outcome_is steps_are printed in
      rw p.1 (record { leaves = record { whole = tt; quiet = tt; left = tt; cut = cut.cut; later = cut.later }; status = tt })

  -- a part of the run is cut, and the failure is handed on
  pub goes-stop : {T E G : Type 0} (k : Kernel S g) (m : Machine) (limit : ℕ) (a b : Console) (d : E) (r : Result ℕ G) (Q : G → Type 0) → IsErrAnd r Q
      → Leaves {T = T} {E = E} (run_moments show.Console m limit) (Some (run_end m limit)) (IsLeftIn stands_for k) a b (Err d)
      → Goes (course_from show.Console m limit) (IsLeftIn stands_for k) a b r
  goes-stop k m limit a b d r Q q run = let end = run_end m limit in
      Goes-failed (course_from show.Console m limit) (IsLeftIn stands_for k) a b r Q q
      (Leaves-stop (run_moments show.Console m limit) ((err_part (last_line end), Some end) ∷ []) (Some end) (Some end) (IsLeftIn stands_for k) a b d r Q q run)
