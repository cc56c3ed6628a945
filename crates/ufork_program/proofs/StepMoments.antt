-- The moments of the steps of a run: each is a part of one of them.
use Rattle.std.proofs.Common.{◌≡◌, ℕ, zero, suc, ◌<◌, List, [], ◌∷◌, ◌++◌, Option, Some, refl, sym, ap, ◌∙◌, arith}
use Rattle.outside_io.specs.Parts.{Part}
use Rattle.outside_io.specs.Moments.{Moment, while_stands}
use Rattle.machine.specs.Machines.{Machine}
use Rattle.machine_steps.specs.Steps.{state}
use Rattle.ufork_program.specs.declared.run.Show.TheVariants.{Console}
use Rattle.ufork_program.specs.Run.{step_parts, moments_of}
use Rattle.ufork_program.proofs.SplitLemmas.{IsSplit, in_first, in_second, split, none-has, IsMomentOf, moment-of}

-- A part of a step of a run: the machine ran before the step, the moments before the part are those of the steps before it and of the parts
-- of the step before it, and the machine after the step stands.
pub record IsInStep (m : Machine) (limit : ℕ) (earlier : List (Moment (Option Machine))) (part : Part) (stands : Option Machine) : Type 0 where
  pub steps : ℕ
  pub within : steps < limit
  pub before : List Part
  pub after : List Part
  pub list : step_parts Console (state m steps) ≡ before ++ part ∷ after
  pub earlier_are : earlier ≡ moments_of Console m steps ++ while_stands (Some (state m (suc steps))) before
  pub stands_is : stands ≡ Some (state m (suc steps))

-- It is so where more steps are allowed.
in_step-more : (m : Machine) (limit : ℕ) (earlier : List (Moment (Option Machine))) (part : Part) (stands : Option Machine)
    → IsInStep m limit earlier part stands → IsInStep m (suc limit) earlier part stands
in_step-more m limit earlier part stands h = record {
  steps = h.steps;
  within = omega (arith, h.within);
  before = h.before;
  after = h.after;
  list = h.list;
  earlier_are = h.earlier_are;
  stands_is = h.stands_is;
}

-- A moment of the last step is a part of that one.
in_step-last : (m : Machine) (steps : ℕ) (earlier rest : List (Moment (Option Machine))) (part : Part) (stands : Option Machine) → earlier ≡ moments_of Console m steps ++ rest
    → IsMomentOf (Some (state m (suc steps))) (step_parts Console (state m steps)) rest part stands → IsInStep m (suc steps) earlier part stands
in_step-last m steps earlier rest part stands is h = record {
  steps = steps;
  within = omega arith;
  before = h.before;
  after = h.after;
  list = h.list;
  earlier_are = is ∙ ap (λ l. moments_of Console m steps ++ l) h.earlier_are;
  stands_is = h.stands_is;
}

-- The moments of one more step are those of the steps before it, and its own.
moments_of-more : (m : Machine) (steps : ℕ) → moments_of Console m (suc steps) ≡ moments_of Console m steps ++ while_stands (Some (state m (suc steps))) (step_parts Console (state m steps))
unfolding moments_of
moments_of-more m steps = refl

-- There is none before the first step.
moments_of-none : (m : Machine) → moments_of Console m 0 ≡ []
unfolding moments_of
moments_of-none m = refl

-- Each moment of so many steps is a part of one of them.
pub in_step : (m : Machine) (limit : ℕ) (earlier : List (Moment (Option Machine))) (part : Part) (stands : Option Machine) (later : List (Moment (Option Machine)))
    → moments_of Console m limit ≡ earlier ++ (part, stands) ∷ later → IsInStep m limit earlier part stands
in_step m zero earlier part stands later e = absurd (none-has earlier (part, stands) later (sym (moments_of-none m) ∙ e))
in_step m (suc limit) earlier part stands later e =
    by (λ rest is. in_step m limit earlier part stands rest is)
    (split (moments_of Console m limit) (while_stands (Some (state m (suc limit))) (step_parts Console (state m limit))) earlier (part, stands) later (sym (moments_of-more m limit) ∙ e))
  where
    by : ((rest : List (Moment (Option Machine))) → moments_of Console m limit ≡ earlier ++ (part, stands) ∷ rest → IsInStep m limit earlier part stands)
        → IsSplit (moments_of Console m limit) (while_stands (Some (state m (suc limit))) (step_parts Console (state m limit))) earlier (part, stands) later
        → IsInStep m (suc limit) earlier part stands
    by sooner (in_first rest is) = in_step-more m limit earlier part stands (sooner rest is)
    by sooner (in_second rest is tail) =
        in_step-last m limit earlier rest part stands is
        (moment-of (Some (state m (suc limit))) (step_parts Console (state m limit)) rest part stands later tail)
