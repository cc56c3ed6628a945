use Rattle.machine_steps.proofs.GoodSteps.{StepLaws, step-good}
use Rattle.machine_steps.proofs.laws.steps_stay_good.Goals as goal

pub returns : goal.returns
returns c =
    let laws : StepLaws = record { works = c.works_are_effects.ensures; steady = c.effects_stay_steady.ensures; next = c.next_is_first.ensures; outcomes = c.outcomes_are_exact.ensures; cuts = c.cuts_agree.ensures } in
    step-good laws
