use Rattle.machine_steps.proofs.UntouchedSteps.{others-untouched}
use Rattle.machine_steps.proofs.laws.others_stay_untouched.Goals as goal

pub returns : goal.returns
returns c = others-untouched c.cuts_agree.ensures c.next_is_first.ensures c.outcomes_are_exact.ensures c.works_are_effects.ensures c.effects_leave_others.ensures
