use Rattle.machine_steps.proofs.AlikeSteps.{step-alike}
use Rattle.machine_steps.proofs.laws.own_view_decides.Goals as goal

pub returns : goal.returns
returns c =
    step-alike c.cuts_agree.ensures c.next_is_first.ensures c.outcomes_are_exact.ensures c.works_are_effects.ensures c.own_store_decides.ensures c.views_decide_calls.ensures
    c.own_process_decides.ensures
