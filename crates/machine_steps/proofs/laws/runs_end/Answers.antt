use Rattle.machine_steps.proofs.GoodSteps.{StepLaws, good-now}
use Rattle.machine_steps.proofs.RunEnds.{some-end, one-end}
use Rattle.machine_steps.proofs.laws.runs_end.Goals as goal

pub returns : goal.returns
returns c =
    let laws : StepLaws = record { works = c.works_are_effects.ensures; steady = c.effects_stay_steady.ensures; next = c.next_is_first.ensures; outcomes = c.outcomes_are_exact.ensures; cuts = c.cuts_agree.ensures } in
    record { some = λ m limit may small. some-end laws m limit (good-now laws m may) small; one = one-end }
