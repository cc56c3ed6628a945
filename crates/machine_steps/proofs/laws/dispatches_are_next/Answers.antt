use Rattle.machine_steps.proofs.GoodSteps.{StepLaws, good-now}
use Rattle.machine_steps.proofs.Dispatches.{slot-works, works-dispatched}
use Rattle.machine_steps.proofs.laws.dispatches_are_next.Goals as goal

pub returns : goal.returns
returns c =
    let laws : StepLaws = record { works = c.works_are_effects.ensures; steady = c.effects_stay_steady.ensures; next = c.next_is_first.ensures; outcomes = c.outcomes_are_exact.ensures; cuts = c.cuts_agree.ensures } in
    record {
      works = λ m may runs. slot-works laws m (good-now laws m may) runs;
      dispatched = λ m slot may works. works-dispatched laws m slot (good-now laws m may) works;
    }
