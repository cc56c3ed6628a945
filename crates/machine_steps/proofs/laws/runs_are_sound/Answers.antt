use Rattle.std.proofs.Common.{refl}
use Rattle.machine_steps.specs.Runs.{start}
use Rattle.machine_steps.proofs.GoodSteps.{StepLaws}
use Rattle.machine_steps.proofs.SoundRuns.{state-machine, state-sound}
use Rattle.machine_steps.proofs.StartedMachines.{start-machine, start-sound}
use Rattle.machine_steps.proofs.laws.runs_are_sound.Goals as goal

pub returns : goal.returns
returns c =
    let laws : StepLaws = record { works = c.works_are_effects.ensures; steady = c.effects_stay_steady.ensures; next = c.next_is_first.ensures; outcomes = c.outcomes_are_exact.ensures; cuts = c.cuts_agree.ensures } in
    let machine = start-machine c.images_are_sound.ensures c.pages_are_moved.ensures c.calls_keep_whole.ensures c.starts_are_exact.ensures c.starts_may_run.ensures c.cuts_agree.ensures in
    let sound = start-sound c.images_are_sound.ensures c.pages_are_moved.ensures c.calls_keep_whole.ensures c.starts_are_exact.ensures c.starts_may_run.ensures c.cuts_agree.ensures in
    record {
      start_machine = machine;
      start_sound = sound;
      machine = λ setup k may few. state-machine laws (start setup) k (machine setup may) (sound setup may) refl few;
      sound = λ setup k may few. state-sound laws (start setup) k (machine setup may) (sound setup may) refl few;
    }
