use Rattle.machine_steps.proofs.InstructionEffects.{effect-is}
use Rattle.machine_steps.proofs.laws.works_are_effects.Goals as goal

pub returns : goal.returns
returns c =
    λ m slot p can. effect-is m slot p can (record { calls = c.calls_are_effects.ensures; contents = c.calls_keep_sound.ensures; others = c.effects_leave_others.ensures; running = c.effects_keep_running.ensures; faults = c.faults_change_nothing.ensures })
