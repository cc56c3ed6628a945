-- What a step leaves of soundness and of what a machine is, from the cut by which steps keep them.
use Rattle.machine.specs.Machines.{Machine}
use Rattle.machine.specs.Shape.{IsMachine}
use Rattle.machine.specs.Sound.{Sound}
use Rattle.machine.specs.Steady.{IsGood, CutsAgree}
use Rattle.machine_steps.specs.Steps.{step_of}
use Rattle.machine_steps.specs.Laws.{MayStep, StepsStayGood}

-- a machine that may step is good after the step
good-after : CutsAgree → StepsStayGood → (m : Machine) → MayStep m → IsGood (step_of m).next
good-after cuts steps m may = steps m may.steps (cuts.good m may.machine may.sound)

-- so it is a machine
pub machine-after : CutsAgree → StepsStayGood → (m : Machine) → MayStep m → IsMachine (step_of m).next
machine-after cuts steps m may = cuts.machine (step_of m).next (good-after cuts steps m may)

-- and a sound one
pub sound-after : CutsAgree → StepsStayGood → (m : Machine) → MayStep m → Sound (step_of m).next
sound-after cuts steps m may = cuts.sound (step_of m).next (good-after cuts steps m may)
