-- A kernel that made a step stands for a sound machine again.
use Rattle.std.proofs.Common.{◌≡◌, ◌<◌, ap, arith}
use Rattle.std.proofs.Math.Logic.{∥∥₁_map}
use Rattle.contents.specs.Content.{Content}
use Rattle.machine_types.specs.declared.config.Outcome.TheVariants.{Running}
use Rattle.machine.specs.Machines.{Machine}
use Rattle.machine.specs.Readiness.{outcome_of}
use Rattle.machine.specs.Steady.{CutsAgree}
use Rattle.machine_steps.specs.Numbers.{step_limit}
use Rattle.machine_steps.specs.Steps.{step_of}
use Rattle.machine_steps.specs.Laws.{StepsStayGood, MachinesStayMachines}
use Rattle.kernel_loop.specs.declared.stepping.Core.{Core}
use Rattle.kernel_loop.specs.Stands.{CoreStands, IsKept, SomeMachine, Any, CanStep}

module _ {S : Type 0} (stands_for : S → Content → Type 0) (k : Core S) (sound : ∥ SomeMachine stands_for k Any ∥₁) (early : k.clock.steps < step_limit) where
  -- each machine that stands has made as few steps
  is-early : (s : SomeMachine stands_for k Any) → s.machine.clock.steps < step_limit
  is-early s = let same = ap (λ (n : Machine). n.clock.steps) s.stands.is in omega (arith, same, early)

  pub may-step : ((m : Machine) → CoreStands stands_for k m → outcome_of m ≡ Running) → ∥ SomeMachine stands_for k CanStep ∥₁
  may-step running = ∥∥₁_map sound (λ (s : SomeMachine stands_for k Any). record {
    machine = s.machine;
    stands = s.stands;
    is = s.is;
    sound = s.sound;
    kept = s.kept;
    has = record { running = running s.machine s.stands; early = is-early s };
  })

  pub stays-sound : (j : Core S) → MachinesStayMachines → StepsStayGood → CutsAgree → ((m : Machine) → CoreStands stands_for k m → CoreStands stands_for j (step_of m).next) → IsKept j → ∥ SomeMachine stands_for j Any ∥₁
  stays-sound j machines good cuts next kept = ∥∥₁_map sound (λ (s : SomeMachine stands_for k Any). record {
    machine = (step_of s.machine).next;
    stands = next s.machine s.stands;
    is = machines s.machine (record { machine = s.is; sound = s.sound; steps = is-early s });
    sound = cuts.sound (step_of s.machine).next (good s.machine (is-early s) (cuts.good s.machine s.is s.sound));
    kept = kept;
    has = tt;
  })
