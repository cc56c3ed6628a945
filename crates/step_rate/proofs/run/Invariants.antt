use Rattle.stores.specs.Known.{StandsFor}
use Rattle.cheri_step.specs.Effect.{CanStep}
use Rattle.step_rate.proofs.run.Given as goal

-- the process may make a step
abbrev pub invariant-loop-made : goal.invariant-loop-made
invariant-loop-made g l = ∥ StandsFor g.S.Stores.stands_for l.space (CanStep 0 l.regs l.pcc) ∥₁
