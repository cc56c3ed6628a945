use Rattle.std.proofs.Common.{ap, sym, ◌∙◌}
use Rattle.cheri_step.specs.Plans.{goes_on}
use Rattle.cheri_step.proofs.step.give.Goals as goal

pub returns : goal.returns
returns c = ap (λ registers. goes_on registers c.args.pcc.now) (sym c.put.ensures.is) ∙ c.go_on.ensures c.put.new.self
