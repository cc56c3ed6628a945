use Rattle.std.proofs.Common.{◌∙◌, sym, ap, Bool, Option, ℕ, is_some}
use Rattle.std.specs.List.{list_any}
use Rattle.machine.specs.Processes.{lives}
use Rattle.machine.specs.Readiness.{outcome_as}
use Rattle.process_table.specs.Tables.{next_marked}
use Rattle.kernel_loop.proofs.Picking.{core-kept, last-low, runs-some, outcome-by}
use Rattle.kernel_loop.proofs.stepping.Core.outcome.Goals as goal

pub returns-then-is_some : goal.returns-then-is_some
returns-then-is_some g c = runs-some g.S.Stores.stands_for c.args.self.now c.requires.can c.outcomes_are_exact.ensures c.current.result c.current.ensures (sym c.is_some.ensures ∙ c.if-is_some.true)

pub next_ready-next-requires : goal.next_ready-next-requires
next_ready-next-requires g c = last-low g.S.Stores.stands_for c.args.self.now c.requires.can c.last.result c.last.ensures

pub returns : goal.returns
returns g c m stands =
    let k = c.args.self.now in
    c.outcome_by.ensures
    ∙ ap (λ (b : Bool). outcome_as b c.is_some-2.result) c.is_any_live.ensures
    ∙ ap (outcome_as (list_any lives k.world.processes.processes)) (c.is_some-2.ensures ∙ ap (λ (o : Option ℕ). is_some o) (c.next_ready-next.ensures ∙ ap (next_marked k.world.processes) c.last.ensures))
    ∙ sym (outcome-by g.S.Stores.stands_for k m stands (core-kept g.S.Stores.stands_for k c.requires.can))
