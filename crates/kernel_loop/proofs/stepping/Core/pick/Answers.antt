use Rattle.std.proofs.Common.{◌∙◌, sym, ap}
use Rattle.process_table.specs.Tables.{next_marked}
use Rattle.kernel_loop.proofs.Picking.{core-kept, last-low, never-none, picks-next}
use Rattle.kernel_loop.proofs.stepping.Core.pick.Goals as goal

pub next_ready-requires : goal.next_ready-requires
next_ready-requires g c = last-low g.S.Stores.stands_for c.args.self.now c.requires.can c.last.result c.last.ensures

pub returns-in-Some-next_ready-clause-picked : goal.returns-in-Some-next_ready-clause-picked
returns-in-Some-next_ready-clause-picked g c m stands =
    let k = c.args.self.now in
    picks-next g.S.Stores.stands_for k c.in-Some-next_ready.slot c.dispatch.result c.dispatch.new.self m (core-kept g.S.Stores.stands_for k c.requires.can) (sym c.current.ensures ∙ c.in_default.is)
    (ap (next_marked k.world.processes) (sym c.last.ensures) ∙ sym c.next_ready.ensures ∙ c.in-Some-next_ready.is) c.dispatch.ensures.is c.dispatch.ensures.quantum stands

pub returns-in-None-clause-picked : goal.returns-in-None-clause-picked
returns-in-None-clause-picked g c m stands = absurd (never-none g.S.Stores.stands_for c.args.self.now c.requires.can c.last.result c.last.ensures (sym c.next_ready.ensures ∙ c.in-None.is))
