use Rattle.std.proofs.Common.{ap, sym, ◌∙◌, Some}
use Rattle.cheri_step.specs.Plans.{displaced}
use Rattle.cheri_step.proofs.Works.{load-work, load-fits, store-work, store-fits}
use Rattle.cheri_step.proofs.step.execute.Goals as goal

pub returns-in-Some-Load-clause-work : goal.returns-in-Some-Load-clause-work
returns-in-Some-Load-clause-work g c d stands =
    load-work c.args.regs.now c.load.new.regs c.args.pcc.now c.load.new.pcc c.args.region c.args.word d c.in-Some-Load.op c.in-Some-Load.rd c.in-Some-Load.rs1 c.in-Some-Load.imm c.get-authority.result c.displaced-address.result c.access-accessed.result c.load.result (g.S.Stores.stands_for c.access-accessed.new.space)
    (sym c.decode.ensures.is ∙ c.in-Some-Load.is ∙ ap Some c.in-Some-Load.field-0-is) c.get-authority.ensures.value
    (c.displaced-address.ensures ∙ ap (displaced c.get-authority.result) (load-fits c.in-Some-Load.field-0 c.in-Some-Load.op c.in-Some-Load.rd c.in-Some-Load.rs1 c.in-Some-Load.imm c.in-Some-Load.ensures.range c.in-Some-Load.field-0-is))
    (c.access-accessed.ensures.answer d stands) (c.access-accessed.ensures.after d stands) (c.load.ensures.work d _)

pub returns-in-Some-Store-clause-work : goal.returns-in-Some-Store-clause-work
returns-in-Some-Store-clause-work g c d stands =
    store-work c.args.regs.now c.args.pcc.now c.store.new.pcc c.args.region c.args.word d c.in-Some-Store.op c.in-Some-Store.rs1 c.in-Some-Store.rs2 c.in-Some-Store.imm c.get-authority-in-Some-Store.result c.displaced-address-in-Some-Store.result c.get.result c.access.result c.store.result (g.S.Stores.stands_for c.access.new.space)
    (sym c.decode.ensures.is ∙ c.in-Some-Store.is ∙ ap Some c.in-Some-Store.field-0-is) c.get-authority-in-Some-Store.ensures.value
    (c.displaced-address-in-Some-Store.ensures ∙ ap (displaced c.get-authority-in-Some-Store.result) (store-fits c.in-Some-Store.field-0 c.in-Some-Store.op c.in-Some-Store.rs1 c.in-Some-Store.rs2 c.in-Some-Store.imm c.in-Some-Store.ensures.range c.in-Some-Store.field-0-is))
    c.get.ensures.value (c.access.ensures.answer d stands) (c.access.ensures.after d stands) (c.store.ensures.work c.args.regs.now d _)
