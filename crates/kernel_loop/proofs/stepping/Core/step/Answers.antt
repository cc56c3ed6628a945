use Rattle.kernel_loop.proofs.Stepped.{forks-low, may-work, slot-low, marks-long, are-named, steps-low, next-stands, report-is, piece-is, kept-again}
use Rattle.kernel_loop.proofs.stepping.Core.step.Goals as goal

pub work-worked-requires-clause-forks : goal.work-worked-requires-clause-forks
work-worked-requires-clause-forks g c =
    forks-low g.S.Stores.stands_for c.args.self.now c.pick-slot.new.self c.pick-slot.result c.requires.can c.pick-slot.ensures.picked c.pick-slot.ensures.rest c.dispatches_are_next.ensures

pub work-worked-requires-clause-may : goal.work-worked-requires-clause-may
work-worked-requires-clause-may g c =
    may-work g.S.Stores.stands_for c.args.self.now c.pick-slot.new.self c.pick-slot.result c.requires.can c.pick-slot.ensures.picked c.pick-slot.ensures.rest c.dispatches_are_next.ensures

pub remark-requires-clause-slot : goal.remark-requires-clause-slot
remark-requires-clause-slot g c =
    slot-low g.S.Stores.stands_for c.args.self.now c.pick-slot.new.self c.pick-slot.result c.requires.can c.pick-slot.ensures.picked c.pick-slot.ensures.rest c.dispatches_are_next.ensures
    c.work-worked.new.world c.work-worked.new.space c.work-worked.result c.work-worked.ensures.worked c.work-worked.ensures.content c.work-worked.ensures.marks c.machines_stay_machines.ensures

pub remark-requires-clause-marks : goal.remark-requires-clause-marks
remark-requires-clause-marks g c =
    marks-long g.S.Stores.stands_for c.args.self.now c.pick-slot.new.self c.pick-slot.result c.requires.can c.pick-slot.ensures.picked c.pick-slot.ensures.rest c.dispatches_are_next.ensures
    c.work-worked.new.world c.work-worked.new.space c.work-worked.result c.work-worked.ensures.worked c.work-worked.ensures.content c.work-worked.ensures.marks c.machines_stay_machines.ensures

pub remark-requires-clause-named : goal.remark-requires-clause-named
remark-requires-clause-named g c =
    are-named g.S.Stores.stands_for c.args.self.now c.pick-slot.new.self c.pick-slot.result c.requires.can c.pick-slot.ensures.picked c.pick-slot.ensures.rest c.dispatches_are_next.ensures
    c.work-worked.new.world c.work-worked.new.space c.work-worked.result c.work-worked.ensures.worked c.work-worked.ensures.content c.work-worked.ensures.marks c.machines_stay_machines.ensures

pub settle-requires : goal.settle-requires
settle-requires g c =
    steps-low g.S.Stores.stands_for c.args.self.now c.pick-slot.new.self c.pick-slot.result c.requires.can c.pick-slot.ensures.picked c.pick-slot.ensures.rest c.dispatches_are_next.ensures
    c.work-worked.new.world c.work-worked.new.space c.work-worked.result c.work-worked.ensures.worked c.work-worked.ensures.content c.work-worked.ensures.marks c.machines_stay_machines.ensures

pub returns-clause-next : goal.returns-clause-next
returns-clause-next g c =
    next-stands g.S.Stores.stands_for c.args.self.now c.pick-slot.new.self c.pick-slot.result c.requires.can c.pick-slot.ensures.picked c.pick-slot.ensures.rest c.dispatches_are_next.ensures
    c.work-worked.new.world c.work-worked.new.space c.work-worked.result c.work-worked.ensures.worked c.work-worked.ensures.content c.work-worked.ensures.marks c.machines_stay_machines.ensures
    c.remark.new.world c.settle.new.self c.is_marked-ready.result c.is_spent.result c.stops-stops.result c.remark.ensures.rest c.remark.ensures.long c.remark.ensures.own c.remark.ensures.others
    c.is_marked-ready.ensures c.is_spent.ensures c.stops-stops.ensures c.settle.ensures

pub returns-clause-report : goal.returns-clause-report
returns-clause-report g c =
    report-is g.S.Stores.stands_for c.args.self.now c.pick-slot.new.self c.pick-slot.result c.requires.can c.pick-slot.ensures.picked c.pick-slot.ensures.rest c.dispatches_are_next.ensures
    c.work-worked.new.world c.work-worked.new.space c.work-worked.result c.work-worked.ensures.worked c.work-worked.ensures.content c.work-worked.ensures.marks c.machines_stay_machines.ensures
    c.remark.new.world c.settle.new.self c.is_marked-ready.result c.is_spent.result c.stops-stops.result c.remark.ensures.rest c.remark.ensures.long c.remark.ensures.own c.remark.ensures.others
    c.is_marked-ready.ensures c.is_spent.ensures c.stops-stops.ensures c.settle.ensures

pub returns-clause-printed : goal.returns-clause-printed
returns-clause-printed g c =
    piece-is g.S.Stores.stands_for c.args.self.now c.pick-slot.new.self c.pick-slot.result c.requires.can c.pick-slot.ensures.picked c.pick-slot.ensures.rest c.dispatches_are_next.ensures
    c.work-worked.new.world c.work-worked.new.space c.work-worked.result c.work-worked.ensures.worked c.work-worked.ensures.content c.work-worked.ensures.marks c.machines_stay_machines.ensures
    c.remark.new.world c.settle.new.self c.is_marked-ready.result c.is_spent.result c.stops-stops.result c.remark.ensures.rest c.remark.ensures.long c.remark.ensures.own c.remark.ensures.others
    c.is_marked-ready.ensures c.is_spent.ensures c.stops-stops.ensures c.settle.ensures

pub returns-clause-kept : goal.returns-clause-kept
returns-clause-kept g c =
    kept-again g.S.Stores.stands_for c.args.self.now c.pick-slot.new.self c.pick-slot.result c.requires.can c.pick-slot.ensures.picked c.pick-slot.ensures.rest c.dispatches_are_next.ensures
    c.work-worked.new.world c.work-worked.new.space c.work-worked.result c.work-worked.ensures.worked c.work-worked.ensures.content c.work-worked.ensures.marks c.machines_stay_machines.ensures
    c.remark.new.world c.settle.new.self c.is_marked-ready.result c.is_spent.result c.stops-stops.result c.remark.ensures.rest c.remark.ensures.long c.remark.ensures.own c.remark.ensures.others
    c.is_marked-ready.ensures c.is_spent.ensures c.stops-stops.ensures c.settle.ensures
