use Rattle.std.proofs.Common.{sym, refl, subst, Ok, Err}
use Rattle.machine.specs.Effects.{Effect}
use Rattle.trap_syscalls.specs.Worlds.{HasCalled}
use Rattle.trap_syscalls.proofs.ForkedWorlds.{full-row, planless-row, placed-row, lacking-called}
use Rattle.trap_syscalls.proofs.forks.fork.Goals as goal

pub returns-in_default-clause-called : goal.returns-in_default-clause-called
returns-in_default-clause-called g c = λ m p content is there stands.
    let row = full-row c.places_are_lowest.ensures m c.args.world.now c.args.call.now p content is c.requires.asked there c.in_default.ensures.is in
    subst (λ (e : Effect). HasCalled m c.args.call.now.slot p e c.refuse.result c.refuse.new.world) (sym row) (c.refuse.ensures.called m p content is there)

pub returns-in_default-clause-content : goal.returns-in_default-clause-content
returns-in_default-clause-content g c = λ m p content is there stands.
    let row = full-row c.places_are_lowest.ensures m c.args.world.now c.args.call.now p content is c.requires.asked there c.in_default.ensures.is in
    subst (λ (e : Effect). g.S.Stores.stands_for c.args.space.now e.content) (sym row) stands

pub returns-in_default-lowest_free-clause-called : goal.returns-in_default-lowest_free-clause-called
returns-in_default-lowest_free-clause-called g c = λ m p content is there stands.
    let row =
    planless-row c.places_are_lowest.ensures m c.args.world.now c.args.call.now p content is c.requires.asked there
    c.in-Some.slot c.in-Some.ensures.is (c.in_default-lowest_free.ensures.none.0 refl)
    in
    subst (λ (e : Effect). HasCalled m c.args.call.now.slot p e c.refuse-in_default-lowest_free.result c.refuse-in_default-lowest_free.new.world) (sym row)
    (c.refuse-in_default-lowest_free.ensures.called m p content is there)

pub returns-in_default-lowest_free-clause-content : goal.returns-in_default-lowest_free-clause-content
returns-in_default-lowest_free-clause-content g c = λ m p content is there stands.
    let row =
    planless-row c.places_are_lowest.ensures m c.args.world.now c.args.call.now p content is c.requires.asked there
    c.in-Some.slot c.in-Some.ensures.is (c.in_default-lowest_free.ensures.none.0 refl)
    in
    subst (λ (e : Effect). g.S.Stores.stands_for c.args.space.now e.content) (sym row) stands

pub returns-in-Ok-clause-called : goal.returns-in-Ok-clause-called
returns-in-Ok-clause-called g c = λ m p content is there stands.
    let row =
    placed-row c.places_are_lowest.ensures m c.args.world.now c.args.call.now p content is c.requires.asked there
    c.in-Some.slot c.in-Some-lowest_free.region (Ok c.in-Ok.field-0) c.in-Some.ensures.is c.in-Some-lowest_free.ensures.lowest (c.in-Ok.ensures.answer content stands)
    in
    subst (λ (e : Effect). HasCalled m c.args.call.now.slot p e c.add_child.result c.add_child.new.world) (sym row) (c.add_child.ensures.called m p _ is there)

pub returns-in-Ok-clause-content : goal.returns-in-Ok-clause-content
returns-in-Ok-clause-content g c = λ m p content is there stands.
    let row =
    placed-row c.places_are_lowest.ensures m c.args.world.now c.args.call.now p content is c.requires.asked there
    c.in-Some.slot c.in-Some-lowest_free.region (Ok c.in-Ok.field-0) c.in-Some.ensures.is c.in-Some-lowest_free.ensures.lowest (c.in-Ok.ensures.answer content stands)
    in
    subst (λ (e : Effect). g.S.Stores.stands_for c.fork.new.self e.content) (sym row) (c.fork.ensures.after content stands)

pub returns-in-Err-clause-called : goal.returns-in-Err-clause-called
returns-in-Err-clause-called g c = λ m p content is there stands.
    let row =
    placed-row c.places_are_lowest.ensures m c.args.world.now c.args.call.now p content is c.requires.asked there
    c.in-Some.slot c.in-Some-lowest_free.region (Err c.in-Err.field-0) c.in-Some.ensures.is c.in-Some-lowest_free.ensures.lowest (c.in-Err.ensures.answer content stands)
    in
    subst (λ (e : Effect). HasCalled m c.args.call.now.slot p e c.refuse-in-Err.result c.refuse-in-Err.new.world) (sym row)
    (lacking-called m c.args.call.now.slot p _ c.refuse-in-Err.result c.refuse-in-Err.new.world (c.refuse-in-Err.ensures.called m p _ is there))

pub returns-in-Err-clause-content : goal.returns-in-Err-clause-content
returns-in-Err-clause-content g c = λ m p content is there stands.
    let row =
    placed-row c.places_are_lowest.ensures m c.args.world.now c.args.call.now p content is c.requires.asked there
    c.in-Some.slot c.in-Some-lowest_free.region (Err c.in-Err.field-0) c.in-Some.ensures.is c.in-Some-lowest_free.ensures.lowest (c.in-Err.ensures.answer content stands)
    in
    subst (λ (e : Effect). g.S.Stores.stands_for c.fork.new.self e.content) (sym row) (c.fork.ensures.after content stands)
