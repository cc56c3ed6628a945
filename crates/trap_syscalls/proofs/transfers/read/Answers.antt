use Rattle.std.proofs.Common.{◌≡◌, ◌∙◌, not, [], refl, sym, ap}
use Rattle.machine_types.specs.declared.touches.Access.TheVariants.{Write}
use Rattle.contents.specs.Conditions.{HasStore}
use Rattle.stores.specs.Known.{Any}
use Rattle.stores.proofs.Keeping.{stands-weaker}
use Rattle.machine.specs.Machines.{view_of}
use Rattle.machine.specs.Calls.{count_of_call}
use Rattle.trap_syscalls.specs.declared.call.Call.{Call}
use Rattle.trap_syscalls.proofs.TransferLemmas.{tested-closed, tested-nothing, tested-fault, tested-passed, for-reading, read-tested, fault-of}
use Rattle.trap_syscalls.proofs.TransferredWorlds.{asks, called-as, looked-at}
use Rattle.trap_syscalls.proofs.transfers.read.Goals as goal

pub returns-then-ne-clause-called : goal.returns-then-ne-clause-called
returns-then-ne-clause-called g c m p d world there stands =
    let call = c.args.call.now in
    let v = view_of m call.slot p in
    let asked = asks m c.args.world.now call p c.requires.asked world there in
    let looked = looked-at m c.args.world.now call p c.look.result world asked c.look.ensures in
    let closed = for-reading c.look.result c.ne.result c.ne.ensures ∙ ap not c.if-ne.true in
    called-as m call.slot p _ _ _ _ (read-tested v d c.look.result looked ∙ tested-closed v d Write _ _ closed) (c.refuse.ensures.called m p d world there)

pub returns-then-ne-clause-content : goal.returns-then-ne-clause-content
returns-then-ne-clause-content g c m p d world there stands =
    let call = c.args.call.now in
    let v = view_of m call.slot p in
    let asked = asks m c.args.world.now call p c.requires.asked world there in
    let looked = looked-at m c.args.world.now call p c.look.result world asked c.look.ensures in
    let closed = for-reading c.look.result c.ne.result c.ne.ensures ∙ ap not c.if-ne.true in
    rw (read-tested v d c.look.result looked ∙ tested-closed v d Write _ _ closed) stands

pub returns-then-call-eq0-clause-called : goal.returns-then-call-eq0-clause-called
returns-then-call-eq0-clause-called g c m p d world there stands =
    let call = c.args.call.now in
    let v = view_of m call.slot p in
    let asked = asks m c.args.world.now call p c.requires.asked world there in
    let looked = looked-at m c.args.world.now call p c.look.result world asked c.look.ensures in
    let opened = for-reading c.look.result c.ne.result c.ne.ensures ∙ ap not c.if-ne.false in
    let count : call.count ≡ count_of_call v = ap (λ (call : Call). call.count) asked in
    called-as m call.slot p _ _ _ _ (read-tested v d c.look.result looked ∙ tested-nothing v d Write _ _ opened (sym count ∙ c.if-call-eq0.true)) (c.answer.ensures.called m p d [] world there refl)

pub returns-then-call-eq0-clause-content : goal.returns-then-call-eq0-clause-content
returns-then-call-eq0-clause-content g c m p d world there stands =
    let call = c.args.call.now in
    let v = view_of m call.slot p in
    let asked = asks m c.args.world.now call p c.requires.asked world there in
    let looked = looked-at m c.args.world.now call p c.look.result world asked c.look.ensures in
    let opened = for-reading c.look.result c.ne.result c.ne.ensures ∙ ap not c.if-ne.false in
    let count : call.count ≡ count_of_call v = ap (λ (call : Call). call.count) asked in
    rw (read-tested v d c.look.result looked ∙ tested-nothing v d Write _ _ opened (sym count ∙ c.if-call-eq0.true)) stands

pub may_transfer-requires-clause-some : goal.may_transfer-requires-clause-some
may_transfer-requires-clause-some g c = stands-weaker g.S.Stores.stands_for c.args.space.now (HasStore c.args.call.now.region) Any (λ d has. tt) c.requires.store

pub returns-then-not-may_transfer-clause-called : goal.returns-then-not-may_transfer-clause-called
returns-then-not-may_transfer-clause-called g c m p d world there stands =
    let call = c.args.call.now in
    let v = view_of m call.slot p in
    let asked = asks m c.args.world.now call p c.requires.asked world there in
    let looked = looked-at m c.args.world.now call p c.look.result world asked c.look.ensures in
    let opened = for-reading c.look.result c.ne.result c.ne.ensures ∙ ap not c.if-ne.false in
    let count : call.count ≡ count_of_call v = ap (λ (call : Call). call.count) asked in
    let fault = fault-of p d Write call.count (count_of_call v) c.may_transfer.result count (c.may_transfer.ensures.is p d asked stands) ∙ ap not c.if-not-may_transfer.true in
    called-as m call.slot p _ _ _ _ (read-tested v d c.look.result looked ∙ tested-fault v d Write _ _ opened (λ none. c.if-call-eq0.false (count ∙ none)) fault)
    (c.refuse-then-not-may_transfer.ensures.called m p d world there)

pub returns-then-not-may_transfer-clause-content : goal.returns-then-not-may_transfer-clause-content
returns-then-not-may_transfer-clause-content g c m p d world there stands =
    let call = c.args.call.now in
    let v = view_of m call.slot p in
    let asked = asks m c.args.world.now call p c.requires.asked world there in
    let looked = looked-at m c.args.world.now call p c.look.result world asked c.look.ensures in
    let opened = for-reading c.look.result c.ne.result c.ne.ensures ∙ ap not c.if-ne.false in
    let count : call.count ≡ count_of_call v = ap (λ (call : Call). call.count) asked in
    let fault = fault-of p d Write call.count (count_of_call v) c.may_transfer.result count (c.may_transfer.ensures.is p d asked stands) ∙ ap not c.if-not-may_transfer.true in
    rw (read-tested v d c.look.result looked ∙ tested-fault v d Write _ _ opened (λ none. c.if-call-eq0.false (count ∙ none)) fault) stands

pub returns-clause-called : goal.returns-clause-called
returns-clause-called g c m p d world there stands =
    let call = c.args.call.now in
    let v = view_of m call.slot p in
    let asked = asks m c.args.world.now call p c.requires.asked world there in
    let looked = looked-at m c.args.world.now call p c.look.result world asked c.look.ensures in
    let opened = for-reading c.look.result c.ne.result c.ne.ensures ∙ ap not c.if-ne.false in
    let count : call.count ≡ count_of_call v = ap (λ (call : Call). call.count) asked in
    let fault = fault-of p d Write call.count (count_of_call v) c.may_transfer.result count (c.may_transfer.ensures.is p d asked stands) ∙ ap not c.if-not-may_transfer.false in
    called-as m call.slot p _ _ _ _ (read-tested v d c.look.result looked ∙ tested-passed v d Write _ _ opened (λ none. c.if-call-eq0.false (count ∙ none)) fault)
    (c.read_console.ensures.called m p d world there stands)

pub returns-clause-content : goal.returns-clause-content
returns-clause-content g c m p d world there stands =
    let call = c.args.call.now in
    let v = view_of m call.slot p in
    let asked = asks m c.args.world.now call p c.requires.asked world there in
    let looked = looked-at m c.args.world.now call p c.look.result world asked c.look.ensures in
    let opened = for-reading c.look.result c.ne.result c.ne.ensures ∙ ap not c.if-ne.false in
    let count : call.count ≡ count_of_call v = ap (λ (call : Call). call.count) asked in
    let fault = fault-of p d Write call.count (count_of_call v) c.may_transfer.result count (c.may_transfer.ensures.is p d asked stands) ∙ ap not c.if-not-may_transfer.false in
    rw (read-tested v d c.look.result looked ∙ tested-passed v d Write _ _ opened (λ none. c.if-call-eq0.false (count ∙ none)) fault) (c.read_console.ensures.content m p d world there stands)
