use Rattle.std.proofs.Common.{◌≡◌, ◌∙◌, sym, ap}
use Rattle.machine.specs.Machines.{view_of}
use Rattle.machine.specs.Calls.{count_of_call}
use Rattle.trap_syscalls.specs.declared.call.Call.{Call}
use Rattle.trap_syscalls.proofs.TransferLemmas.{sent-all, sent-part}
use Rattle.trap_syscalls.proofs.TransferredWorlds.{asks, called-as}
use Rattle.trap_syscalls.proofs.transfers.sent.Goals as goal

pub returns-then-done-call-clause-called : goal.returns-then-done-call-clause-called
returns-then-done-call-clause-called c m p d notes world there touches =
    let v = view_of m c.args.call.now.slot p in
    let count : c.args.call.now.count ≡ count_of_call v = ap (λ (call : Call). call.count) (asks m _ _ p c.requires.asked world there) in
    called-as m _ p _ _ _ _ (sent-all v d notes c.args.done (c.if-done-call.true ∙ count)) (c.answer.ensures.called m p d notes world there touches)

pub returns-else-done-call-clause-called : goal.returns-else-done-call-clause-called
returns-else-done-call-clause-called c m p d notes world there touches =
    let v = view_of m c.args.call.now.slot p in
    let count : c.args.call.now.count ≡ count_of_call v = ap (λ (call : Call). call.count) (asks m _ _ p c.requires.asked world there) in
    called-as m _ p _ _ _ _ (sent-part v d notes c.args.done (λ all. c.if-done-call.false (all ∙ sym count))) (c.wait_in.ensures.called m p d notes world there touches)
