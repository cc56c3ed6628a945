use Rattle.std.proofs.Common.{◌≡◌, sym, ap, refl, subst, ℕ, [], false}
use Rattle.machine.specs.Machines.{view_of}
use Rattle.machine.specs.Calls.{row}
use Rattle.machine.specs.Calls as calls
use Rattle.trap_syscalls.specs.declared.call.Call.{Call}
use Rattle.trap_syscalls.specs.Worlds.{HasCalled}
use Rattle.trap_syscalls.proofs.GoingWorlds.{caller-there}
use Rattle.trap_syscalls.proofs.CallRows.{called-by, content-by, exit-row, exit-content, other-call, waited-content, answer-row}
use Rattle.trap_syscalls.proofs.syscalls.serve.Goals as goal

pub returns-then-number-eq-EXIT-clause-called : goal.returns-then-number-eq-EXIT-clause-called
returns-then-number-eq-EXIT-clause-called g c m p content is there stands =
    let asked = c.requires.asked p (caller-there m c.args.world.now c.args.call.now.slot p is there) in
    called-by m c.args.call.now p content 1 _ _ asked c.if-number-eq-EXIT.true (exit-row m c.args.call.now p content _ _ asked (c.end.ensures.called m p content [] false is there refl))

pub returns-then-number-eq-EXIT-clause-content : goal.returns-then-number-eq-EXIT-clause-content
returns-then-number-eq-EXIT-clause-content g c m p content is there stands =
    let asked = c.requires.asked p (caller-there m c.args.world.now c.args.call.now.slot p is there) in
    content-by (g.S.Stores.stands_for c.end.new.space) m c.args.call.now p content 1 asked c.if-number-eq-EXIT.true (exit-content (g.S.Stores.stands_for c.end.new.space) m c.args.call.now p content asked (c.end.ensures.content content stands))

pub returns-then-number-eq-FORK-clause-called : goal.returns-then-number-eq-FORK-clause-called
returns-then-number-eq-FORK-clause-called g c m p content is there stands =
    let asked = c.requires.asked p (caller-there m c.args.world.now c.args.call.now.slot p is there) in
    called-by m c.args.call.now p content 2 _ _ asked c.if-number-eq-FORK.true (c.fork.ensures.called m p content is there stands)

pub returns-then-number-eq-WAIT-clause-called : goal.returns-then-number-eq-WAIT-clause-called
returns-then-number-eq-WAIT-clause-called g c m p content is there stands =
    let asked = c.requires.asked p (caller-there m c.args.world.now c.args.call.now.slot p is there) in
    called-by m c.args.call.now p content 3 _ _ asked c.if-number-eq-WAIT.true (c.wait.ensures.called m p content is there)

pub returns-then-number-eq-WAIT-clause-content : goal.returns-then-number-eq-WAIT-clause-content
returns-then-number-eq-WAIT-clause-content g c m p content is there stands =
    let asked = c.requires.asked p (caller-there m c.args.world.now c.args.call.now.slot p is there) in
    content-by (g.S.Stores.stands_for c.args.space.now) m c.args.call.now p content 3 asked c.if-number-eq-WAIT.true (waited-content (g.S.Stores.stands_for c.args.space.now) (view_of m c.args.call.now.slot p) content stands)

pub returns-then-number-eq-GETPID-clause-called : goal.returns-then-number-eq-GETPID-clause-called
returns-then-number-eq-GETPID-clause-called g c m p content is there stands =
    let asked = c.requires.asked p (caller-there m c.args.world.now c.args.call.now.slot p is there) in
    called-by m c.args.call.now p content 4 _ _ asked c.if-number-eq-GETPID.true (answer-row m c.args.call.now p content _ _ c.args.call.now.id p.id (ap (λ (call : Call). call.id) asked) (c.answer.ensures.called m p content [] is there refl))

pub returns-then-number-eq-GETPPID-clause-called : goal.returns-then-number-eq-GETPPID-clause-called
returns-then-number-eq-GETPPID-clause-called g c m p content is there stands =
    let asked = c.requires.asked p (caller-there m c.args.world.now c.args.call.now.slot p is there) in
    called-by m c.args.call.now p content 5 _ _ asked c.if-number-eq-GETPPID.true (answer-row m c.args.call.now p content _ _ c.args.call.now.parent p.parent (ap (λ (call : Call). call.parent) asked) (c.answer-then-number-eq-GETPPID.ensures.called m p content [] is there refl))

pub returns-then-number-eq-READ-clause-called : goal.returns-then-number-eq-READ-clause-called
returns-then-number-eq-READ-clause-called g c m p content is there stands =
    let asked = c.requires.asked p (caller-there m c.args.world.now c.args.call.now.slot p is there) in
    called-by m c.args.call.now p content 7 _ _ asked c.if-number-eq-READ.true (c.read.ensures.called m p content is there stands)

pub returns-then-number-eq-WRITE-clause-called : goal.returns-then-number-eq-WRITE-clause-called
returns-then-number-eq-WRITE-clause-called g c m p content is there stands =
    let asked = c.requires.asked p (caller-there m c.args.world.now c.args.call.now.slot p is there) in
    called-by m c.args.call.now p content 8 _ _ asked c.if-number-eq-WRITE.true (c.write.ensures.called m p content is there stands)

pub returns-then-number-eq-YIELD-clause-called : goal.returns-then-number-eq-YIELD-clause-called
returns-then-number-eq-YIELD-clause-called g c m p content is there stands =
    let asked = c.requires.asked p (caller-there m c.args.world.now c.args.call.now.slot p is there) in
    called-by m c.args.call.now p content 12 _ _ asked c.if-number-eq-YIELD.true (c.answer-then-number-eq-YIELD.ensures.called m p content [] is there refl)

pub returns-clause-called : goal.returns-clause-called
returns-clause-called g c m p content is there stands =
    let asked = c.requires.asked p (caller-there m c.args.world.now c.args.call.now.slot p is there) in
    let n : ℕ = c.args.call.now.number in
    let other : ◌≡◌ {A = calls.Call} (calls.call_of n) calls.Other =
    other-call n c.if-number-eq-EXIT.false c.if-number-eq-FORK.false c.if-number-eq-WAIT.false c.if-number-eq-GETPID.false c.if-number-eq-GETPPID.false c.if-number-eq-READ.false c.if-number-eq-WRITE.false c.if-number-eq-YIELD.false in
    called-by m c.args.call.now p content n _ _ asked refl
    (subst (λ (k : calls.Call). HasCalled m c.args.call.now.slot p (row k (view_of m c.args.call.now.slot p) content) c.refuse.result c.refuse.new.world) (sym other) (c.refuse.ensures.called m p content is there))
