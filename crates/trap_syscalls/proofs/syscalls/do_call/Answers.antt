-- What a sound machine says of its caller is what the table of calls asks for.
use Rattle.std.proofs.Common.{◌≡◌, ◌∙◌, ap, subst, ℕ}
use Rattle.machine.specs.Processes.{process_at}
use Rattle.machine.specs.Machines.{view_of}
use Rattle.machine.specs.Calls.{called}
use Rattle.trap_syscalls.specs.declared.call.Call.{Call}
use Rattle.trap_syscalls.specs.Worlds.{HasCalled}
use Rattle.trap_syscalls.proofs.GoingWorlds.{caller-there}
use Rattle.trap_syscalls.proofs.Callers.{live-caller, caller-live, caller-calling, caller-asked, caller-reap, caller-fork, caller-store, caller-free}
use Rattle.trap_syscalls.proofs.syscalls.do_call.Goals as goal

pub call_at-call-requires : goal.call_at-call-requires
call_at-call-requires g c = caller-live g.S.Stores.stands_for c.args.world.now c.args.space.now c.args.slot (live-caller g.S.Stores.stands_for c.args.world.now c.args.space.now c.args.slot c.requires.caller)

pub serve-requires-clause-calling : goal.serve-requires-clause-calling
serve-requires-clause-calling g c = caller-calling g.S.Stores.stands_for c.args.world.now c.args.space.now c.args.slot (live-caller g.S.Stores.stands_for c.args.world.now c.args.space.now c.args.slot c.requires.caller) c.call_at-call.result c.call_at-call.ensures c.requires.forks

pub serve-requires-clause-asked : goal.serve-requires-clause-asked
serve-requires-clause-asked g c = caller-asked g.S.Stores.stands_for c.args.world.now c.args.space.now c.args.slot (live-caller g.S.Stores.stands_for c.args.world.now c.args.space.now c.args.slot c.requires.caller) c.call_at-call.result c.call_at-call.ensures

pub serve-requires-clause-reap : goal.serve-requires-clause-reap
serve-requires-clause-reap g c =
    caller-reap g.S.Stores.stands_for c.args.world.now c.args.space.now c.args.slot (live-caller g.S.Stores.stands_for c.args.world.now c.args.space.now c.args.slot c.requires.caller) c.call_at-call.result c.call_at-call.ensures c.children_are_found.ensures c.requires.forks

pub serve-requires-clause-fork : goal.serve-requires-clause-fork
serve-requires-clause-fork g c =
    caller-fork g.S.Stores.stands_for c.args.world.now c.args.space.now c.args.slot (live-caller g.S.Stores.stands_for c.args.world.now c.args.space.now c.args.slot c.requires.caller) c.call_at-call.result c.call_at-call.ensures c.requires.caller c.code_goes_on.ensures c.requires.forks

pub serve-requires-clause-store : goal.serve-requires-clause-store
serve-requires-clause-store g c = caller-store g.S.Stores.stands_for c.args.world.now c.args.space.now c.args.slot (live-caller g.S.Stores.stands_for c.args.world.now c.args.space.now c.args.slot c.requires.caller) c.call_at-call.result c.call_at-call.ensures

pub serve-requires-clause-free : goal.serve-requires-clause-free
serve-requires-clause-free g c = caller-free g.S.Stores.stands_for c.args.world.now c.args.space.now c.args.slot (live-caller g.S.Stores.stands_for c.args.world.now c.args.space.now c.args.slot c.requires.caller)

pub returns-clause-called : goal.returns-clause-called
returns-clause-called g c m p d is there stands =
    let slot : ℕ = c.args.slot in
    let same : c.call_at-call.result.slot ≡ slot = ap (λ (call : Call). call.slot) (c.call_at-call.ensures p (caller-there m c.args.world.now slot p is there)) in
    subst (λ (k : ℕ). HasCalled m k p (called (view_of m k p) d) c.serve.result c.serve.new.world) same
    (c.serve.ensures.called m p d is (ap (process_at m.processes) same ∙ there) stands)
