use Rattle.std.proofs.Common.{◌≡◌, ◌∙◌, ap, subst, refl, ℕ, []}
use Rattle.contents.specs.Regions.{end_of}
use Rattle.machine.specs.Processes.{process_at}
use Rattle.machine.specs.Machines.{view_of}
use Rattle.machine.specs.Effects.{ends}
use Rattle.machine.specs.Applying.{applied}
use Rattle.trap_syscalls.specs.declared.call.Call.{Call}
use Rattle.trap_syscalls.specs.Worlds.{IsWorldOf}
use Rattle.trap_syscalls.proofs.GoingWorlds.{caller-there}
use Rattle.trap_syscalls.proofs.EndedWorlds.{other-touches}
use Rattle.trap_syscalls.proofs.Callers.{caller-live, caller-calling, caller-asked, caller-store}
use Rattle.trap_syscalls.proofs.ends.kill_process.Goals as goal

pub call_at-call-requires : goal.call_at-call-requires
call_at-call-requires g c = caller-live g.S.Stores.stands_for c.args.world.now c.args.space.now c.args.slot c.requires.live

pub end-requires-clause-calling : goal.end-requires-clause-calling
end-requires-clause-calling g c = caller-calling g.S.Stores.stands_for c.args.world.now c.args.space.now c.args.slot c.requires.live c.call_at-call.result c.call_at-call.ensures c.requires.forks

pub end-requires-clause-asked : goal.end-requires-clause-asked
end-requires-clause-asked g c = caller-asked g.S.Stores.stands_for c.args.world.now c.args.space.now c.args.slot c.requires.live c.call_at-call.result c.call_at-call.ensures

pub end-requires-clause-store : goal.end-requires-clause-store
end-requires-clause-store g c = caller-store g.S.Stores.stands_for c.args.world.now c.args.space.now c.args.slot c.requires.live c.call_at-call.result c.call_at-call.ensures

pub returns-clause-world : goal.returns-clause-world
returns-clause-world g c m p d notes lacks is there =
    let slot : ℕ = c.args.slot in
    let same : c.call_at-call.result.slot ≡ slot = ap (λ (call : Call). call.slot) (c.call_at-call.ensures p (caller-there m c.args.world.now slot p is there)) in
    let ended = c.end.ensures.called m p d [] lacks is (ap (process_at m.processes) same ∙ there) refl in
    let at : IsWorldOf (applied m slot p (ends (view_of m slot p) d [] c.killed_by-status.result lacks)) c.end.new.world =
    subst (λ (k : ℕ). IsWorldOf (applied m k p (ends (view_of m k p) d [] c.killed_by-status.result lacks)) c.end.new.world) same ended.world in
    subst (λ (n : ℕ). IsWorldOf (applied m slot p (ends (view_of m slot p) d notes n lacks)) c.end.new.world) c.killed_by-status.ensures
    (other-touches m slot p d [] notes c.killed_by-status.result lacks c.end.new.world at)

pub returns-clause-content : goal.returns-clause-content
returns-clause-content g c m p d is there stands =
    let region : c.call_at-call.result.region ≡ p.region = ap (λ (call : Call). call.region) (c.call_at-call.ensures p (caller-there m c.args.world.now c.args.slot p is there)) in
    subst (λ (r : ℕ). g.S.Stores.stands_for c.end.new.space (end_of d r)) region (c.end.ensures.content d stands)
