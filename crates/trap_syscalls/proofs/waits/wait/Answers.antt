use Rattle.std.proofs.Common.{◌≡◌, ◌≢◌, ◌∙◌, sym, ap, refl, subst, ℕ, ◌<◌, true, false, ◌^◌, Some, None, [], ◌∷◌, pos, to_z, w64}
use Rattle.std.specs.List.{list_any}
use Rattle.std.proofs.lemmas.Int.{to_z_pos}
use Rattle.contents.specs.Accesses.{untouched}
use Rattle.machine.specs.declared.report.WorkEnd.TheVariants.{Answered}
use Rattle.machine.specs.Numbers.{number_register}
use Rattle.machine.specs.Processes.{process_at, lives, integer, is_child, first_ended, without_id}
use Rattle.machine.specs.Effects.{Effect}
use Rattle.process_table.specs.Tables as table
use Rattle.process_table.specs.Tables.{Table, with_slot}
use Rattle.trap_syscalls.specs.declared.call.Call.{Call}
use Rattle.trap_syscalls.specs.Asked.{with_answer, with_second}
use Rattle.trap_syscalls.specs.Worlds.{IsWorldOf, HasCalled}
use Rattle.trap_syscalls.proofs.GoingWorlds.{caller-there, caller-lives, same-answer}
use Rattle.trap_syscalls.proofs.WaitedWorlds.{live-some, other-stays, without-at, waited, some-told, none-told, row-found, row-waits, row-refused, same-written}
use Rattle.trap_syscalls.proofs.waits.wait.Goals as goal

pub set_reaped-requires : goal.set_reaped-requires
set_reaped-requires c =
    let ps = c.args.world.now.processes.processes in
    let slot : ℕ = c.args.call.now.slot in
    let told = some-told (first_ended c.args.call.now.id ps) c.in-Some.child c.in-Some.status c.in-Some.ensures.child in
    let here = live-some (process_at ps slot) c.requires.calling.live in
    let dead = c.requires.reap.ended told.child told.is slot here.process here.is in
    let other : here.process.id ≢ told.child.id = λ e. absurd (let gone = dead e in let live = here.live in cc) in
    let after : c.reap.new.self ≡ table.reaped c.args.world.now.processes (Some told.child) = c.reap.ensures.is ∙ ap (table.reaped c.args.world.now.processes) told.is in
    let there : process_at c.reap.new.self.processes slot ≡ Some here.process =
    ap (λ (t : Table). process_at t.processes slot) after ∙ without-at told.child.id ps slot ∙ ap (without_id told.child.id) here.is ∙ other-stays told.child.id here.process other in
    ap lives there ∙ here.live

pub returns-in-Some-clause-called : goal.returns-in-Some-clause-called
returns-in-Some-clause-called c m p content is there =
    let w = c.args.world.now in
    let ps = w.processes.processes in
    let slot : ℕ = c.args.call.now.slot in
    let told = some-told (first_ended c.args.call.now.id ps) c.in-Some.child c.in-Some.status c.in-Some.ensures.child in
    let child = told.child in
    let here = caller-there m w slot p is there in
    let live = caller-lives m w c.args.call.now p is c.requires.calling there in
    let id : c.args.call.now.id ≡ p.id = ap (λ (call : Call). call.id) (c.requires.asked p here) in
    let dead = c.requires.reap.ended child told.is in
    let other : p.id ≢ child.id = λ e. absurd (let gone = dead slot p here e in cc) in
    let after : c.reap.new.self ≡ table.reaped w.processes (Some child) = c.reap.ensures.is ∙ ap (table.reaped w.processes) told.is in
    let stays : process_at c.reap.new.self.processes slot ≡ Some p =
    ap (λ (t : Table). process_at t.processes slot) after ∙ without-at child.id ps slot ∙ ap (without_id child.id) here ∙ other-stays child.id p other in
    let written : c.set_reaped.new.processes ≡ with_slot (table.reaped w.processes (Some child)) slot (Some (with_second (with_answer p child.id) child.status)) =
    c.set_reaped.ensures.is p stays ∙ same-written c.reap.new.self (table.reaped w.processes (Some child)) slot p c.in-Some.child child.id c.in-Some.status child.status after told.id_is told.status_is in
    let found : first_ended p.id m.processes ≡ Some child = rw (← id, is.processes) told.is in
    let small : child.id < 2 ^ 63 = c.requires.reap.id child told.is in
    subst (λ (e : Effect). HasCalled m slot p e (record { end = Answered c.args.call.now.number (to_z w64 c.in-Some.child); touches = untouched ∷ untouched ∷ []; printed = 0 }) (record w { processes = c.set_reaped.new.processes }))
    (sym (row-found c.children_are_found.ensures m slot p content child found))
    (record {
      world = waited m w slot p content child c.set_reaped.new.processes is there live dead written;
      end = same-answer c.args.call.now.number (integer p number_register) _ (pos child.id) (ap (λ (call : Call). call.number) (c.requires.asked p here)) (ap (to_z w64) told.id_is ∙ to_z_pos w64 child.id small);
      touches = refl;
      printed = refl;
      piece = refl;
    })

pub returns-then-has_child-clause-called : goal.returns-then-has_child-clause-called
returns-then-has_child-clause-called c m p content is there =
    let ps = c.args.world.now.processes.processes in
    let slot : ℕ = c.args.call.now.slot in
    let here = caller-there m c.args.world.now slot p is there in
    let id : c.args.call.now.id ≡ p.id = ap (λ (call : Call). call.id) (c.requires.asked p here) in
    let none : first_ended c.args.call.now.id ps ≡ None = none-told (first_ended c.args.call.now.id ps) c.reap.result c.reap.ensures.child c.in_default.not-Some in
    let after : c.reap.new.self ≡ c.args.world.now.processes = c.reap.ensures.is ∙ ap (table.reaped c.args.world.now.processes) none in
    let none-too : first_ended p.id m.processes ≡ None = rw (← id, is.processes) none in
    let some : list_any (is_child p.id) m.processes ≡ true = rw (← id, is.processes, ← after) (sym c.has_child.ensures ∙ c.if-has_child.true) in
    let is-after : IsWorldOf m (record c.args.world.now { processes = c.reap.new.self }) = subst (λ (t : Table). IsWorldOf m (record c.args.world.now { processes = t })) (sym after) is in
    subst (λ (e : Effect). HasCalled m slot p e c.wait_in.result c.wait_in.new.world) (sym (row-waits m slot p content none-too some)) (c.wait_in.ensures.called m p content [] is-after there refl)

pub returns-else-has_child-clause-called : goal.returns-else-has_child-clause-called
returns-else-has_child-clause-called c m p content is there =
    let ps = c.args.world.now.processes.processes in
    let slot : ℕ = c.args.call.now.slot in
    let here = caller-there m c.args.world.now slot p is there in
    let id : c.args.call.now.id ≡ p.id = ap (λ (call : Call). call.id) (c.requires.asked p here) in
    let none : first_ended c.args.call.now.id ps ≡ None = none-told (first_ended c.args.call.now.id ps) c.reap.result c.reap.ensures.child c.in_default.not-Some in
    let after : c.reap.new.self ≡ c.args.world.now.processes = c.reap.ensures.is ∙ ap (table.reaped c.args.world.now.processes) none in
    let alone : list_any (is_child p.id) m.processes ≡ false = rw (← id, is.processes, ← after) (sym c.has_child.ensures ∙ c.if-has_child.false) in
    let is-after : IsWorldOf m (record c.args.world.now { processes = c.reap.new.self }) = subst (λ (t : Table). IsWorldOf m (record c.args.world.now { processes = t })) (sym after) is in
    subst (λ (e : Effect). HasCalled m slot p e c.refuse.result c.refuse.new.world) (sym (row-refused m slot p content alone)) (c.refuse.ensures.called m p content is-after there)
