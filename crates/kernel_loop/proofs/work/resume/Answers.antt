use Rattle.std.proofs.Common.{◌≡◌, ◌∙◌, sym, ap, subst, ℕ, false, List}
use Rattle.machine_types.specs.declared.touches.Note.{Note}
use Rattle.contents.specs.Accesses.{untouched}
use Rattle.machine.specs.declared.report.Work.TheVariants.{Resume}
use Rattle.machine.specs.Machines.{view_of}
use Rattle.machine.specs.Effects.{Effect}
use Rattle.machine.specs.Calls.{called}
use Rattle.machine_steps.specs.Works.{instruction_of, effect_of}
use Rattle.machine_steps.specs.Steps.{made, three_notes}
use Rattle.trap_syscalls.proofs.GoingWorlds.{caller-there}
use Rattle.kernel_loop.specs.declared.work.Seen.{Seen}
use Rattle.kernel_loop.specs.Working.{is_making}
use Rattle.kernel_loop.proofs.FewTouches.{few-touches, made-two}
use Rattle.kernel_loop.proofs.Resumed.{worked-as, effect-goes-on, work-goes-on, resumed-caller}
use Rattle.kernel_loop.proofs.work.resume.Goals as goal

pub do_call-done-requires-clause-caller : goal.do_call-done-requires-clause-caller
do_call-done-requires-clause-caller g c =
    resumed-caller g.S.Stores.stands_for c.args.world.now c.args.space.now c.args.slot (λ p here. ap (λ (x : Seen). x.ready) (sym (c.requires.seen p here)) ∙ c.requires.underway) c.requires.may

pub returns-clause-worked : goal.returns-clause-worked
returns-clause-worked g c m p is stands there =
    let slot : ℕ = c.args.slot in
    let v = view_of m slot p in
    let here = caller-there m c.args.world.now slot p is there in
    let seen = c.requires.seen p here in
    let waits : is_making p.state ≡ false = ap (λ (x : Seen). x.ready) (sym seen) ∙ c.requires.underway in
    let done = c.do_call-done.ensures.called m p m.content is there stands in
    let notes = (called v m.content).touches in
    let touches : c.in_order.result ≡ three_notes (made notes) =
    c.in_order.ensures ∙ ap (λ (x : List Note). three_notes (made x)) done.touches ∙ made-two untouched notes (few-touches v m.content) in
    worked-as m slot p (effect_of v m.content) (called v m.content) _ _ (effect-goes-on m slot p m.content waits)
    (record {
      world = done.world;
      id = ap (λ (x : Seen). x.id) seen;
      work = ap Resume (ap (λ (x : Seen). x.pc) seen) ∙ sym (work-goes-on p (instruction_of p m.content).word p.state waits);
      touches = touches;
      printed = done.printed;
      piece = done.piece;
      end = done.end;
    })

pub returns-clause-content : goal.returns-clause-content
returns-clause-content g c m p is stands there =
    let slot : ℕ = c.args.slot in
    let here = caller-there m c.args.world.now slot p is there in
    let waits : is_making p.state ≡ false = ap (λ (x : Seen). x.ready) (sym (c.requires.seen p here)) ∙ c.requires.underway in
    subst (λ (e : Effect). g.S.Stores.stands_for c.do_call-done.new.space e.content) (sym (effect-goes-on m slot p m.content waits)) (c.do_call-done.ensures.content m p m.content is there stands)
