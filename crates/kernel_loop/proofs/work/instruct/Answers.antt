use Rattle.std.proofs.Common.{◌≡◌, ◌∙◌, sym, ap, refl, subst, ℕ, true, [], ◌∷◌}
use Rattle.cap_format.specs.Pattern.{address_of}
use Rattle.cheri_step.specs.declared.step.Stepped.{Stepped}
use Rattle.cheri_step.specs.declared.step.StepEnd.TheVariants.{Next, Call, Fault}
use Rattle.machine.specs.declared.process.Process.{Process}
use Rattle.machine.specs.declared.process.State.TheVariants.{Ready}
use Rattle.machine.specs.declared.report.WorkEnd.TheVariants.{Plain, Ended}
use Rattle.machine.specs.Processes.{process_at, is_live}
use Rattle.machine.specs.Machines.{view_of}
use Rattle.machine.specs.Effects.{Effect}
use Rattle.machine_steps.specs.Works.{instruction_of, instructed, effect_of, is_lack}
use Rattle.machine_steps.specs.Steps.{made, three_notes}
use Rattle.machine_types.specs.declared.touches.Note.{Note}
use Rattle.machine.specs.Calls.{called}
use Rattle.trap_syscalls.proofs.GoingWorlds.{going, lives-same, caller-there}
use Rattle.trap_syscalls.proofs.WaitedWorlds.{live-some}
use Rattle.trap_syscalls.proofs.Callers.{caller-live}
use Rattle.kernel_loop.specs.declared.work.Seen.{Seen}
use Rattle.kernel_loop.proofs.Resumed.{worked-as}
use Rattle.kernel_loop.proofs.Instructed.{making-ready, effect-instructs, work-instructs, same-instr, same-notes, worker-region, worker-steps, call-caller, fault-worker, call-left, fault-left, left-table, same-world, called-works, killed-works, killed-content}
use Rattle.kernel_loop.proofs.FewTouches.{few-touches}
use Rattle.kernel_loop.proofs.work.instruct.Goals as goal

pub step_at-stepped-requires-clause-live : goal.step_at-stepped-requires-clause-live
step_at-stepped-requires-clause-live g c = caller-live g.S.Stores.stands_for c.args.world.now c.args.space.now c.args.slot c.requires.may

pub step_at-stepped-requires-clause-region : goal.step_at-stepped-requires-clause-region
step_at-stepped-requires-clause-region g c p there = worker-region g.S.Stores.stands_for c.args.world.now c.args.space.now c.args.slot c.requires.may p there

pub step_at-stepped-requires-clause-ready : goal.step_at-stepped-requires-clause-ready
step_at-stepped-requires-clause-ready g c p there = worker-steps g.S.Stores.stands_for c.args.world.now c.args.space.now c.args.slot c.requires.may p there

pub do_call-done-requires-clause-caller : goal.do_call-done-requires-clause-caller
do_call-done-requires-clause-caller g c =
    let w = c.args.world.now in
    let slot : ℕ = c.args.slot in
    let here = live-some (process_at w.processes.processes slot) (caller-live g.S.Stores.stands_for w c.args.space.now slot c.requires.may) in
    call-caller g.S.Stores.stands_for w c.args.space.now slot c.requires.may here.process here.is c.faults_change_nothing.ensures c.step_at-stepped.result c.step_at-stepped.new.processes c.step_at-stepped.new.space
    (λ d stands. c.step_at-stepped.ensures.is here.process d here.is stands) c.in-Call.is

pub kill_process-requires-clause-live : goal.kill_process-requires-clause-live
kill_process-requires-clause-live g c =
    let w = c.args.world.now in
    let slot : ℕ = c.args.slot in
    let here = live-some (process_at w.processes.processes slot) (caller-live g.S.Stores.stands_for w c.args.space.now slot c.requires.may) in
    fault-worker g.S.Stores.stands_for w c.args.space.now slot c.requires.may here.process here.is c.faults_change_nothing.ensures c.step_at-stepped.result c.step_at-stepped.new.processes c.step_at-stepped.new.space
    (λ d stands. c.step_at-stepped.ensures.is here.process d here.is stands) c.in-Fault.cause c.in-Fault.is

pub returns-in-Next-clause-worked : goal.returns-in-Next-clause-worked
returns-in-Next-clause-worked g c m p is stands there =
    let slot : ℕ = c.args.slot in
    let w = c.args.world.now in
    let here = caller-there m w slot p is there in
    let seen = c.requires.seen p here in
    let ready : p.state ≡ Ready = making-ready p.state (ap (λ (x : Seen). x.ready) (sym seen) ∙ c.requires.ready) in
    let live : is_live p.state ≡ true = ap is_live ready in
    let came = c.step_at-stepped.ensures.is p m.content here stands in
    let i = instruction_of p m.content in
    let q : Process = record p { regs = i.after.registers; pcc = i.after.pcc } in
    let end : i.end ≡ Next = sym (ap (λ (x : Stepped). x.end) came.stepped) ∙ c.in-Next.is in
    worked-as m slot p (effect_of (view_of m slot p) m.content) (instructed (view_of m slot p) i Next) _ _ (effect-instructs m slot p m.content Next ready end)
    (record {
      world = going m w slot p q i.after.content (i.fetched ∷ i.touched ∷ []) Plain c.step_at-stepped.new.processes is there (lives-same p q live live refl) came.process;
      id = ap (λ (x : Seen). x.id) seen;
      work = same-instr c.args.seen.pc (address_of p.pcc.bits) c.step_at-stepped.result.word i.word (ap (λ (x : Seen). x.pc) seen) (ap (λ (x : Stepped). x.word) came.stepped) ∙ sym (work-instructs p m.content ready);
      touches = c.in_order.ensures ∙ same-notes c.step_at-stepped.result.fetched i.fetched c.step_at-stepped.result.touched i.touched (ap (λ (x : Stepped). x.fetched) came.stepped) (ap (λ (x : Stepped). x.touched) came.stepped);
      printed = refl;
      piece = refl;
      end = refl;
    })

pub returns-in-Next-clause-content : goal.returns-in-Next-clause-content
returns-in-Next-clause-content g c m p is stands there =
    let slot : ℕ = c.args.slot in
    let here = caller-there m c.args.world.now slot p is there in
    let ready : p.state ≡ Ready = making-ready p.state (ap (λ (x : Seen). x.ready) (sym (c.requires.seen p here)) ∙ c.requires.ready) in
    let came = c.step_at-stepped.ensures.is p m.content here stands in
    let end : (instruction_of p m.content).end ≡ Next = sym (ap (λ (x : Stepped). x.end) came.stepped) ∙ c.in-Next.is in
    subst (λ (e : Effect). g.S.Stores.stands_for c.step_at-stepped.new.space e.content) (sym (effect-instructs m slot p m.content Next ready end)) came.content

pub returns-in-Call-clause-worked : goal.returns-in-Call-clause-worked
returns-in-Call-clause-worked g c m p is stands there =
    let slot : ℕ = c.args.slot in
    let w = c.args.world.now in
    let here = caller-there m w slot p is there in
    let seen = c.requires.seen p here in
    let ready : p.state ≡ Ready = making-ready p.state (ap (λ (x : Seen). x.ready) (sym seen) ∙ c.requires.ready) in
    let came = c.step_at-stepped.ensures.is p m.content here stands in
    let i = instruction_of p m.content in
    let end : i.end ≡ Call = sym (ap (λ (x : Stepped). x.end) came.stepped) ∙ c.in-Call.is in
    let after = same-world m w c.step_at-stepped.new.processes
    (left-table g.S.Stores.stands_for w c.args.space.now slot c.requires.may p here c.faults_change_nothing.ensures c.step_at-stepped.result c.step_at-stepped.new.processes c.step_at-stepped.new.space (λ d stood. c.step_at-stepped.ensures.is p d here stood) m.content stands
    (call-left g.S.Stores.stands_for w c.args.space.now slot c.requires.may p here c.faults_change_nothing.ensures c.step_at-stepped.result c.step_at-stepped.new.processes c.step_at-stepped.new.space (λ d stood. c.step_at-stepped.ensures.is p d here stood) m.content stands c.in-Call.is)) is in
    let v = view_of m slot p in
    worked-as m slot p (effect_of v m.content) (instructed v i Call) _ _ (effect-instructs m slot p m.content Call ready end)
    (called-works m slot p (called v i.after.content) i.fetched _ c.do_call-done.result c.do_call-done.new.world (few-touches v i.after.content) (c.do_call-done.ensures.called m p i.after.content after there came.content)
    (ap (λ (x : Seen). x.id) seen) (same-instr c.args.seen.pc (address_of p.pcc.bits) c.step_at-stepped.result.word i.word (ap (λ (x : Seen). x.pc) seen) (ap (λ (x : Stepped). x.word) came.stepped) ∙ sym (work-instructs p m.content ready))
    (c.in_order-in-Call.ensures ∙ ap (λ (n : Note). three_notes (made (n ∷ c.do_call-done.result.touches))) (ap (λ (x : Stepped). x.fetched) came.stepped)) refl refl)

pub returns-in-Call-clause-content : goal.returns-in-Call-clause-content
returns-in-Call-clause-content g c m p is stands there =
    let slot : ℕ = c.args.slot in
    let w = c.args.world.now in
    let here = caller-there m w slot p is there in
    let seen = c.requires.seen p here in
    let ready : p.state ≡ Ready = making-ready p.state (ap (λ (x : Seen). x.ready) (sym seen) ∙ c.requires.ready) in
    let came = c.step_at-stepped.ensures.is p m.content here stands in
    let i = instruction_of p m.content in
    let end : i.end ≡ Call = sym (ap (λ (x : Stepped). x.end) came.stepped) ∙ c.in-Call.is in
    let after = same-world m w c.step_at-stepped.new.processes
    (left-table g.S.Stores.stands_for w c.args.space.now slot c.requires.may p here c.faults_change_nothing.ensures c.step_at-stepped.result c.step_at-stepped.new.processes c.step_at-stepped.new.space (λ d stood. c.step_at-stepped.ensures.is p d here stood) m.content stands
    (call-left g.S.Stores.stands_for w c.args.space.now slot c.requires.may p here c.faults_change_nothing.ensures c.step_at-stepped.result c.step_at-stepped.new.processes c.step_at-stepped.new.space (λ d stood. c.step_at-stepped.ensures.is p d here stood) m.content stands c.in-Call.is)) is in
    subst (λ (e : Effect). g.S.Stores.stands_for c.do_call-done.new.space e.content) (sym (effect-instructs m slot p m.content Call ready end))
    (c.do_call-done.ensures.content m p i.after.content after there came.content)

pub returns-in-Fault-clause-worked : goal.returns-in-Fault-clause-worked
returns-in-Fault-clause-worked g c m p is stands there =
    let slot : ℕ = c.args.slot in
    let w = c.args.world.now in
    let here = caller-there m w slot p is there in
    let seen = c.requires.seen p here in
    let ready : p.state ≡ Ready = making-ready p.state (ap (λ (x : Seen). x.ready) (sym seen) ∙ c.requires.ready) in
    let came = c.step_at-stepped.ensures.is p m.content here stands in
    let i = instruction_of p m.content in
    let cause = c.in-Fault.cause in
    let end : i.end ≡ Fault cause = sym (ap (λ (x : Stepped). x.end) came.stepped) ∙ c.in-Fault.is in
    let after = same-world m w c.step_at-stepped.new.processes
    (left-table g.S.Stores.stands_for w c.args.space.now slot c.requires.may p here c.faults_change_nothing.ensures c.step_at-stepped.result c.step_at-stepped.new.processes c.step_at-stepped.new.space (λ d stood. c.step_at-stepped.ensures.is p d here stood) m.content stands
    (fault-left g.S.Stores.stands_for w c.args.space.now slot c.requires.may p here c.faults_change_nothing.ensures c.step_at-stepped.result c.step_at-stepped.new.processes c.step_at-stepped.new.space (λ d stood. c.step_at-stepped.ensures.is p d here stood) m.content cause stands c.in-Fault.is)) is in
    let v = view_of m slot p in
    worked-as m slot p (effect_of v m.content) (instructed v i (Fault cause)) _ _ (effect-instructs m slot p m.content (Fault cause) ready end)
    (killed-works m slot p i.after.content i.fetched i.touched cause (is_lack cause) _ c.kill_process.new.world (c.kill_process.ensures.world m p i.after.content (i.fetched ∷ i.touched ∷ []) (is_lack cause) after there)
    (ap (λ (x : Seen). x.id) seen) (same-instr c.args.seen.pc (address_of p.pcc.bits) c.step_at-stepped.result.word i.word (ap (λ (x : Seen). x.pc) seen) (ap (λ (x : Stepped). x.word) came.stepped) ∙ sym (work-instructs p m.content ready))
    (c.in_order-in-Fault.ensures ∙ same-notes c.step_at-stepped.result.fetched i.fetched c.step_at-stepped.result.touched i.touched (ap (λ (x : Stepped). x.fetched) came.stepped) (ap (λ (x : Stepped). x.touched) came.stepped)) refl (ap Ended c.kill_process.ensures.status))

pub returns-in-Fault-clause-content : goal.returns-in-Fault-clause-content
returns-in-Fault-clause-content g c m p is stands there =
    let slot : ℕ = c.args.slot in
    let w = c.args.world.now in
    let here = caller-there m w slot p is there in
    let seen = c.requires.seen p here in
    let ready : p.state ≡ Ready = making-ready p.state (ap (λ (x : Seen). x.ready) (sym seen) ∙ c.requires.ready) in
    let came = c.step_at-stepped.ensures.is p m.content here stands in
    let i = instruction_of p m.content in
    let cause = c.in-Fault.cause in
    let end : i.end ≡ Fault cause = sym (ap (λ (x : Stepped). x.end) came.stepped) ∙ c.in-Fault.is in
    let after = same-world m w c.step_at-stepped.new.processes
    (left-table g.S.Stores.stands_for w c.args.space.now slot c.requires.may p here c.faults_change_nothing.ensures c.step_at-stepped.result c.step_at-stepped.new.processes c.step_at-stepped.new.space (λ d stood. c.step_at-stepped.ensures.is p d here stood) m.content stands
    (fault-left g.S.Stores.stands_for w c.args.space.now slot c.requires.may p here c.faults_change_nothing.ensures c.step_at-stepped.result c.step_at-stepped.new.processes c.step_at-stepped.new.space (λ d stood. c.step_at-stepped.ensures.is p d here stood) m.content cause stands c.in-Fault.is)) is in
    subst (λ (e : Effect). g.S.Stores.stands_for c.kill_process.new.space e.content) (sym (effect-instructs m slot p m.content (Fault cause) ready end))
    (killed-content (g.S.Stores.stands_for c.kill_process.new.space) m slot p i.after.content (i.fetched ∷ i.touched ∷ []) cause (is_lack cause) (c.kill_process.ensures.content m p i.after.content after there came.content))
