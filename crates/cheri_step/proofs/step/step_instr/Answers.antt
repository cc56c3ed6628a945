use Rattle.std.proofs.Common.{◌∙◌, sym, [], arith}
use Rattle.std.proofs.lemmas.List.Elements.{All-cons, All-nil}
use Rattle.contents.specs.Standing.{IsElsewhere}
use Rattle.cheri_step.specs.Access.{code_of}
use Rattle.cheri_step.specs.Effect.{state, effect}
use Rattle.cheri_step.proofs.Ready.{fetched-effect, unfetched-effect, ready-code, ready-counter, ready-registers, ready-some, ready-again, ready-keeps}
use Rattle.cheri_step.proofs.step.step_instr.Goals as goal

pub fetch-requires-clause-code : goal.fetch-requires-clause-code
fetch-requires-clause-code g c = ready-code g.S.Stores.stands_for c.args.space.now c.args.region c.args.regs.now c.args.pcc.now c.requires.ready

pub fetch-requires-clause-inside : goal.fetch-requires-clause-inside
fetch-requires-clause-inside g c = ready-counter g.S.Stores.stands_for c.args.space.now c.args.region c.args.regs.now c.args.pcc.now c.requires.ready

pub fetch-requires-clause-some : goal.fetch-requires-clause-some
fetch-requires-clause-some g c = ready-some g.S.Stores.stands_for c.args.space.now c.args.region c.args.regs.now c.args.pcc.now c.requires.ready

pub execute-worked-requires-clause-inside : goal.execute-worked-requires-clause-inside
execute-worked-requires-clause-inside g c = ready-registers g.S.Stores.stands_for c.args.space.now c.args.region c.args.regs.now c.args.pcc.now c.requires.ready

pub returns-in-Ok-clause-effect : goal.returns-in-Ok-clause-effect
unfolding effect
returns-in-Ok-clause-effect g c d stands =
    let o = code_of d c.args.region c.args.pcc.now in
    fetched-effect (state c.args.regs.now c.args.pcc.now d) c.args.region o.after o.answer (c.in-Ok.word, c.in-Ok.note) c.execute-worked.result c.execute-worked.new.regs c.execute-worked.new.pcc (g.S.Stores.stands_for c.execute-worked.new.space)
    (sym (c.fetch.ensures.answer d stands) ∙ c.in-Ok.is)
    (c.execute-worked.ensures.work o.after (c.fetch.ensures.after d stands))

pub returns-in-Err-clause-effect : goal.returns-in-Err-clause-effect
unfolding effect
returns-in-Err-clause-effect g c d stands =
    let o = code_of d c.args.region c.args.pcc.now in
    (let h = unfetched-effect (state c.args.regs.now c.args.pcc.now d) c.args.region o.after o.answer c.in-Err.cause (g.S.Stores.stands_for c.fetch.new.space)
    (sym (c.fetch.ensures.answer d stands) ∙ c.in-Err.is) (c.fetch.ensures.after d stands) in rw (c.untouched.ensures, c.untouched-in-Err.ensures) h)

pub returns-in-Ok-clause-ready : goal.returns-in-Ok-clause-ready
returns-in-Ok-clause-ready g c =
    ready-again g.S.Stores.stands_for c.args.space.now c.args.region c.args.regs.now c.args.pcc.now c.requires.ready c.execute-worked.new.space _ c.execute-worked.new.regs c.execute-worked.new.pcc (returns-in-Ok-clause-effect g c) c.requires.region c.fetch.ensures.pattern (λ d stands. g.met.S.Stores.is_whole c.args.space.now d stands)

pub returns-in-Ok-clause-keeps : goal.returns-in-Ok-clause-keeps
returns-in-Ok-clause-keeps g c =
    ready-keeps g.S.Stores.stands_for c.args.space.now c.args.region c.args.regs.now c.args.pcc.now c.requires.ready c.execute-worked.new.space _ c.execute-worked.new.regs c.execute-worked.new.pcc (returns-in-Ok-clause-effect g c)

pub returns-in-Ok-clause-frames : goal.returns-in-Ok-clause-frames
returns-in-Ok-clause-frames g c r p elsewhere =
    c.execute-worked.ensures.frames r p (All-cons (IsElsewhere r p c.args.region) c.execute-worked.result.touched [] (elsewhere 1 c.in-Ok.note (omega arith)) (All-nil (IsElsewhere r p c.args.region)))
    ∙ c.fetch.ensures.frames r p (rw (c.in-Ok.is) (All-cons (IsElsewhere r p c.args.region) c.in-Ok.note [] (elsewhere 0 c.in-Ok.note (omega arith)) (All-nil (IsElsewhere r p c.args.region))))

pub returns-in-Err-clause-ready : goal.returns-in-Err-clause-ready
returns-in-Err-clause-ready g c =
    ready-again g.S.Stores.stands_for c.args.space.now c.args.region c.args.regs.now c.args.pcc.now c.requires.ready c.fetch.new.space _ c.args.regs.now c.args.pcc.now (returns-in-Err-clause-effect g c) c.requires.region c.fetch.ensures.pattern (λ d stands. g.met.S.Stores.is_whole c.args.space.now d stands)

pub returns-in-Err-clause-keeps : goal.returns-in-Err-clause-keeps
returns-in-Err-clause-keeps g c =
    ready-keeps g.S.Stores.stands_for c.args.space.now c.args.region c.args.regs.now c.args.pcc.now c.requires.ready c.fetch.new.space _ c.args.regs.now c.args.pcc.now (returns-in-Err-clause-effect g c)
