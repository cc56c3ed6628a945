use Rattle.std.proofs.Common.{◌≡◌, arith, sym, ◌∙◌, rules, Err}
use Rattle.contents.specs.Conditions.{LacksPage, IsOwn}
use Rattle.stores.proofs.Keeping.{stands-weaker}
use Rattle.stores.proofs.PagesAdded.{HasFirstPages, none-added, one-added, one-refused}
use Rattle.stores.proofs.callers.add_pages.Goals as goal

pub loop-page-init : goal.loop-page-init
loop-page-init g c = none-added g.S.Stores.stands_for c.args.space.now c.args.region c.args.rights c.requires.empty

pub add_page-requires-clause-absent : goal.add_page-requires-clause-absent
add_page-requires-clause-absent g c =
    stands-weaker g.S.Stores.stands_for c.loop-page.space (HasFirstPages c.args.region c.loop-page.page) (LacksPage c.args.region c.loop-page.page)
    (λ _ first. record { store = first.store; absent = first.absent c.loop-page.page (omega arith) }) c.loop-page.invariant.first

pub returns-in_err-add_page-clause-answer : goal.returns-in_err-add_page-clause-answer
returns-in_err-add_page-clause-answer g c d stands =
    let refused : c.from_residual.result ≡ Err c.in_err-add_page.field-0.0 = search rules in
    refused ∙ sym (one-refused g.S.Stores.stands_for c.args.space.now c.loop-page.space c.add_page.new.self c.args.region c.args.rights c.loop-page.page c.in_err-add_page.ensures.after
    c.args.pages c.in_err-add_page.field-0.0 c.loop-page-test.true c.in_err-add_page.ensures.answer c.loop-page.invariant d stands).0

pub returns-in_err-add_page-clause-after : goal.returns-in_err-add_page-clause-after
returns-in_err-add_page-clause-after g c d stands =
    (one-refused g.S.Stores.stands_for c.args.space.now c.loop-page.space c.add_page.new.self c.args.region c.args.rights c.loop-page.page c.in_err-add_page.ensures.after
    c.args.pages c.in_err-add_page.field-0.0 c.loop-page-test.true c.in_err-add_page.ensures.answer c.loop-page.invariant d stands).1

pub loop-page-preserved : goal.loop-page-preserved
loop-page-preserved g c =
    one-added g.S.Stores.stands_for c.args.space.now c.loop-page.space c.add_page.new.self c.args.region c.args.rights c.loop-page.page c.in_ok-add_page.ensures.after (g.met.S.Stores.is_whole c.loop-page.space) c.in_ok-add_page.ensures.answer c.loop-page.invariant

pub returns-clause-answer : goal.returns-clause-answer
returns-clause-answer g c d stands =
    let done : c.args.pages ≡ c.loop-page.page = omega arith in
    rw done (sym (c.loop-page.invariant.made d stands))

pub returns-clause-after : goal.returns-clause-after
returns-clause-after g c d stands =
    let done : c.args.pages ≡ c.loop-page.page = omega arith in
    rw done (c.loop-page.invariant.after d stands)

pub returns-clause-own : goal.returns-clause-own
returns-clause-own g c _ page below =
    stands-weaker g.S.Stores.stands_for c.loop-page.space (HasFirstPages c.args.region c.loop-page.page) (IsOwn c.args.region page) (λ _ first. first.own page (omega arith)) c.loop-page.invariant.first
