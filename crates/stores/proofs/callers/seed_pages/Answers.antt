use Rattle.stores.proofs.PagesAdded.{none-seeded, one-seeded}
use Rattle.stores.proofs.callers.seed_pages.Goals as goal

pub loop-page-init : goal.loop-page-init
loop-page-init g c = none-seeded g.S.Stores.stands_for c.args.space.now c.args.region c.args.cap c.args.pages c.requires.own

pub loop-page-preserved : goal.loop-page-preserved
loop-page-preserved g c =
    one-seeded g.S.Stores.stands_for c.args.space.now c.loop-page.space c.seed_cap.new.self c.args.region c.args.cap c.args.pages c.loop-page.page
    (λ d stands. rw c.from.ensures at (c.seed_cap.ensures.after d stands)) c.loop-page.invariant
