use Rattle.stores.proofs.PagesAdded.{HasSeeded}
use Rattle.stores.proofs.callers.seed_pages.Given as goal

-- so many granules are stored, and each page is the region's own still
abbrev pub invariant-loop-page : goal.invariant-loop-page
invariant-loop-page g l = HasSeeded g.S.Stores.stands_for l.initial.space l.space l.region l.cap l.pages l.page
