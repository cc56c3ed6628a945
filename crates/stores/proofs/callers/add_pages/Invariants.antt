use Rattle.stores.proofs.PagesAdded.{HasAdded}
use Rattle.stores.proofs.callers.add_pages.Given as goal

-- so many pages are added, and each is the region's own
abbrev pub invariant-loop-page : goal.invariant-loop-page
invariant-loop-page g l = HasAdded g.S.Stores.stands_for l.initial.space l.space l.region l.rights l.page
