use Rattle.std.proofs.Common.{sym, arith}
use Rattle.stores.proofs.CoveredPages.{covers_of-none, covers_of-pages}
use Rattle.stores.proofs.entries.covers.Goals as goal

pub returns-then-n-eq0 : goal.returns-then-n-eq0
returns-then-n-eq0 c d stands = sym (covers_of-none d c.args.region c.args.at c.args.n c.args.access (c.if-n-eq0.true))

pub returns : goal.returns
returns c d stands =
    covers_of-pages c.args.board.now d c.args.region c.args.at c.args.n c.args.access c.covers_pages.result stands (omega arith) c.covers_pages.ensures.all c.covers_pages.ensures.none
