use Rattle.std.proofs.Common.{◌∙◌, sym}
use Rattle.contents.specs.Conditions.{Covers}
use Rattle.contents.proofs.Covered.{covered-by-scan}
use Rattle.stores.specs.Known.{Any}
use Rattle.stores.proofs.Keeping.{stands-after}
use Rattle.full_space.specs.Full.{FullStands}
use Rattle.full_space.proofs.space.FullSpaceStores.covers.Goals as goal

pub returns-clause-answer : goal.returns-clause-answer
returns-clause-answer c content stands = c.covers.ensures content stands.board

pub returns-clause-covered : goal.returns-clause-covered
returns-clause-covered c covers =
    stands-after FullStands c.args.self.now c.args.self.now (λ content. content) (λ content stands. stands) Any (Covers c.args.region c.args.at c.args.n c.args.access)
    (λ content stands _. covered-by-scan content c.args.region c.args.access c.args.at c.args.n (sym (c.covers.ensures content stands.board) ∙ covers)) c.requires.some
