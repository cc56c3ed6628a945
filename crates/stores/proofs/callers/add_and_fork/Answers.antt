use Rattle.stores.specs.Known.{Any}
use Rattle.contents.specs.Conditions.{HasStore}
use Rattle.stores.proofs.Keeping.{stands-weaker}
use Rattle.stores.proofs.callers.add_and_fork.Goals as goal

-- it stands for some content, since it stands for one in which the region has a store
pub read-requires-clause-some : goal.read-requires-clause-some
read-requires-clause-some g c = stands-weaker g.S.Stores.stands_for c.args.space.now (HasStore c.args.region) Any (λ _ _. tt) c.requires.store
