use Rattle.contents.specs.Conditions.{HasStore}
use Rattle.stores.specs.Known.{Any}
use Rattle.stores.proofs.Keeping.{stands-weaker}
use Rattle.full_space.specs.Full.{FullStands}
use Rattle.ufork_tests.proofs.starts.granule_of.Goals as goal

pub peek-requires-clause-some : goal.peek-requires-clause-some
peek-requires-clause-some c = stands-weaker FullStands c.args.space.now (HasStore 0) Any (λ content _. tt) c.requires
