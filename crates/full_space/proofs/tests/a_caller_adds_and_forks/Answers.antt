use Rattle.stores.specs.Known.{Any}
use Rattle.stores.proofs.Keeping.{stands-after}
use Rattle.full_space.specs.Full.{FullStands}
use Rattle.full_space.proofs.tests.a_caller_adds_and_forks.Goals as goal

pub read-requires-clause-some : goal.read-requires-clause-some
read-requires-clause-some g c = stands-after FullStands _ c.add_and_fork.new.space _ c.add_and_fork.ensures.after Any Any (λ content _ _. tt) c.write.ensures.keeps.some
