use Rattle.stores.specs.Known.{Any}
use Rattle.stores.proofs.Keeping.{stands-weaker}
use Rattle.full_space.specs.Full.{FullStands}
use Rattle.instr_tests.proofs.guests.Guest.granule.Goals as goal

pub peek-requires-clause-some : goal.peek-requires-clause-some
peek-requires-clause-some c = stands-weaker FullStands _ _ Any (λ content _. tt) c.args.self.now.ready
