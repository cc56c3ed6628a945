use Rattle.stores.specs.Known.{Any}
use Rattle.stores.proofs.Keeping.{stands-after}
use Rattle.full_space.specs.Full.{FullStands}
use Rattle.full_space.proofs.tests.bytes_are_taken_over_the_end_of_a_page.Goals as goal

pub take_bytes-requires-2-clause-some : goal.take_bytes-requires-2-clause-some
take_bytes-requires-2-clause-some g c = stands-after FullStands _ c.take_bytes.new.space _ c.take_bytes.ensures.after Any Any (λ content _ _. tt) c.in_ok-space.ensures.some
