use Rattle.contents.specs.Conditions.{HasNoStore}
use Rattle.stores.specs.Known.{Any}
use Rattle.stores.proofs.Keeping.{stands-after}
use Rattle.full_space.specs.Full.{FullStands}
use Rattle.full_space.proofs.tests.a_region_that_lacks_a_frame_is_not_seeded.Goals as goal

pub read_cap-requires-clause-some : goal.read_cap-requires-clause-some
read_cap-requires-clause-some g c = stands-after FullStands _ c.fill_region.new.space _ c.fill_region.ensures.after (HasNoStore 2) Any (λ content _ _. tt) (c.in_ok-space.ensures.none 2)
