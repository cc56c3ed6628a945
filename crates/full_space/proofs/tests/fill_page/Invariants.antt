use Rattle.stores.specs.Known.{KeepsStores}
use Rattle.full_space.specs.Full.{FullStands}
use Rattle.full_space.proofs.tests.fill_page.Given as goal

-- which regions have a store is kept
abbrev pub invariant-loop-granule : goal.invariant-loop-granule
invariant-loop-granule l = KeepsStores FullStands l.initial.space l.space
