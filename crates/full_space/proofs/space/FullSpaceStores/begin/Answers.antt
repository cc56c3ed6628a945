use Rattle.std.proofs.Common.{refl}
use Rattle.contents.specs.Regions.{begin_of}
use Rattle.contents.specs.Conditions.{HasStore, HasNoStore, HasEmptyStore}
use Rattle.contents.specs.Laws.{OthersStay}
use Rattle.contents.proofs.CallShapes.{begin-holds}
use Rattle.contents.proofs.OtherStores.{other-steps}
use Rattle.contents.proofs.KeptRegions.{begin-some}
use Rattle.stores.proofs.Keeping.{stands-after, keeps-others}
use Rattle.full_space.specs.Full.{FullStands}
use Rattle.full_space.proofs.KnownSpaces.{live-none}
use Rattle.full_space.proofs.LiveRegions.{begin-stands, begin-empty}
use Rattle.full_space.proofs.space.FullSpaceStores.begin.Goals as goal

pub returns-clause-after : goal.returns-clause-after
returns-clause-after c content stands = begin-stands c.args.self.now _ content c.args.region stands (live-none c.args.self.now c.args.region c.requires.none) refl c.begin.ensures.is c.begin.ensures.within

pub returns-clause-begun : goal.returns-clause-begun
returns-clause-begun c =
    stands-after FullStands c.args.self.now _ (λ content. begin_of content c.args.region) (returns-clause-after c) (HasNoStore c.args.region) (HasStore c.args.region)
    (λ content _ _. begin-some content c.args.region) c.requires.none

pub returns-clause-empty : goal.returns-clause-empty
returns-clause-empty c =
    stands-after FullStands c.args.self.now _ (λ content. begin_of content c.args.region) (returns-clause-after c) (HasNoStore c.args.region) (HasEmptyStore c.args.region)
    (λ content _ _. begin-empty content c.args.region) c.requires.none

pub returns-clause-keeps : goal.returns-clause-keeps
returns-clause-keeps c =
    keeps-others FullStands c.args.self.now _ (λ content. begin_of content c.args.region) (returns-clause-after c) (HasNoStore c.args.region) c.args.region
    (λ content _. begin-holds (OthersStay c.args.region) c.args.region (other-steps c.args.region) content) c.requires.none
