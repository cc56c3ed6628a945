use Rattle.std.proofs.Common.{None}
use Rattle.contents.specs.Regions.{end_of}
use Rattle.contents.specs.Conditions.{HasStore, HasNoStore}
use Rattle.contents.specs.Laws.{OthersStay, HasSameSetting}
use Rattle.contents.proofs.CallShapes.{end-holds}
use Rattle.contents.proofs.OtherStores.{other-steps}
use Rattle.contents.proofs.Settings.{setting-steps}
use Rattle.stores.specs.Known.{Any}
use Rattle.stores.specs.Boards.{Stands}
use Rattle.stores.proofs.Keeping.{stands-after, stands-weaker, keeps-others}
use Rattle.full_space.specs.Full.{FullStands}
use Rattle.full_space.proofs.KnownSpaces.{board-stands}
use Rattle.full_space.proofs.LiveRegions.{space-stored, end-stored, end-ended}
use Rattle.full_space.proofs.space.FullSpaceStores.end.Goals as goal

pub drop_pages-requires-clause-some : goal.drop_pages-requires-clause-some
drop_pages-requires-clause-some c =
    stands-weaker Stands c.args.self.now.board (HasStore c.args.region) Any (λ content _. tt) (board-stands c.args.self.now (HasStore c.args.region) c.requires.store)

pub returns-clause-after : goal.returns-clause-after
returns-clause-after c content stands =
    space-stored c.args.self.now _ content (end_of content c.args.region) c.args.region None stands (c.drop_pages.ensures.each content stands.board)
    (end-holds HasSameSetting c.args.region (setting-steps c.args.region) content) (end-stored content c.args.region) c.end.ensures.is c.end.ensures.within

pub returns-clause-ended : goal.returns-clause-ended
returns-clause-ended c =
    stands-after FullStands c.args.self.now _ (λ content. end_of content c.args.region) (returns-clause-after c) (HasStore c.args.region) (HasNoStore c.args.region)
    (λ content _ _. end-ended content c.args.region) c.requires.store

pub returns-clause-keeps : goal.returns-clause-keeps
returns-clause-keeps c =
    keeps-others FullStands c.args.self.now _ (λ content. end_of content c.args.region) (returns-clause-after c) (HasStore c.args.region) c.args.region
    (λ content _. end-holds (OthersStay c.args.region) c.args.region (other-steps c.args.region) content) c.requires.store
