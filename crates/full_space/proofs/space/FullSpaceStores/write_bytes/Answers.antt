use Rattle.std.proofs.Common.{length, refl}
use Rattle.machine_types.specs.declared.touches.Access.TheVariants.{Write}
use Rattle.contents.specs.Conditions.{Covers, IsPrepared}
use Rattle.contents.specs.Transfers.{write_bytes_of}
use Rattle.contents.specs.Laws.{HasSameSetting, HasSameRegions}
use Rattle.contents.proofs.CallShapes.{write_bytes-holds}
use Rattle.contents.proofs.KeptRegions.{region-stores}
use Rattle.contents.proofs.Settings.{setting-steps}
use Rattle.stores.specs.Boards.{Stands}
use Rattle.stores.proofs.Keeping.{stands-weaker, keeps-stores}
use Rattle.full_space.specs.Full.{FullStands}
use Rattle.full_space.proofs.KnownSpaces.{board-stands}
use Rattle.full_space.proofs.ChangedPages.{space-after}
use Rattle.full_space.proofs.space.FullSpaceStores.write_bytes.Goals as goal

pub bytes_in-requires-clause-covered : goal.bytes_in-requires-clause-covered
bytes_in-requires-clause-covered c =
    stands-weaker Stands c.args.self.now.board (IsPrepared c.args.region c.args.at (length c.args.from.now) Write) (Covers c.args.region c.args.at (length c.args.from.now) Write) (λ content prepared. prepared.covered)
    (board-stands c.args.self.now (IsPrepared c.args.region c.args.at (length c.args.from.now) Write) c.requires.prepared)

pub returns-clause-after : goal.returns-clause-after
returns-clause-after c content stands =
    space-after c.args.self.now _ content (write_bytes_of content c.args.region c.args.at c.args.from.now) stands (c.bytes_in.ensures.after content stands.board) refl
    (write_bytes-holds HasSameSetting c.args.region (setting-steps c.args.region).stores content c.args.at c.args.from.now)
    (write_bytes-holds HasSameRegions c.args.region (region-stores c.args.region) content c.args.at c.args.from.now)

pub returns-clause-keeps : goal.returns-clause-keeps
returns-clause-keeps c =
    keeps-stores FullStands c.args.self.now _ (λ content. write_bytes_of content c.args.region c.args.at c.args.from.now) (returns-clause-after c) (IsPrepared c.args.region c.args.at (length c.args.from.now) Write)
    (λ content _. write_bytes-holds HasSameRegions c.args.region (region-stores c.args.region) content c.args.at c.args.from.now) c.requires.prepared
