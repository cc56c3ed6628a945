use Rattle.std.proofs.Common.{length}
use Rattle.machine_types.specs.declared.touches.Access.TheVariants.{Read}
use Rattle.contents.specs.Conditions.{Covers, IsPrepared}
use Rattle.stores.specs.Boards.{Stands}
use Rattle.stores.proofs.Keeping.{stands-weaker}
use Rattle.full_space.proofs.KnownSpaces.{board-stands}
use Rattle.full_space.proofs.space.FullSpaceStores.read_bytes.Goals as goal

pub bytes_out-requires-clause-covered : goal.bytes_out-requires-clause-covered
bytes_out-requires-clause-covered c =
    stands-weaker Stands c.args.self.now.board (IsPrepared c.args.region c.args.at (length c.args.into.now) Read) (Covers c.args.region c.args.at (length c.args.into.now) Read) (λ content prepared. prepared.covered)
    (board-stands c.args.self.now (IsPrepared c.args.region c.args.at (length c.args.into.now) Read) c.requires.prepared)

pub returns : goal.returns
returns c content stands = c.bytes_out.ensures content stands.board
