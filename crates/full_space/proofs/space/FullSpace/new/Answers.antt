use Rattle.std.proofs.Common.{refl}
use Rattle.full_space.proofs.LiveRegions.{new-stands}
use Rattle.full_space.proofs.space.FullSpace.new.Goals as goal

pub returns : goal.returns
returns c = record {
  stands = new-stands c.args.board _ _ 64 c.new.ensures c.empty_stands_for_nothing.ensures c.requires;
  board = refl;
}
