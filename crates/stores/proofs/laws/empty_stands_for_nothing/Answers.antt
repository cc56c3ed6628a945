-- Where nothing is taken and no page has an entry, no frame has a class, and the other way round.
use Rattle.stores.proofs.EmptyBoards.{empty-stands, stands-empty}
use Rattle.stores.proofs.laws.empty_stands_for_nothing.Goals as goal

pub returns : goal.returns
returns c board rule = (empty-stands board rule, stands-empty board rule)
