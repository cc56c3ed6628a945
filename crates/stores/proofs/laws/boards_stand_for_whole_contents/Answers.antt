use Rattle.stores.proofs.WholeContents.{stands-whole}
use Rattle.stores.proofs.laws.boards_stand_for_whole_contents.Goals as goal

pub returns : goal.returns
returns c = stands-whole
