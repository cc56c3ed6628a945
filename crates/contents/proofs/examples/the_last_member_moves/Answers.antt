use Rattle.contents.proofs.WorkedOut.{last-member}
use Rattle.contents.proofs.examples.the_last_member_moves.Goals as goal

pub returns : goal.returns
returns c = last-member
