use Rattle.contents.proofs.WorkedOut.{second-copy}
use Rattle.contents.proofs.examples.a_second_copy_finds_no_frame.Goals as goal

pub returns : goal.returns
returns c = second-copy
