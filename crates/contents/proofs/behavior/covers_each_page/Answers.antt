use Rattle.contents.proofs.RefusalCauses.{covered-each}
use Rattle.contents.proofs.behavior.covers_each_page.Goals as goal

pub returns : goal.returns
returns c = covered-each
