use Rattle.contents.proofs.PreparedNotes.{prepare-named, prepare-lacks, prepare-fit, prepare-full}
use Rattle.contents.proofs.behavior.prepared_touches_are_named.Goals as goal

pub returns : goal.returns
returns c = record { named = prepare-named; refused = prepare-lacks; fit = prepare-fit; full = prepare-full }
