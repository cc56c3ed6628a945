use Rattle.contents.proofs.WrittenPlaces.{number-shown}
use Rattle.contents.proofs.behavior.written_numbers_are_seen.Goals as goal

pub returns : goal.returns
returns c = number-shown
