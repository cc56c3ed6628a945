use Rattle.machine.proofs.ScansPlaces.{slot-lowest, slot-none, region-lowest, region-none}
use Rattle.machine.proofs.laws.places_are_lowest.Goals as goal

pub returns : goal.returns
returns c = record { slot = slot-lowest; no_slot = slot-none; region = region-lowest; no_region = region-none }
