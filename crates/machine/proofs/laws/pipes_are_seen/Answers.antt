use Rattle.machine.proofs.ScansPipes.{pipe-bytes, pipe-readers, pipe-writers, swept-count, swept-named, swept-unnamed}
use Rattle.machine.proofs.laws.pipes_are_seen.Goals as goal

pub returns : goal.returns
returns c = record { bytes = pipe-bytes; readers = pipe-readers; writers = pipe-writers; same_count = swept-count; used = swept-named; free = swept-unnamed }
