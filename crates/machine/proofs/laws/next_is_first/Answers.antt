use Rattle.machine.proofs.ScansNext.{next-ready, next-slot, next-first, next-none}
use Rattle.machine.proofs.laws.next_is_first.Goals as goal

pub returns : goal.returns
returns c = record { ready = next-ready; slot = next-slot; first = next-first; none = next-none }
