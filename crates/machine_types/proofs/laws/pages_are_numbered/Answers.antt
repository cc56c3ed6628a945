use Rattle.machine_types.proofs.PageNumbers.{numbers-rise, numbers-are}
use Rattle.machine_types.proofs.laws.pages_are_numbered.Goals as goal

pub returns : goal.returns
returns c = record { rising = numbers-rise; all = numbers-are }
