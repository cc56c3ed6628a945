use Rattle.machine.proofs.ScansChildren.{child-found, ended-found, none-ended}
use Rattle.machine.proofs.laws.children_are_found.Goals as goal

pub returns : goal.returns
returns c = record {
  some = child-found;
  ended = λ processes parent child e. (ended-found processes parent child e).zombie;
  lowest = λ processes parent child other e z. (ended-found processes parent child e).lowest other z;
  none = none-ended;
}
