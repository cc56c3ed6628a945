use Rattle.command_words.proofs.Beginnings.{command-begins, command-completed}
use Rattle.command_words.proofs.Places.{fault-of, one-fault}
use Rattle.command_words.proofs.CommandsRead.{command-read-of, fault-read-of}
use Rattle.command_words.proofs.laws.commands_are_exact.Goals as goal

pub returns : goal.returns
returns c = record {
  begins = command-begins;
  completed = command-completed;
  place = λ words none. fault-of words;
  one = one-fault;
  accepted = command-read-of;
  refused = fault-read-of;
}
