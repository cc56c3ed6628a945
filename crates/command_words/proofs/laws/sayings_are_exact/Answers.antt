use Rattle.std.proofs.Common.{refl, inl, inr}
use Rattle.std.specs.Prelude.{codes}
use Rattle.command_words.proofs.CommandLimits.{command-of-words}
use Rattle.command_words.proofs.RunSentences.{command-is, read-is-run}
use Rattle.command_words.proofs.SentencesRun.{run-is-command, run-read-as, tool-is-command, tool-read}
use Rattle.command_words.proofs.WordsSaid.{command-said}
use Rattle.command_words.proofs.laws.sayings_are_exact.Goals as goal

pub returns : goal.returns
returns c = record {
  run = run-is-command;
  tool = tool-is-command;
  command = command-is;
  is_run = read-is-run;
  read = run-read-as;
  said = command-said;
  asm = λ name file. tool-read (codes "asm") name (inl refl) file;
  disasm = λ name file. tool-read (codes "disasm") name (inr (inl refl)) file;
  check = λ name file. tool-read (codes "check") name (inr (inr refl)) file;
  within = command-of-words;
}
