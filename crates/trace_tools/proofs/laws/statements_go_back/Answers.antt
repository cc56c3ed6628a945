-- The statements of words go back to them.
use Rattle.trace_tools.proofs.CodeAssembled.{words-assembled}
use Rattle.trace_tools.proofs.SourceLines.{source-read}
use Rattle.trace_tools.proofs.ValuesGoBack.{value-fits, value-same}
use Rattle.trace_tools.proofs.laws.statements_go_back.Goals as goal

pub returns : goal.returns
returns c = record {
  read = source-read c.words_go_round.ensures;
  fits = λ text offsets at line word small. value-fits c.words_go_round.ensures text offsets at word small line;
  same = λ text offsets at word small. value-same c.words_go_round.ensures text offsets at word small;
  assembled = λ words some small few short. words-assembled c.words_go_round.ensures words small some few short;
}
