use Rattle.ufork_program.proofs.CutTellings.{refusal-told, shown-cut, run-told, cut-read, cut-file, cut-input, cut-long, cut-line, cut-named, cut-broke}
use Rattle.ufork_program.proofs.laws.cuts_tell.Goals as goal

pub returns : goal.returns
returns c = record {
  of_refusal = λ call sources answer promises told leads is. refusal-told call sources told answer leads (promises.cut_short is);
  line = λ call sources status line promises told leads below kept unbroken is. cut-line call sources told status line leads below kept unbroken (promises.cut_short is);
  shown = λ call sources parts promises told leads below kept unbroken is. shown-cut call sources told parts leads below kept unbroken (promises.cut_short is);
  run = λ call sources setup promises told leads below kept unbroken is.
      run-told call sources told c.runs_end_at_the_least.ensures setup leads below kept unbroken (promises.cut_short is);
  read = λ call sources setup promises told named below kept unbroken is. cut-read call sources told setup named below kept unbroken (promises.cut_short is);
  long = λ call sources promises told long below kept unbroken is. cut-long call sources told long below kept unbroken (promises.cut_short is);
  file = λ call promises below rose is. cut-file call below rose (promises.cut_short is);
  named = λ call promises below rose is. cut-named call below rose (promises.cut_short is);
  input = λ call promises below rose is. cut-input call below rose (promises.cut_short is);
  broke = λ call sources promises told below rose is. cut-broke call sources told below rose (promises.cut_short is);
}
