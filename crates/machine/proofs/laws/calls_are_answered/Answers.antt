use Rattle.machine.proofs.ReadAnswers.{ReadLaws}
use Rattle.machine.proofs.WriteAnswers.{WriteLaws}
use Rattle.machine.proofs.CallAnswers.{exit-answered, fork-answered, wait-answered, read-answered, write-answered}
use Rattle.machine.proofs.laws.calls_are_answered.Goals as goal

pub returns : goal.returns
returns c =
    let reads : ReadLaws = record {
      keep = c.calls_keep_whole.ensures;
      stay = c.other_stores_stay.ensures;
      covered = c.covers_each_byte.ensures;
      looks = c.store_decides_looks.ensures;
      written = c.writes_are_read.ensures;
    } in
    let writes : WriteLaws = record {
      stay = c.other_stores_stay.ensures;
      looks = c.store_decides_looks.ensures;
      seen = c.reads_are_seen.ensures;
    } in
    record {
      exit = exit-answered;
      forked = fork-answered;
      waited = wait-answered;
      read = read-answered reads;
      written = write-answered writes;
    }
