use Rattle.std.proofs.Common.{refl}
use Rattle.machine_types.proofs.LinesRead.{long-text}
use Rattle.machine_types.proofs.LinesBack.{lines-back, last-back}
use Rattle.machine_types.proofs.EntriesBack.{alone-back, repeated-back, line-of-entry}
use Rattle.machine_types.proofs.FirstWrong.{text-refused, one-wrong}
use Rattle.machine_types.proofs.EntriesWithin.{entry-within}
use Rattle.machine_types.proofs.LinesSaid.{text-is-short, text-read, right-text}
use Rattle.machine_types.proofs.laws.lists_are_exact.Goals as goal

pub returns : goal.returns
returns c =
    let numbers = c.numbers_are_decimal.ensures in
    record {
      lines = lines-back;
      last = last-back;
      alone = alone-back numbers;
      repeated = repeated-back numbers;
      entry = line-of-entry numbers;
      ranges = λ least most n k line said.
          let within = entry-within least most n k line said in
          (within.number.from, within.number.to, within.repeats.from, within.repeats.to);
      wrong = text-refused;
      one = one-wrong;
      right = right-text;
      read = λ least most text entries read.
          let all = text-read least most text entries read in
          (text-is-short least most text entries read, all.0, all.1);
      long = long-text;
      refused = λ list n is. is;
      limits = (refl, refl, refl);
    }
