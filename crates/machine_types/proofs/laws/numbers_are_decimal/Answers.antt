use Rattle.machine_types.proofs.DecimalTexts.{number-in-decimal, number-in-parts}
use Rattle.machine_types.proofs.laws.numbers_are_decimal.Goals as goal

pub returns : goal.returns
returns c = record {
  read = λ least most n low high small. number-in-decimal least most n low high small;
  text = λ least most n text same. (number-in-parts least most n text same).0;
  from = λ least most n text same. (number-in-parts least most n text same).1;
  to = λ least most n text same. (number-in-parts least most n text same).2;
}
