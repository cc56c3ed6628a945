use Rattle.std.proofs.Common.{refl}
use Rattle.machine_types.specs.DecimalNumbers.{number_in}
use Rattle.machine_types.specs.NumberLists.{list_of}
use Rattle.std.specs.Fmt.{digits}
use Rattle.run_texts.proofs.laws.worked_schedules_hold.Goals as goal

pub returns : goal.returns
unfolding list_of number_in digits
returns c = record {
  none = refl;
  once = refl;
  ended = refl;
  least = refl;
  most = refl;
  empty_line = refl;
  empty_between = refl;
  zero = refl;
  too_great = refl;
  never = refl;
  too_often = refl;
  leading_zero = refl;
  blank = refl;
  two_stars = refl;
}
