use Rattle.std.proofs.Common.{refl}
use Rattle.std.specs.Fmt.{digits}
use Rattle.ufork_program.proofs.laws.worked_lines_hold.Goals as goal

pub returns : goal.returns
unfolding digits
returns c = record {
  usage = refl;
  cannot_read = refl;
  image_refused = refl;
  image_reasons = refl;
  schedule_refused = refl;
  input_failed = refl;
  input_too_long = refl;
  frames_lacked = refl;
  source_refused = refl;
  source_reasons = refl;
  image = refl;
}
