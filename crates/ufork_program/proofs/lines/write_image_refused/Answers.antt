use Rattle.std.proofs.Common.{◌≡◌}
use Rattle.ufork_program.specs.Lines.{image_refused_line}
use Rattle.ufork_program.proofs.lines.write_image_refused.Goals as goal

pub returns : goal.returns
returns g c = let is : c.text.result.now ≡ image_refused_line c.args.fault = cc in rw is at c.write.ensures.prints
