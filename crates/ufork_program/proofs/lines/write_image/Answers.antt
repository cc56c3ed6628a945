use Rattle.std.proofs.Common.{◌≡◌}
use Rattle.ufork_program.specs.Lines.{image_line}
use Rattle.ufork_program.proofs.lines.write_image.Goals as goal

pub returns : goal.returns
returns g c = let is : c.text.result.now ≡ image_line c.args.pages c.args.relocations c.args.entry = cc in rw is at c.write.ensures.prints
