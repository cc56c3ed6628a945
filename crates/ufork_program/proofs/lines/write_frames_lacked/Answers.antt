use Rattle.std.proofs.Common.{◌≡◌}
use Rattle.ufork_program.specs.Lines.{frames_lacked_line}
use Rattle.ufork_program.proofs.lines.write_frames_lacked.Goals as goal

pub returns : goal.returns
returns g c = let is : c.text.result.now ≡ frames_lacked_line c.args.pages c.args.frames = cc in rw is at c.write.ensures.prints
