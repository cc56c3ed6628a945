use Rattle.std.proofs.Common.{◌≡◌}
use Rattle.ufork_program.specs.Lines.{usage_line}
use Rattle.ufork_program.proofs.lines.write_usage.Goals as goal

pub returns : goal.returns
returns g c = let is : c.text.result.now ≡ usage_line c.args.place = cc in rw is at c.write.ensures.prints
