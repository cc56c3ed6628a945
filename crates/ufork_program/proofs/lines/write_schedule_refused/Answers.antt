use Rattle.std.proofs.Common.{◌≡◌}
use Rattle.ufork_program.specs.Lines.{schedule_refused_line}
use Rattle.ufork_program.proofs.lines.write_schedule_refused.Goals as goal

pub returns : goal.returns
returns g c = let is : c.text.result.now ≡ schedule_refused_line c.args.number = cc in rw is at c.write.ensures.prints
