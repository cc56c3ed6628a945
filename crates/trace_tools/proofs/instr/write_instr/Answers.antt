use Rattle.std.proofs.Common.{◌≡◌}
use Rattle.trace_tools.specs.Statements.{instr_line}
use Rattle.trace_tools.proofs.instr.write_instr.Goals as goal

pub returns : goal.returns
returns g c = let is : c.text.result.now ≡ instr_line c.args.offset c.args.word = cc in rw is at c.write.ensures.prints
