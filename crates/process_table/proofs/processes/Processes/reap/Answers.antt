use Rattle.std.proofs.Common.{◌∙◌, sym}
use Rattle.machine.specs.Processes.{first_ended}
use Rattle.process_table.proofs.Scans.{reaped-is}
use Rattle.process_table.proofs.processes.Processes.reap.Goals as goal

pub returns-clause-is : goal.returns-clause-is
returns-clause-is c = c.remove_all.ensures ∙ reaped-is c.args.self.now (first_ended c.args.parent c.args.self.now.processes) c.in_ok-child.child (sym c.in_ok-child.was ∙ c.first_ended.ensures)
