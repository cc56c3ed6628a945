use Rattle.std.proofs.Common.{◌∙◌, sym}
use Rattle.kernel_loop.proofs.ReadyParts.{nobody-ready, somebody-ready}
use Rattle.kernel_loop.proofs.readiness.is_ready.Goals as goal

pub returns-in-Some : goal.returns-in-Some
returns-in-Some c m processes tables pipes =
    c.goes_on.ensures ∙ somebody-ready m c.args.processes.now.processes c.args.files.now.tables c.args.files.now.pipes c.args.slot c.in-Some.p.now processes tables pipes (sym c.in-Some.ensures)

pub returns-in-None : goal.returns-in-None
returns-in-None c m processes tables pipes = nobody-ready m c.args.processes.now.processes c.args.slot processes (sym c.in-None.ensures)
