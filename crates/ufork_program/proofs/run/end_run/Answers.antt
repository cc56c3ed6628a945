use Rattle.ufork_program.proofs.RunLemmas.{goes-over, goes-cut, goes-stop}
use Rattle.ufork_program.proofs.run.end_run.Goals as goal

pub returns-in_err-written : goal.returns-in_err-written
returns-in_err-written g c = λ m left old out run. goes-stop _ c.args.kernel.now m left _ _ _ _ _ c.from_residual.ensures.1 (rw c.in_err-written.was at run)

pub returns-in_err-write_last : goal.returns-in_err-write_last
returns-in_err-write_last g c = λ m left old out run.
    goes-cut _ c.args.kernel.now m left _ _ _ _ _ _ _ _ _ _ c.from_residual-in_err-write_last.ensures.1 (rw c.in_ok-written.was at run)
    c.outcome-outcome.ensures c.steps.ensures c.in_err-write_last.ensures

pub returns : goal.returns
returns g c = λ m left old out run.
    goes-over _ c.args.kernel.now m left _ _ _ _ _ _ _ _ _ (rw c.in_ok-written.was at run) c.outcome-outcome.ensures c.steps.ensures c.in_ok-write_last.ensures c.status_of.ensures
