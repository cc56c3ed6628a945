use Rattle.machine.proofs.RefusedCalls.{refused-nothing, fork-eagain, fork-enomem, wait-echild}
use Rattle.machine.proofs.laws.calls_are_refused.Goals as goal

pub returns : goal.returns
returns c = record { nothing = refused-nothing; eagain = fork-eagain; enomem = fork-enomem; echild = wait-echild }
