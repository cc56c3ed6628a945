use Rattle.machine.proofs.RefusedCalls.{read-ebadf, write-ebadf, read-efault, write-efault}
use Rattle.machine.proofs.laws.transfers_are_refused.Goals as goal

pub returns : goal.returns
returns c = record { ebadf_read = read-ebadf; ebadf_write = write-ebadf; efault_read = read-efault; efault_write = write-efault }
