-- What is known of a world whose process makes a call has one proof at most, so it can be taken from a machine that is only known to be there.
use Rattle.std.proofs.Props.{props}
use Rattle.trap_syscalls.specs.declared.call.Call.{Call}
use Rattle.trap_syscalls.specs.declared.world.World.{World}
use Rattle.trap_syscalls.specs.Calling.{IsCalling, MayReap, MayFork}

-- what makes a call a call
pub IsCalling-prop : (w : World) (call : Call) → IsProp (IsCalling w call)
IsCalling-prop w call = hlevel props

-- what a wait asks for
pub MayReap-prop : (w : World) (call : Call) → IsProp (MayReap w call)
MayReap-prop w call = hlevel props

-- what a fork asks for
pub MayFork-prop : (w : World) (call : Call) → IsProp (MayFork w call)
MayFork-prop w call = hlevel props
