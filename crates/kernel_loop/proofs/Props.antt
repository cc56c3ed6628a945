-- What a kernel keeps has one proof at most, so it can be taken from a machine that is only known to be there.
use Rattle.std.proofs.Props.{props}
use Rattle.std.proofs.Common.{ℕ, Option, Some, None}
use Rattle.machine.specs.declared.process.Target.{Target}
use Rattle.machine.specs.declared.process.Target.TheVariants.{ConsoleIn, ConsoleOut, PipeRead, PipeWrite}
use Rattle.pipe_files.specs.Counts.{IsNamed}
use Rattle.kernel_loop.specs.declared.stepping.Core.{Core}
use Rattle.kernel_loop.specs.Stands.{IsKept}

pub IsKept-prop : {S : Type 0} (k : Core S) → IsProp (IsKept k)
IsKept-prop k = hlevel props

pub IsNamed-prop : (n : ℕ) (o : Option Target) → IsProp (IsNamed n o)
IsNamed-prop n None = hlevel props
IsNamed-prop n (Some ConsoleIn) = hlevel props
IsNamed-prop n (Some ConsoleOut) = hlevel props
IsNamed-prop n (Some (PipeRead k)) = hlevel props
IsNamed-prop n (Some (PipeWrite k)) = hlevel props
