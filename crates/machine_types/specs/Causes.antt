-- The numbers of the causes.
use Rattle.std.specs.Prelude.{ℕ}
use Rattle.machine_types.specs.declared.cause.Cause.{Cause}
use Rattle.machine_types.specs.declared.cause.Cause.TheVariants.{Tag, Sealed, Permission, Bounds, Misaligned, NoPage, NoRight, BadInstruction, Breakpoint, CodeBounds, CodePage, NoFrame}

abbrev pub cause_number : Cause → ℕ
cause_number Tag = 1
cause_number Sealed = 2
cause_number Permission = 3
cause_number Bounds = 4
cause_number Misaligned = 5
cause_number NoPage = 6
cause_number NoRight = 7
cause_number BadInstruction = 8
cause_number Breakpoint = 9
cause_number CodeBounds = 10
cause_number CodePage = 11
cause_number NoFrame = 12
