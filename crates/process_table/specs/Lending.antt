-- What a table is after its process at a slot was changed.
use Rattle.std.specs.Prelude.{ℕ, Option, Some}
use Rattle.std.specs.Borrow.{LendsIf, MutBor, Fml}
use Rattle.machine.specs.declared.process.Process.{Process}
use Rattle.machine.specs.contracts.process.Process as process
use Rattle.process_table.specs.contracts.processes.Processes.{the_row}
use Rattle.process_table.specs.Tables.{Table, with_slot}

-- It ends with what was left behind the reference at the slot, and as it was where the slot has no process.
abbrev pub LendsProcess : MutBor Table → ℕ → Option (MutBor Process) → Fml
LendsProcess t slot r = LendsIf the_row process.the_row t r (λ p. with_slot t.now slot (Some p)) t.now
