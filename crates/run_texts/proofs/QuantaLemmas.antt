-- The quanta of a schedule are in their range.
use Rattle.std.proofs.Common.{ℕ, List, [], ◌∷◌, replicate, All}
use Rattle.std.proofs.lemmas.List.Elements.{All-nil, All-head, All-tail, All-append, All-replicate}
use Rattle.run_texts.specs.Schedules as schedules
use Rattle.machine.specs.Sound.{IsQuantum}
use Rattle.machine_steps.specs.Runs.{quanta_of}

-- each entry's quantum is, so all are
pub quanta_fit : (schedule : List (ℕ × ℕ)) → All schedules.IsQuantum schedule → All IsQuantum (quanta_of schedule)
quanta_fit [] h = All-nil IsQuantum
quanta_fit (entry ∷ schedule) h =
    let first = All-head schedules.IsQuantum entry schedule h in
    All-append IsQuantum (replicate entry.1 entry.0) (quanta_of schedule) (All-replicate IsQuantum entry.1 entry.0 (first.0, first.1))
    (quanta_fit schedule (All-tail schedules.IsQuantum entry schedule h))
