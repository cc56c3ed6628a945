-- The quanta and the repeats of a schedule are in their ranges.
use Rattle.std.proofs.Common.{◌≡◌, ℕ, Ok, List}
use Rattle.std.specs.List.{All}
use Rattle.std.proofs.lemmas.List.Elements.{All-weaker}
use Rattle.machine_types.specs.Numbers.{most_quantum}
use Rattle.machine_types.proofs.EntriesWithin.{IsEntryWithin, list-within}
use Rattle.run_texts.specs.Schedules.{schedule_of, IsQuantum}

-- each pair of a schedule
pub schedule-within : (text : List ℕ) (pairs : List (ℕ × ℕ)) → schedule_of text ≡ Ok pairs → All IsQuantum pairs
schedule-within text pairs read =
    All-weaker (IsEntryWithin 1 most_quantum) IsQuantum
    (λ pair within. (within.number.from, within.number.to, within.repeats.from, within.repeats.to))
    pairs (list-within 1 most_quantum text pairs read)
