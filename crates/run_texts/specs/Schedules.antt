-- The text of a schedule: a list of quanta in steps, one a line, each alone or with how often it is repeated.
use Rattle.std.specs.Prelude.{ℕ, ◌≡◌, ◌≤◌, Result, Err, List, ⊤}
use Rattle.machine_types.specs.Numbers.{most_quantum, most_repeats}
use Rattle.machine_types.specs.NumberLists.{list_of}
use Rattle.run_texts.specs.declared.schedule.ScheduleRefusal.{ScheduleRefusal}
use Rattle.run_texts.specs.declared.schedule.ScheduleRefusal.TheVariants.{Line, NoMemory}

-- the schedule that a text is, or its first wrong line
abbrev pub schedule_of : List ℕ → Result (List (ℕ × ℕ)) ℕ
schedule_of text = list_of 1 most_quantum text

-- a text is refused at the line that is wrong, but for want of memory
abbrev pub IsRefusedAs : Result (List (ℕ × ℕ)) ℕ → ScheduleRefusal → Type 0
IsRefusedAs schedule (Line n) = schedule ≡ Err n
IsRefusedAs schedule NoMemory = ⊤

-- a quantum and its repeats, each in its range
abbrev pub IsQuantum : ℕ × ℕ → Type 0
IsQuantum pair = (1 ≤ pair.0) × (pair.0 ≤ most_quantum) × (1 ≤ pair.1) × (pair.1 ≤ most_repeats)

-- A schedule is a list of numbers from 1 to 1000000, each of which is repeated 1 to 1000000000 times. A text that is refused has that first
-- wrong line.
pub record SchedulesAreExact : Type 0 where
  pub is : (text : List ℕ) → schedule_of text ≡ list_of 1 1000000 text
  pub quantum : (quantum repeats : ℕ) → IsQuantum (quantum, repeats) → (1 ≤ quantum) × (quantum ≤ 1000000) × (1 ≤ repeats) × (repeats ≤ 1000000000)
  pub refused : (schedule : Result (List (ℕ × ℕ)) ℕ) (n : ℕ) → IsRefusedAs schedule (Line n) → schedule ≡ Err n
