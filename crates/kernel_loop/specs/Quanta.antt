-- The quanta that are left of a schedule.
use Rattle.std.specs.Prelude.{ℕ, ◌-◌, List, [], ◌∷◌, ◌++◌, drop, replicate}
use Rattle.machine_steps.specs.Runs.{quanta_of}

-- those of the first pair that are not used, and those of the others
abbrev pub unused : List (ℕ × ℕ) → ℕ → List ℕ
unused [] used = []
unused (pair ∷ pairs) used = replicate (pair.1 - used) pair.0 ++ quanta_of pairs

-- from a pair of the schedule on, which was used so often
abbrev pub quanta_from : List (ℕ × ℕ) → ℕ → ℕ → List ℕ
quanta_from schedule pair used = unused (drop pair schedule) used
