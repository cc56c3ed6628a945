-- How the clock goes on, in numbers.
use Rattle.std.specs.Prelude.{ℕ, ◌≡◌, ◌≢◌, ◌+◌, true, false, ℤ, Option, Some, None, List, [], ◌∷◌}
use Rattle.machine.specs.declared.report.WorkEnd.{WorkEnd}
use Rattle.machine.specs.declared.report.WorkEnd.TheVariants.{Answered}
use Rattle.machine.specs.Numbers.{yield_call}
use Rattle.machine.specs.Machines.{Machine}
use Rattle.machine.specs.Readiness.{is_ready}
use Rattle.machine.specs.Applying.{dispatched, settled}

-- the work wasn't a yield
abbrev pub IsNoYield : WorkEnd → Type 0
IsNoYield end = (answer : ℤ) → end ≢ Answered yield_call answer

-- the slot stays current, with this quantum
pub record StaysCurrent (m n : Machine) (quantum : Option ℕ) : Type 0 where
  pub current : n.clock.current ≡ m.clock.current
  pub left : n.clock.quantum ≡ quantum

-- no slot is current, and no quantum is left
pub record IsIdle (n : Machine) : Type 0 where
  pub current : n.clock.current ≡ None
  pub left : n.clock.quantum ≡ None

-- After each work, however it ended, one step more is made. No slot is current then where that was the last step of the quantum, the process isn't
-- ready, or it called yield; else the slot stays current, and its quantum, if an interrupt is to come, is one less.
pub record ClocksTurn : Type 0 where
  pub steps : (m : Machine) (slot : ℕ) (end : WorkEnd) → (settled m slot end).clock.steps ≡ m.clock.steps + 1
  pub last : (m : Machine) (slot : ℕ) (end : WorkEnd) → (settled m slot end).clock.last ≡ m.clock.last
  pub rest : (m : Machine) (slot : ℕ) (end : WorkEnd) → (settled m slot end).clock.rest ≡ m.clock.rest
  pub spent : (m : Machine) (slot : ℕ) (end : WorkEnd) → m.clock.quantum ≡ Some 1 → IsIdle (settled m slot end)
  pub unready : (m : Machine) (slot : ℕ) (end : WorkEnd) → is_ready m slot ≡ false → IsIdle (settled m slot end)
  pub yields : (m : Machine) (slot : ℕ) (answer : ℤ) → IsIdle (settled m slot (Answered yield_call answer))
  pub goes_on : (m : Machine) (slot q : ℕ) (end : WorkEnd) → is_ready m slot ≡ true → m.clock.quantum ≡ Some (q + 2) → IsNoYield end → StaysCurrent m (settled m slot end) (Some (q + 1))
  pub free : (m : Machine) (slot : ℕ) (end : WorkEnd) → is_ready m slot ≡ true → m.clock.quantum ≡ None → IsNoYield end → StaysCurrent m (settled m slot end) None
  -- a dispatch takes the next quantum of the schedule, and is free after the last one
  pub dispatched_last : (m : Machine) (slot : ℕ) → (dispatched m slot).clock.last ≡ slot
  pub dispatched_current : (m : Machine) (slot : ℕ) → (dispatched m slot).clock.current ≡ Some slot
  pub takes : (m : Machine) (slot q : ℕ) (rest : List ℕ) → m.clock.rest ≡ q ∷ rest → ((dispatched m slot).clock.quantum ≡ Some q) × ((dispatched m slot).clock.rest ≡ rest)
  pub none_left : (m : Machine) (slot : ℕ) → m.clock.rest ≡ [] → ((dispatched m slot).clock.quantum ≡ None) × ((dispatched m slot).clock.rest ≡ [])
