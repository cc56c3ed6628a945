-- The clock after the work of a slot.
use Rattle.std.proofs.Common.{◌≡◌, ◌∙◌, refl, ℕ, zero, suc, ◌+◌, ◌≤◌, ◌<◌, ◌||◌, not, Option, Some, None, List, [], ◌∷◌, length, true, false, Bool, subst, arith}
use Rattle.std.specs.Prelude.{All}
use Rattle.std.proofs.lemmas.Bool.{or_parts, leb-false}
use Rattle.std.proofs.lemmas.List.Elements.{All-head, All-tail}
use Rattle.machine.specs.declared.process.Process.{Process}
use Rattle.machine.specs.declared.report.WorkEnd.{WorkEnd}
use Rattle.machine.specs.Processes.{process_at}
use Rattle.machine.specs.Machines.{Clock, Machine}
use Rattle.machine.specs.Readiness.{is_ready}
use Rattle.machine.specs.Effects.{Deed, Goes, Adds, Removes, Ends, Effect}
use Rattle.machine.specs.Applying.{with_own, done_by, applied, head_of, tail_of, less_one, is_spent, is_yield, stops, settled_as, settled}
use Rattle.machine.specs.Scanning.{OutcomesAreExact}
use Rattle.machine.specs.Sound.{IsQuantum, IsQuantumLeft, IsCurrent}
use Rattle.machine.specs.Steady.{IsSteady, IsGood}

-- the slot is current and was dispatched last, and quanta are in range
pub record IsTimed (clock : Clock) (slot : ℕ) : Type 0 where
  pub current : clock.current ≡ Some slot
  pub last : clock.last ≡ slot
  pub quantum : IsQuantumLeft clock.quantum
  pub rest : All IsQuantum clock.rest

-- a slot with a process is one of the list
pub slot-within : (processes : List (Option Process)) (slot : ℕ) (p : Process) → process_at processes slot ≡ Some p → slot < length processes
slot-within [] slot p e = absurd (cc)
slot-within (o ∷ processes) zero p e = omega arith
slot-within (o ∷ processes) (suc slot) p e = let rest = slot-within processes slot p e in omega arith

-- Quanta.

-- the first of them
pub first-quantum : (rest : List ℕ) → All IsQuantum rest → IsQuantumLeft (head_of rest)
first-quantum [] all = tt
first-quantum (q ∷ rest) all = All-head IsQuantum q rest all

-- and the others
pub later-quanta : (rest : List ℕ) → All IsQuantum rest → All IsQuantum (tail_of rest)
later-quanta [] all = all
later-quanta (q ∷ rest) all = All-tail IsQuantum q rest all

-- what is left of one that isn't spent
less-left : (q : Option ℕ) → IsQuantumLeft q → is_spent q ≡ false → IsQuantumLeft (less_one q)
less-left None left more = tt
less-left (Some q) left more = let big = leb-false q 1 more in let a = left.0 in let b = left.1 in (omega arith, omega arith)

-- An effect leaves the configuration and the clock, and is one fork at most.
pub record IsApplied (m n : Machine) : Type 0 where
  pub config : n.config ≡ m.config
  pub clock : n.clock ≡ m.clock
  pub forks : n.forks ≤ m.forks + 1

-- Each effect does so, whatever its deed.
pub applied-shape : (m : Machine) (slot : ℕ) (p : Process) (e : Effect) → IsApplied m (applied m slot p e)
unfolding applied
applied-shape m slot p e = by e.deed
  where
    by : (deed : Deed) → IsApplied m (done_by (with_own m slot e) slot p deed)
    by Goes = record { config = refl; clock = refl; forks = omega arith }
    by (Adds at child table) = record { config = refl; clock = refl; forks = omega arith }
    by (Removes id) = record { config = refl; clock = refl; forks = omega arith }
    by (Ends status) = record { config = refl; clock = refl; forks = omega arith }

-- Another clock leaves a machine steady.
pub steady-clock : (m : Machine) (clock : Clock) → IsSteady m → IsSteady (record m { clock = clock })
steady-clock m clock s = record {
  configured = record { config = s.configured.config; processes = s.configured.processes; tables = s.configured.tables; frames = s.configured.frames; rule = s.configured.rule };
  processes = s.processes;
  pipes = s.pipes;
  input = s.input;
}

-- whether a slot is ready is nothing of the clock's
ready-clock : (m : Machine) (clock : Clock) (slot : ℕ) → is_ready (record m { clock = clock }) slot ≡ is_ready m slot
unfolding is_ready
ready-clock m clock slot = refl

-- what isn't false is true
not-false : (b : Bool) → not b ≡ false → b ≡ true
not-false true h = refl
not-false false h = absurd (cc)

-- A clock that settles makes one step, and takes nothing of the schedule.
pub record IsSettled (before after : Clock) : Type 0 where
  pub steps : after.steps ≡ before.steps + 1
  pub last : after.last ≡ before.last
  pub rest : after.rest ≡ before.rest

-- So does the clock of a machine after the work of a slot.
pub settled-clock : (m : Machine) (slot : ℕ) (end : WorkEnd) → IsSettled m.clock (settled m slot end).clock
unfolding settled
settled-clock m slot end = by (stops m slot end)
  where
    by : (b : Bool) → IsSettled m.clock (settled_as m b).clock
    by true = record { steps = refl; last = refl; rest = refl }
    by false = record { steps = refl; last = refl; rest = refl }

-- A steady machine is good after the clock settles.
pub settled-good : OutcomesAreExact → (m : Machine) (slot : ℕ) (end : WorkEnd) → IsSteady m → IsTimed m.clock slot → slot < length m.processes → m.forks ≤ m.clock.steps + 1 → IsGood (settled m slot end)
unfolding settled
settled-good outcomes m slot end steady timed within made = by (stops m slot end) refl
  where
    by : (b : Bool) → stops m slot end ≡ b → IsGood (settled_as m b)
    by true e = record {
      steady = steady-clock m (settled_as m true).clock steady;
      clock = record { current = λ k f. absurd (cc); quantum = tt; last = rw timed.last within; rest = timed.rest };
      idle = λ none. refl;
      made = made;
    }
    by false e =
        let parts = or_parts (is_spent m.clock.quantum) (not (is_ready m slot) || is_yield end) e in
        let ready : is_ready m slot ≡ true = not-false (is_ready m slot) (or_parts (not (is_ready m slot)) (is_yield end) parts.1).0 in
        let lives = outcomes.live m slot ready in
        record {
          steady = steady-clock m (settled_as m false).clock steady;
          clock = record {
            current = λ k f.
                let same : slot ≡ k = let one = timed.current in cc in
                subst (IsCurrent (settled_as m false)) same
                (record { process = lives.process; there = lives.there; live = lives.live; ready = ready-clock m (settled_as m false).clock slot ∙ ready; last = timed.last });
            quantum = less-left m.clock.quantum timed.quantum parts.0;
            last = rw timed.last within;
            rest = timed.rest;
          };
          idle = λ none. let one = timed.current in absurd (cc);
          made = made;
        }
