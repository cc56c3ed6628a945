-- How an effect is applied to the machine, and how the clock settles.
use Rattle.std.specs.Prelude.{ℕ, ◌+◌, ◌-◌, ◌==◌, ◌||◌, not, nat_le, Bool, true, false, Option, Some, None, List, [], ◌∷◌, map, slice_set}
use Rattle.machine.specs.declared.process.Process.{Process}
use Rattle.machine.specs.declared.report.Quantum.{Quantum}
use Rattle.machine.specs.declared.report.Quantum.TheVariants as quantum
use Rattle.machine.specs.declared.report.WorkEnd.{WorkEnd}
use Rattle.machine.specs.declared.report.WorkEnd.TheVariants.{Plain, Answered, Waiting, Forked, Ended}
use Rattle.machine.specs.Numbers.{yield_call}
use Rattle.machine.specs.Processes.{orphaned, without_id, left_of}
use Rattle.machine.specs.Pipes.{Table, no_descriptors, swept}
use Rattle.machine.specs.Machines.{Machine}
use Rattle.machine.specs.Readiness.{is_ready}
use Rattle.machine.specs.Effects.{Deed, Goes, Adds, Removes, Ends, Effect}

-- what stays where nothing else is given
abbrev pub or_old : {A : Type 0} → A → Option A → A
or_old old None = old
or_old old (Some new) = new

-- the process itself, the content and the input
abbrev pub with_own : Machine → ℕ → Effect → Machine
with_own m slot e = record m { processes = slice_set m.processes slot (Some e.process); content = e.content; input = or_old m.input e.input }

-- A process is added.
abbrev pub with_child : Machine → ℕ → Process → Table → Machine
with_child m at child table = record m { processes = slice_set m.processes at (Some child); tables = slice_set m.tables at table; forks = m.forks + 1 }

-- A process ends: its children are orphans, its slot is free or has a Zombie, its descriptors go, and pipes whose last end they were are free.
abbrev pub with_end : Machine → ℕ → Process → ℕ → Machine
with_end m slot p status =
    let tables = slice_set m.tables slot no_descriptors in
    record m { processes = slice_set (map (orphaned p.id) m.processes) slot (left_of p status); tables = tables; pipes = swept tables m.pipes }

-- the deed of the process of this slot
abbrev pub done_by : Machine → ℕ → Process → Deed → Machine
done_by m slot p Goes = m
done_by m slot p (Adds at child table) = with_child m at child table
done_by m slot p (Removes id) = record m { processes = map (without_id id) m.processes }
done_by m slot p (Ends status) = with_end m slot p status

unfoldable pub applied : Machine → ℕ → Process → Effect → Machine
applied m slot p e = done_by (with_own m slot e) slot p e.deed

-- The clock.

abbrev pub head_of : List ℕ → Option ℕ
head_of [] = None
head_of (q ∷ rest) = Some q

abbrev pub tail_of : List ℕ → List ℕ
tail_of [] = []
tail_of (q ∷ rest) = rest

-- A slot is dispatched: its quantum is the next number of the schedule; after the last one there is no interrupt.
abbrev pub dispatched : Machine → ℕ → Machine
dispatched m slot = record m { clock = record m.clock { current = Some slot; quantum = head_of m.clock.rest; last = slot; rest = tail_of m.clock.rest } }

abbrev pub quantum_of : Option ℕ → Quantum
quantum_of None = quantum.Free
quantum_of (Some q) = quantum.Steps q

abbrev pub less_one : Option ℕ → Option ℕ
less_one None = None
less_one (Some q) = Some (q - 1)

-- this step was the last of the quantum
abbrev pub is_spent : Option ℕ → Bool
is_spent None = false
is_spent (Some q) = nat_le q 1

-- yield is known by its answer, since it has no refusal
abbrev pub is_yield : WorkEnd → Bool
is_yield Plain = false
is_yield (Answered n answer) = n == yield_call
is_yield (Waiting n) = false
is_yield (Forked answer child slot region) = false
is_yield (Ended status) = false

-- The slot stops being current where the quantum is spent, the process isn't ready, or it called yield.
abbrev pub stops : Machine → ℕ → WorkEnd → Bool
stops m slot end = is_spent m.clock.quantum || (not (is_ready m slot) || is_yield end)

abbrev pub settled_as : Machine → Bool → Machine
settled_as m true = record m { clock = record m.clock { steps = m.clock.steps + 1; current = None; quantum = None } }
settled_as m false = record m { clock = record m.clock { steps = m.clock.steps + 1; quantum = less_one m.clock.quantum } }

-- the machine after the work of this slot: one step more is made
unfoldable pub settled : Machine → ℕ → WorkEnd → Machine
settled m slot end = settled_as m (stops m slot end)
