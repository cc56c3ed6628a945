-- The process table: a process or nothing for each slot, and a mark beside it. This project's own.
use Rattle.std.specs.Prelude.{ℕ, Bool, false, Option, Some, None, List, slice_index_or, slice_set, map, replicate, length}
use Rattle.std.specs.List.{find}
use Rattle.std.specs.Option.{option_map}
use Rattle.machine.specs.declared.process.Process.{Process}
use Rattle.machine.specs.Processes.{process_at, orphaned, without_id, left_of, Ended}
use Rattle.machine.specs.Readiness.{slots_after}

-- what a table is seen as: the processes of its slots, and whether each slot is marked as ready
pub record Table : Type 0 where
  pub processes : List (Option Process)
  pub marks : List Bool

-- so many slots without a process, and none marked
abbrev pub empty : ℕ → Table
empty slots = record { processes = replicate slots None; marks = replicate slots false }

-- the mark of a slot
abbrev pub marked : Table → ℕ → Bool
marked t slot = slice_index_or t.marks slot false

-- a slot with another process, or without one
abbrev pub with_slot : Table → ℕ → Option Process → Table
with_slot t slot o = record t { processes = slice_set t.processes slot o }

-- a process put at the slot that was found, if one was
abbrev pub added : Table → Process → Option ℕ → Table
added t p None = t
added t p (Some slot) = with_slot t slot (Some p)

-- The process of a slot ends: its children are orphans, and it is a Zombie or its slot is free.
abbrev pub finished_as : Table → ℕ → ℕ → Option Process → Table
finished_as t slot status None = t
finished_as t slot status (Some p) = record t { processes = slice_set (map (orphaned p.id) t.processes) slot (left_of p status) }

abbrev pub finished : Table → ℕ → ℕ → Table
finished t slot status = finished_as t slot status (process_at t.processes slot)

-- the Zombie that was waited for is removed, if there was one
abbrev pub reaped : Table → Option Ended → Table
reaped t None = t
reaped t (Some child) = record t { processes = map (without_id child.id) t.processes }

-- its id and its status
abbrev pub told : Option Ended → Option (ℕ × ℕ)
told o = option_map (λ child. (child.id, child.status)) o

-- the first marked slot after the last one, which comes last itself
abbrev pub next_marked : Table → ℕ → Option ℕ
next_marked t last = find (marked t) (slots_after (length t.processes) last)
