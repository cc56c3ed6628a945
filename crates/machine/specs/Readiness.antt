-- Which processes are ready, and the slot that is dispatched next. This project's own.
use Rattle.std.specs.Prelude.{ℕ, ◌+◌, ◌-◌, ◌==◌, ◌||◌, not, nat_le, if◌then◌else◌, Bool, true, false, is_some, Option, Some, None, List, ◌++◌, length}
use Rattle.std.specs.List.{range_with_len, find, list_any}
use Rattle.machine_types.specs.declared.config.Outcome.{Outcome}
use Rattle.machine_types.specs.declared.config.Outcome.TheVariants.{Running, Done, Stuck}
use Rattle.machine.specs.declared.process.Process.{Process}
use Rattle.machine.specs.declared.process.State.{State}
use Rattle.machine.specs.declared.process.State.TheVariants.{Ready, InRead, InWrite, InWait, Zombie}
use Rattle.machine.specs.declared.process.Target.{Target}
use Rattle.machine.specs.declared.process.Target.TheVariants.{ConsoleIn, ConsoleOut, PipeRead, PipeWrite}
use Rattle.machine.specs.Numbers.{first_argument, third_argument, pipe_buf}
use Rattle.machine.specs.Processes.{process_at, integer, lives, Children, children_of}
use Rattle.machine.specs.Pipes.{Table, table_at, target, Pipe, pipes_of, pipe_at, room}
use Rattle.machine.specs.Machines.{Machine}

-- A pipe may be read where it has a byte, or no writer.
abbrev pub may_read : Pipe → Bool
may_read pipe = not (length pipe.bytes == 0) || (pipe.writers == 0)

-- A pipe may be written where it has no reader. A write of at most PIPE_BUF bytes may go on also where the whole of it fits the free room,
-- and a longer one where one byte does. What counts is the whole write, not what is left of it.
abbrev pub may_write : ℕ → Pipe → Bool
may_write count pipe = (pipe.readers == 0) || (if nat_le count pipe_buf then nat_le count (room pipe) else nat_le 1 (room pipe))

-- A read that is underway waits for a pipe, and a write for a pipe or for nothing.
abbrev pub read_goes_on : List Pipe → Option Target → Bool
read_goes_on pipes None = false
read_goes_on pipes (Some ConsoleIn) = false
read_goes_on pipes (Some ConsoleOut) = false
read_goes_on pipes (Some (PipeRead k)) = may_read (pipe_at pipes k)
read_goes_on pipes (Some (PipeWrite k)) = false

abbrev pub write_goes_on : List Pipe → ℕ → Option Target → Bool
write_goes_on pipes count None = false
write_goes_on pipes count (Some ConsoleIn) = false
write_goes_on pipes count (Some ConsoleOut) = true
write_goes_on pipes count (Some (PipeRead k)) = false
write_goes_on pipes count (Some (PipeWrite k)) = may_write count (pipe_at pipes k)

-- A wait goes on where a child has ended, or there is none.
abbrev pub wait_goes_on : Children → Bool
wait_goes_on children = is_some children.ended || not children.some

-- a process in this state is ready
abbrev pub ready_as : Process → Table → List Pipe → Children → State → Bool
ready_as p table pipes children Ready = true
ready_as p table pipes children InRead = read_goes_on pipes (target table (integer p first_argument))
ready_as p table pipes children (InWrite done) = write_goes_on pipes (integer p third_argument) (target table (integer p first_argument))
ready_as p table pipes children InWait = wait_goes_on children
ready_as p table pipes children (Zombie status) = false

abbrev pub ready_in : Machine → ℕ → Option Process → Bool
ready_in m slot None = false
ready_in m slot (Some p) = ready_as p (table_at m.tables slot) (pipes_of m.tables m.pipes) (children_of p.id m.processes) p.state

-- the slot has a process that is ready
unfoldable pub is_ready : Machine → ℕ → Bool
is_ready m slot = ready_in m slot (process_at m.processes slot)

-- the slots from the one after the last one upwards, then from 0, up to the last one itself
abbrev pub slots_after : ℕ → ℕ → List ℕ
slots_after slots last = range_with_len (last + 1) (slots - (last + 1)) ++ range_with_len 0 (last + 1)

-- the first ready slot in this order
unfoldable pub next_ready : Machine → Option ℕ
next_ready m = find (is_ready m) (slots_after (length m.processes) m.clock.last)

-- Done where no process is live, Stuck where some are and none is ready, and else Running.
abbrev pub outcome_as : Bool → Bool → Outcome
outcome_as false ready = Done
outcome_as true false = Stuck
outcome_as true true = Running

unfoldable pub outcome_of : Machine → Outcome
outcome_of m = outcome_as (list_any lives m.processes) (is_some (next_ready m))
