-- The marks of the process table, and who is ready.
use Rattle.std.specs.Prelude.{ℕ, ◌≡◌, ◌≢◌, ◌<◌, ◌==◌, Bool, true, false, List, length, slice_index_or}
use Rattle.machine.specs.declared.report.WorkEnd.{WorkEnd}
use Rattle.machine.specs.declared.report.WorkEnd.TheVariants.{Plain, Answered, Waiting, Forked, Ended}
use Rattle.machine.specs.Numbers.{wait_call, pipe_count}
use Rattle.machine.specs.Pipes.{target, table_at}
use Rattle.machine.specs.Machines.{Machine}
use Rattle.machine.specs.Readiness.{is_ready}
use Rattle.pipe_files.specs.Files.{Files}
use Rattle.pipe_files.specs.Counts.{IsNamed}
use Rattle.trap_syscalls.specs.declared.world.World.{World}

-- the machine has the processes, the tables and the pipes of a world, which is all that readiness asks for
pub record HasParts (m : Machine) (w : World) : Type 0 where
  pub processes : m.processes ≡ w.processes.processes
  pub tables : m.tables ≡ w.files.tables
  pub pipes : m.pipes ≡ w.files.pipes

-- there are all pipes, and descriptors name no others
pub record AreNamed (files : Files) : Type 0 where
  pub pipes : length files.pipes ≡ pipe_count
  pub named : (slot fd : ℕ) → IsNamed pipe_count (target (table_at files.tables slot) fd)

-- all but the marks is as it was
abbrev pub IsRemarked : World → World → Type 0
IsRemarked old new = new ≡ record old { processes = record old.processes { marks = new.processes.marks } }

-- each slot is marked exactly where its process is ready
abbrev pub AreMarked : Machine → List Bool → Type 0
AreMarked m marks = (slot : ℕ) → slot < length m.processes → slice_index_or marks slot false ≡ is_ready m slot

-- A work that ended so may have changed whether others are ready: it added or ended a process. A wait is counted, too, and known by its number. No
-- call changes a pipe so far.
abbrev pub changes_others : WorkEnd → Bool
changes_others Plain = false
changes_others (Answered number answer) = number == wait_call
changes_others (Waiting number) = false
changes_others (Forked answer child slot region) = true
changes_others (Ended status) = true

-- Another slot is marked anew where the work may have changed it, and else as it was.
abbrev pub marks_others : Machine → Bool → List Bool → ℕ → Bool
marks_others m true old k = is_ready m k
marks_others m false old k = slice_index_or old k false

abbrev pub MarksOthers : Machine → List Bool → List Bool → ℕ → WorkEnd → ℕ → Type 0
MarksOthers m old new slot end k = k < length m.processes → k ≢ slot → slice_index_or new k false ≡ marks_others m (changes_others end) old k
