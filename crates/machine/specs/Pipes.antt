-- Descriptors and pipes. After POSIX.1-2024; how many there are and what a pipe holds is this project's own.
use Rattle.std.specs.Prelude.{ℕ, ◌+◌, ◌-◌, ◌==◌, ◌&&◌, if◌then◌else◌, Bool, false, Option, Some, None, List, [], ◌∷◌, length, slice_index_or, replicate}
use Rattle.machine.specs.declared.process.Target.{Target}
use Rattle.machine.specs.declared.process.Target.TheVariants.{ConsoleIn, ConsoleOut, PipeRead, PipeWrite}
use Rattle.machine.specs.Numbers.{descriptor_count, pipe_bytes}

-- a process's descriptors: what each names, or nothing
abbrev pub Table : Type 0
Table = List (Option Target)

-- the table of a slot
abbrev pub table_at : List Table → ℕ → Table
table_at tables slot = slice_index_or tables slot []

-- a table without a descriptor in use
abbrev pub no_descriptors : Table
no_descriptors = replicate descriptor_count None

-- descriptor 0 is the console's input, 1 its output
abbrev pub console_table : Table
console_table = Some ConsoleIn ∷ Some ConsoleOut ∷ replicate (descriptor_count - 2) None

-- What a descriptor names. A number past the last one names nothing.
abbrev pub target : Table → ℕ → Option Target
target table fd = slice_index_or table fd None

-- the table of a child: both refer to the same descriptions
abbrev pub inherited : Table → Table
inherited table = table

-- it names the end for reading of this pipe, or the end for writing
abbrev pub reads : ℕ → Option Target → Bool
reads pipe None = false
reads pipe (Some ConsoleIn) = false
reads pipe (Some ConsoleOut) = false
reads pipe (Some (PipeRead k)) = k == pipe
reads pipe (Some (PipeWrite k)) = false

abbrev pub writes : ℕ → Option Target → Bool
writes pipe None = false
writes pipe (Some ConsoleIn) = false
writes pipe (Some ConsoleOut) = false
writes pipe (Some (PipeRead k)) = false
writes pipe (Some (PipeWrite k)) = k == pipe

-- how many descriptors of a table name an end, and how many of all tables
abbrev pub ends_in : (Option Target → Bool) → Table → ℕ
ends_in names [] = 0
ends_in names (t ∷ table) = if names t then 1 + ends_in names table else ends_in names table

abbrev pub ends_of : (Option Target → Bool) → List Table → ℕ
ends_of names [] = 0
ends_of names (table ∷ tables) = ends_in names table + ends_of names tables

abbrev pub readers_of : List Table → ℕ → ℕ
readers_of tables pipe = ends_of (reads pipe) tables

abbrev pub writers_of : List Table → ℕ → ℕ
writers_of tables pipe = ends_of (writes pipe) tables

-- what a process sees of a pipe: its bytes, and the numbers of its readers and writers
pub record Pipe : Type 0 where
  pub bytes : List ℕ
  pub readers : ℕ
  pub writers : ℕ

abbrev pub pipes_from : List Table → ℕ → List (List ℕ) → List Pipe
pipes_from tables k [] = []
pipes_from tables k (bytes ∷ pipes) = record { bytes = bytes; readers = readers_of tables k; writers = writers_of tables k } ∷ pipes_from tables (k + 1) pipes

abbrev pub pipes_of : List Table → List (List ℕ) → List Pipe
pipes_of tables pipes = pipes_from tables 0 pipes

-- the pipe of a number
abbrev pub no_pipe : Pipe
no_pipe = record { bytes = []; readers = 0; writers = 0 }

abbrev pub pipe_at : List Pipe → ℕ → Pipe
pipe_at pipes k = slice_index_or pipes k no_pipe

-- the free room of a pipe, in bytes
abbrev pub room : Pipe → ℕ
room pipe = pipe_bytes - length pipe.bytes

-- A pipe with neither reader nor writer is free, and a free pipe is empty.
abbrev pub is_unused : List Table → ℕ → Bool
is_unused tables k = (readers_of tables k == 0) && (writers_of tables k == 0)

abbrev pub swept_from : List Table → ℕ → List (List ℕ) → List (List ℕ)
swept_from tables k [] = []
swept_from tables k (bytes ∷ pipes) = (if is_unused tables k then [] else bytes) ∷ swept_from tables (k + 1) pipes

-- the pipes where those that are free are empty
unfoldable pub swept : List Table → List (List ℕ) → List (List ℕ)
swept tables pipes = swept_from tables 0 pipes
