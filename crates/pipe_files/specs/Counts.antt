-- How pipes are kept: their bytes, and for each end how many descriptors name it.
use Rattle.std.specs.Prelude.{ℕ, ◌≡◌, ◌<◌, ◌==◌, ◌&&◌, if◌then◌else◌, Bool, Option, Some, None, List, [], length, map, slice_index_or}
use Rattle.circular_buffer.specs.Buffer.{Buffer, buffer}
use Rattle.machine.specs.declared.process.Target.{Target}
use Rattle.machine.specs.declared.process.Target.TheVariants.{ConsoleIn, ConsoleOut, PipeRead, PipeWrite}
use Rattle.machine.specs.Pipes.{Table, readers_of, writers_of}
use Rattle.pipe_files.specs.declared.pipes.Pipe.{Pipe}

-- one where it holds, and else none
abbrev pub one : Bool → ℕ
one b = if b then 1 else 0

-- what stands where there is no pipe
abbrev pub no_pipe : Pipe
no_pipe = record { bytes = buffer [] 0; reading = 0; writing = 0; readers = 0; writers = 0 }

-- the pipe of a number, and how many descriptors name its ends, as it is kept
abbrev pub pipe_at : List Pipe → ℕ → Pipe
pipe_at pipes k = slice_index_or pipes k no_pipe

abbrev pub readers_at : List Pipe → ℕ → ℕ
readers_at pipes k = (pipe_at pipes k).readers

abbrev pub writers_at : List Pipe → ℕ → ℕ
writers_at pipes k = (pipe_at pipes k).writers

-- all else of a pipe
abbrev pub parts : Pipe → Buffer ℕ × (ℕ × ℕ)
parts p = (p.bytes, (p.reading, p.writing))

-- it names one of so many pipes, if it names one
abbrev pub IsNamed : ℕ → Option Target → Type 0
IsNamed count None = Unit {0}
IsNamed count (Some ConsoleIn) = Unit {0}
IsNamed count (Some ConsoleOut) = Unit {0}
IsNamed count (Some (PipeRead k)) = k < count
IsNamed count (Some (PipeWrite k)) = k < count

-- a pipe that no descriptor names has no bytes
abbrev pub swept_pipe : Pipe → Pipe
swept_pipe p = if (p.readers == 0) && (p.writers == 0) then record p { bytes = buffer [] p.bytes.capacity } else p

-- the bytes of the pipes
abbrev pub bytes_of : List Pipe → List (List ℕ)
bytes_of pipes = map (λ p. p.bytes.items) pipes

-- What is kept is what a scan of all tables counts.
pub record AreCounted (tables : List Table) (pipes : List Pipe) : Type 0 where
  pub readers : (k : ℕ) → k < length pipes → readers_at pipes k ≡ readers_of tables k
  pub writers : (k : ℕ) → k < length pipes → writers_at pipes k ≡ writers_of tables k
