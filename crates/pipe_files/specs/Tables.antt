-- How descriptors are kept: a descriptor in use has the key of its description, which says what it names.
use Rattle.std.specs.Prelude.{ℕ, ◌≡◌, ◌<◌, ◌≤◌, Option, Some, None, List, [], length, map, replicate, slice_index_or, slice_set}
use Rattle.slab.specs.Slab.{Slab, get}
use Rattle.machine.specs.declared.process.Target.{Target}
use Rattle.machine.specs.Numbers.{descriptor_count, pipe_count}
use Rattle.machine.specs.Pipes.{Table}
use Rattle.pipe_files.specs.declared.tables.Descriptor.{Descriptor}
use Rattle.pipe_files.specs.declared.pipes.Pipe.{Pipe}
use Rattle.pipe_files.specs.Counts.{pipe_at, AreCounted}
use Rattle.pipe_files.specs.Made.{AreBelow, HasEnds}

-- the entries of a table
abbrev pub Entries : Type 0
Entries = List (Option Descriptor)

-- none of them in use
abbrev pub unused : Entries
unused = replicate descriptor_count None

-- what an entry names
abbrev pub named_by : Slab Target → Option Descriptor → Option Target
named_by descriptions None = None
named_by descriptions (Some d) = get descriptions d.description

abbrev pub table_of : Slab Target → Entries → Table
table_of descriptions entries = map (named_by descriptions) entries

abbrev pub tables_of : Slab Target → List Entries → List Table
tables_of descriptions tables = map (table_of descriptions) tables

-- the entries of a slot, and the entry of a number
abbrev pub entries_at : List Entries → ℕ → Entries
entries_at tables slot = slice_index_or tables slot []

abbrev pub entry_at : Entries → ℕ → Option Descriptor
entry_at entries fd = slice_index_or entries fd None

-- an entry of a slot is another one
abbrev pub with_entry : List Entries → ℕ → ℕ → Option Descriptor → List Entries
with_entry tables slot fd entry = slice_set tables slot (slice_set (entries_at tables slot) fd entry)

-- What is kept is whole: there are not too many slots, each has as many entries as a process has descriptors, the descriptions name ends of the pipes
-- alone, and the ends are counted.
pub record AreKept (descriptions : Slab Target) (tables : List Entries) (pipes : List Pipe) : Type 0 where
  pub slots : length tables ≤ 64
  pub entries : (slot : ℕ) → slot < length tables → length (entries_at tables slot) ≡ descriptor_count
  pub below : AreBelow pipe_count descriptions
  pub count : length pipes ≡ pipe_count
  pub ends : (k : ℕ) → k < pipe_count → HasEnds descriptions k (pipe_at pipes k)
  pub counted : AreCounted (tables_of descriptions tables) pipes
