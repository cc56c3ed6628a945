-- What descriptors and pipes are after a call: each slot has what it was given, and no pipe has bytes that nobody can read or wait for.
use Rattle.std.specs.Prelude.{ℕ, ◌≡◌, ◌≢◌, ◌<◌, ◌⊎◌, None, [], length, slice_index_or}
use Rattle.machine.specs.Numbers.{pipe_count}
use Rattle.machine.specs.Pipes.{Table, table_at, target, readers_of, writers_of}
use Rattle.pipe_files.specs.Files.{Files, no_files, with_table}

-- At the beginning no descriptor is in use, and no pipe has bytes.
pub record NothingIsOpen : Type 0 where
  pub slots : (slots : ℕ) → length (no_files slots).tables ≡ slots
  pub none : (slots slot fd : ℕ) → target (table_at (no_files slots).tables slot) fd ≡ None
  pub pipes : (slots : ℕ) → length (no_files slots).pipes ≡ pipe_count
  pub empty : (slots k : ℕ) → slice_index_or (no_files slots).pipes k [] ≡ []

-- A slot that is given a table has that one, and every other slot its own. A pipe that a descriptor names has its bytes still, and any other
-- has none.
pub record TablesAreGiven : Type 0 where
  pub slots : (files : Files) (slot : ℕ) (table : Table) → length (with_table files slot table).tables ≡ length files.tables
  pub here : (files : Files) (slot : ℕ) (table : Table) → slot < length files.tables → table_at (with_table files slot table).tables slot ≡ table
  pub others : (files : Files) (slot other : ℕ) (table : Table) → other ≢ slot → table_at (with_table files slot table).tables other ≡ table_at files.tables other
  pub pipes : (files : Files) (slot : ℕ) (table : Table) → length (with_table files slot table).pipes ≡ length files.pipes
  pub used : (files : Files) (slot k : ℕ) (table : Table) → (readers_of (with_table files slot table).tables k ≢ 0) ⊎ (writers_of (with_table files slot table).tables k ≢ 0)
      → slice_index_or (with_table files slot table).pipes k [] ≡ slice_index_or files.pipes k []
  pub free : (files : Files) (slot k : ℕ) (table : Table) → readers_of (with_table files slot table).tables k ≡ 0 → writers_of (with_table files slot table).tables k ≡ 0
      → slice_index_or (with_table files slot table).pipes k [] ≡ []
