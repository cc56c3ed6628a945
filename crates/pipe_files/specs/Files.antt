-- Descriptors and pipes as they are seen from outside: what each descriptor of each slot names, and the bytes of each pipe. This project's own.
use Rattle.std.specs.Prelude.{ℕ, [], List, replicate, slice_set}
use Rattle.machine.specs.Numbers.{pipe_count}
use Rattle.machine.specs.Pipes.{Table, no_descriptors, swept}

pub record Files : Type 0 where
  pub tables : List Table
  pub pipes : List (List ℕ)

-- so many slots without a descriptor in use, and empty pipes
abbrev pub no_files : ℕ → Files
no_files slots = record { tables = replicate slots no_descriptors; pipes = replicate pipe_count [] }

-- The slot has other descriptors. Its old ones are closed, and the pipes that none names any more are free, which means that they are empty.
abbrev pub with_table : Files → ℕ → Table → Files
with_table files slot table = let tables = slice_set files.tables slot table in record { tables = tables; pipes = swept tables files.pipes }
