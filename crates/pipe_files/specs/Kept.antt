-- What the parts of all descriptors are seen as, and that they are whole.
use Rattle.std.specs.Prelude.{◌≡◌, Some}
use Rattle.slab.specs.Slab.{get}
use Rattle.machine.specs.declared.process.Target.TheVariants.{ConsoleIn, ConsoleOut}
use Rattle.pipe_files.specs.declared.files.Descriptors.TheInside.{Inside}
use Rattle.pipe_files.specs.Files.{Files}
use Rattle.pipe_files.specs.Counts.{bytes_of}
use Rattle.pipe_files.specs.Tables.{tables_of, AreKept}

abbrev pub files_of : Inside → Files
files_of a = record { tables = tables_of a.descriptions a.tables.items; pipes = bytes_of a.pipes.items }

-- the console has its two descriptions, and all else is whole
pub record IsWhole (a : Inside) : Type 0 where
  pub input : get a.descriptions a.input ≡ Some ConsoleIn
  pub output : get a.descriptions a.output ≡ Some ConsoleOut
  pub kept : AreKept a.descriptions a.tables.items a.pipes.items
