use Rattle.std.proofs.Common.{refl, inl, inr, sym}
use Rattle.outside_io.proofs.memory_files.MemoryFilesFiles.read_file.Goals as goal
use Rattle.outside_io.proofs.memory_files.MemoryFilesFiles.read_file.Goals.{in_default-via-in-Some+else-not-fails, in_default-via-in_default}

pub returns-in-Ok-clause-fails : goal.returns-in-Ok-clause-fails
returns-in-Ok-clause-fails c = elim c.in_default.branch [
  | in_default-via-in-Some+else-not-fails w ↦ inl (rw (← c.self.view_is) (w.if-not-fails.ensures.fails.0 refl))
  | in_default-via-in_default w ↦ inr (rw (← c.self.view_is) (rw c.deref.ensures.value at (sym w.in_default.ensures)))
]
