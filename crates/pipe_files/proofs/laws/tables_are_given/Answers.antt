use Rattle.std.proofs.Common.{slice_set, []}
use Rattle.std.proofs.lemmas.List.{length-set, get_or-set_same, get_or-set_other}
use Rattle.pipe_files.proofs.laws.tables_are_given.Goals as goal

pub returns : goal.returns
returns c = record {
  slots = λ files slot table. length-set files.tables slot table;
  here = λ files slot table within. get_or-set_same files.tables slot table [] within;
  others = λ files slot other table different. get_or-set_other files.tables slot other table [] different;
  pipes = λ files slot table. c.pipes_are_seen.ensures.same_count (slice_set files.tables slot table) files.pipes;
  used = λ files slot k table some. c.pipes_are_seen.ensures.used (slice_set files.tables slot table) files.pipes k some;
  free = λ files slot k table r w. c.pipes_are_seen.ensures.free (slice_set files.tables slot table) files.pipes k r w;
}
