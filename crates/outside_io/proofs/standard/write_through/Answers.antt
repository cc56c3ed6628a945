use Rattle.std.proofs.Common.{◌++◌, take}
use Rattle.std.proofs.KnownBytes.{Appends-trans}
use Rattle.outside_io.proofs.WriteLemmas.{part_and_more, part_kept, rest_split}
use Rattle.outside_io.proofs.standard.write_through.Goals as goal

pub returns-in-Ok-eq0-clause-part : goal.returns-in-Ok-eq0-clause-part
returns-in-Ok-eq0-clause-part g c = part_and_more _ _ _ _ _ _ c.in-Ok-eq0.field-0 c.loop-rest.invariant.list c.loop-rest.invariant.written c.in-Ok-eq0.ensures.bytes

pub returns-in-Err-clause-part : goal.returns-in-Err-clause-part
returns-in-Err-clause-part g c = part_kept _ _ _ _ _ _ c.loop-rest.invariant.list c.loop-rest.invariant.written c.in-Err.ensures.bytes

pub returns-clause-part : goal.returns-clause-part
returns-clause-part g c = part_kept _ _ _ _ _ _ c.loop-rest.invariant.list c.loop-rest.invariant.written c.flush.ensures.bytes

pub loop-rest-preserved : goal.loop-rest-preserved
loop-rest-preserved g c = record {
  done = c.loop-rest.invariant.done ++ take c.in-Ok.count c.loop-rest.rest.now;
  list = rest_split _ _ _ c.in-Ok.count c.loop-rest.invariant.list;
  written = Appends-trans _ _ _ c.loop-rest.invariant.done (take c.in-Ok.count c.loop-rest.rest.now) c.loop-rest.invariant.written c.in-Ok.ensures.bytes;
}
