use Rattle.std.proofs.Common.{refl}
use Rattle.pipe_files.proofs.Replacing.{kept-swept, seen-after}
use Rattle.pipe_files.proofs.files.Descriptors.console.Goals as goal

pub invariant_of-self : goal.invariant_of-self
invariant_of-self c = record {
  input = c.self.invariant.input;
  output = c.self.invariant.output;
  kept = kept-swept c.self.inside.descriptions c.put_table.new.tables.items c.put_table.new.pipes.items c.sweep.new.pipes.items c.sweep.ensures c.put_table.ensures.kept;
}

pub returns : goal.returns
returns c = rw (← c.self.view_is) (seen-after c.self.inside.descriptions c.self.inside.tables.items c.put_table.new.tables.items c.self.inside.pipes.items c.put_table.new.pipes.items c.sweep.new.pipes.items c.args.slot _ _ c.put_table.ensures.is (rw (c.self.invariant.input, c.self.invariant.output) refl) c.put_table.ensures.kept c.put_table.ensures.rest c.sweep.ensures)
