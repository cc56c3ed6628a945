use Rattle.std.proofs.Common.{◌≡◌, ◌∙◌, sym, ap, ◌<◌, [], length, arith}
use Rattle.std.proofs.lemmas.List.{get_or-map, get_or_default, length-map}
use Rattle.machine.specs.Pipes.{table_at}
use Rattle.pipe_files.specs.Files.{Files}
use Rattle.pipe_files.specs.Tables.{table_of, tables_of}
use Rattle.pipe_files.proofs.Replacing.{kept-swept, seen-after}
use Rattle.pipe_files.proofs.files.Descriptors.fork.Goals as goal

pub invariant_of-self : goal.invariant_of-self
invariant_of-self c = record {
  input = c.self.invariant.input;
  output = c.self.invariant.output;
  kept = kept-swept c.self.inside.descriptions c.put_table.new.tables.items c.put_table.new.pipes.items c.sweep.new.pipes.items c.sweep.ensures c.put_table.ensures.kept;
}

pub returns : goal.returns
returns c =
    let tables = c.self.inside.tables.items in
    let seen = ap (λ (f : Files). length f.tables) c.self.view_is in
    let long = length-map tables (table_of c.self.inside.descriptions) in
    let from = c.requires.from in
    let low : c.args.from < length tables = omega arith in
    let names : table_of c.self.inside.descriptions c.index.result.now ≡ table_at (tables_of c.self.inside.descriptions tables) c.args.from =
    ap (table_of c.self.inside.descriptions) (c.index.ensures ∙ get_or_default tables c.args.from c.index.result.now [] low) ∙ sym (get_or-map (table_of c.self.inside.descriptions) tables c.args.from [] [] low) in
    rw (← c.self.view_is) (seen-after c.self.inside.descriptions c.self.inside.tables.items c.put_table.new.tables.items c.self.inside.pipes.items c.put_table.new.pipes.items c.sweep.new.pipes.items c.args.to _ _ c.put_table.ensures.is names c.put_table.ensures.kept c.put_table.ensures.rest c.sweep.ensures)
