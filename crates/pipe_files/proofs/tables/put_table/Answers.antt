use Rattle.std.proofs.Common.{◌∙◌, ◌<◌, length, None, arith}
use Rattle.std.proofs.lemmas.List.{get_or_default}
use Rattle.pipe_files.specs.Tables.{entries_at}
use Rattle.pipe_files.proofs.Filling.{filled-more}
use Rattle.pipe_files.proofs.tables.put_table.Goals as goal

pub loop-fd-preserved : goal.loop-fd-preserved
loop-fd-preserved c =
    let before = c.loop-fd.invariant in
    let whole = c.requires.whole in
    let old = c.requires.kept.entries c.args.slot c.requires.slot in
    let within = c.loop-fd-test.true in
    let low : c.loop-fd.fd < length c.args.table.now = omega arith in
    let in-old : c.loop-fd.fd < length (entries_at c.args.tables.now.items c.args.slot) = omega arith in
    record {
      tables = filled-more c.args.tables.now.items c.loop-fd.tables.items c.put_entry.new.tables.items c.args.slot c.loop-fd.fd c.args.table.now _ c.requires.slot low in-old (get_or_default c.args.table.now c.loop-fd.fd _ None low) before.tables c.put_entry.ensures.is;
      kept = c.put_entry.ensures.kept;
      rest = c.put_entry.ensures.rest ∙ before.rest;
    }
