-- The parts make the file of the program.
use Rattle.std.proofs.Common.{◌∙◌}
use Rattle.asm_image.specs.Known.{known}
use Rattle.asm_image.proofs.FilesWritten.{file-put}
use Rattle.asm_image.proofs.Outcomes.{closed-inside, few-closed, few-relocations, program-file}
use Rattle.asm_image.proofs.assembler.write_file.Goals as goal

pub put_front-requires-clause-inside : goal.put_front-requires-clause-inside
put_front-requires-clause-inside c = rw c.requires.segments (closed-inside c.args.text.now c.args.source.now c.requires.keeps.ranges c.requires.keeps.places)

pub put_front-requires-clause-few : goal.put_front-requires-clause-few
put_front-requires-clause-few c = rw c.requires.segments (few-closed c.args.text.now c.args.source.now c.requires.keeps.ranges c.requires.program)

pub put_front-requires-clause-table : goal.put_front-requires-clause-table
put_front-requires-clause-table c =
    rw c.deref.ensures.value
    (few-relocations c.args.text.now c.args.source.now (known c.args.labels.now) c.in_ok-relocations.relocations.items c.requires.labels c.in_ok-relocations.ensures c.requires.program)

pub returns : goal.returns
returns c =
    let text = c.args.text.now in
    let items = c.args.source.now in
    let offsets = known c.args.labels.now in
    let relocations = c.in_ok-relocations.relocations.items in
    let front = rw (c.deref.ensures.value, c.requires.segments) at c.in_ok-put_front.ensures in
    let table = rw c.deref-2.ensures.value at c.in_ok-put_table.ensures in
    file-put text offsets c.args.entry items relocations c.requires.keeps.ranges c.requires.keeps.places c.new-file.result.items _ _ _ c.new-file.ensures.items front c.in_ok-put_body.ensures table
    ∙ program-file text items offsets c.args.entry relocations c.requires.labels c.requires.entry c.in_ok-relocations.ensures
