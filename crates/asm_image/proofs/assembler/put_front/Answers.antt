-- The parts stand one behind another.
use Rattle.std.proofs.Common.{arith}
use Rattle.std.proofs.lemmas.Result.{on_ok_weaker}
use Rattle.asm_image.proofs.FilesWritten.{front-put}
use Rattle.asm_image.proofs.assembler.put_front.Goals as goal

pub returns : goal.returns
returns c =
    let segments = c.args.segments.now in
    let relocations = c.args.relocations.now in
    on_ok_weaker c.put_table_header.result
    (λ third.
    front-put c.args.entry _ _ c.in_ok-end.end segments relocations c.args.out.now.items _ _ _ (omega (arith, c.header_count-count.ensures)) (omega (arith, c.header_count-count.ensures)) c.in_ok-end.ensures.end
    c.in_ok-put_file_header.ensures c.in_ok-end.ensures.headers third)
    c.put_table_header.ensures
