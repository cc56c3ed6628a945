use Rattle.std.proofs.Common.{rules}
use Rattle.std.proofs.lemmas.List.{take_more_set}
use Rattle.tagged_memory.proofs.Bytes.{bytes_at-more}
use Rattle.tagged_memory.proofs.frame.Frame.bytes_out.Goals as goal

pub loop-i-preserved : goal.loop-i-preserved
loop-i-preserved c =
    let written = take_more_set c.loop-i.into c.loop-i.i c.byte.result (search rules) in
    let more = bytes_at-more c.args.self.now c.args.at c.loop-i.i in
    cc
