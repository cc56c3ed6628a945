use Rattle.std.proofs.Common.{◌∙◌, arith}
use Rattle.std.proofs.lemmas.List.{length-set}
use Rattle.cap_format.specs.Image.{headers_at}
use Rattle.cap_format.specs.Numbers.{file_header_bytes}
use Rattle.elf_loader.proofs.Walks.{headers-more}
use Rattle.elf_loader.proofs.program_headers.Headers.read.Goals as goal

pub loop-number-preserved : goal.loop-number-preserved
loop-number-preserved c = record {
  within = omega (arith, c.loop-number-test.true);
  room = length-set c.loop-number.list c.loop-number.number c.header_at.result ∙ c.loop-number.invariant.room;
  same = rw c.header_at.ensures (headers-more c.args.bytes.now c.loop-number.list (headers_at c.args.bytes.now file_header_bytes c.args.count) c.args.count c.loop-number.number
      c.loop-number-test.true (omega (arith, c.loop-number-test.true, c.loop-number.invariant.room, c.requires.few)) c.loop-number.invariant.same);
}
