use Rattle.std.proofs.Common.{◌∙◌}
use Rattle.cap_format.specs.Image.{identification}
use Rattle.elf_loader.proofs.Walks.{bytes-fault, bytes-more, differ, agree}
use Rattle.elf_loader.proofs.rules.magic_fault.Goals as goal

pub returns-then-bytes-place : goal.returns-then-bytes-place
returns-then-bytes-place c =
    c.fault.ensures ∙ bytes-fault c.args.bytes.now identification c.loop-place.place c.loop-place-test.true (differ c.args.bytes.now identification c.loop-place.place c.if-bytes-place.true) c.loop-place.invariant

pub loop-place-preserved : goal.loop-place-preserved
loop-place-preserved c = bytes-more c.args.bytes.now identification c.loop-place.place c.loop-place-test.true (agree c.args.bytes.now identification c.loop-place.place c.if-bytes-place.false) c.loop-place.invariant
