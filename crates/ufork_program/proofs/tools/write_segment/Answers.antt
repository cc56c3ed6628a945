use Rattle.std.proofs.Common.{◌≡◌, ◌%◌, arith}
use Rattle.ufork_program.proofs.ListingLemmas.{listed-words}
use Rattle.ufork_program.proofs.tools.write_segment.Goals as goal

pub returns : goal.returns
returns g c = λ err.
    let odd : c.args.segment.now.rights % 2 ≡ 1 = omega (arith, c.if-segment-eq0.false) in
    rw (listed-words c.args.file.now c.args.segment.now odd) (c.write_words.ensures err)
