use Rattle.std.proofs.Common.{◌≡◌, ◌∷◌, [], sym, ap}
use Rattle.outside_io.specs.Parts.{out_part}
use Rattle.ufork_program.specs.Tools.{summary_of, summary_parts}
use Rattle.ufork_program.proofs.ListingLemmas.{printed-line, summary-some}
use Rattle.ufork_program.proofs.tools.write_summary.Goals as goal

pub returns : goal.returns
returns g c = λ err.
    let read = c.requires.1 in
    let printed = printed-line (summary_of c.args.found.now.image) _ _ err _ (summary-some c.args.found.now.image) (rw (c.from.ensures, c.list-relocations.ensures) at c.write_image.ensures) in
    let same : summary_parts c.args.found.now.bytes.items ≡ out_part (summary_of c.args.found.now.image) ∷ [] = ap (λ image. out_part (summary_of image) ∷ []) (sym read) in
    rw same printed
